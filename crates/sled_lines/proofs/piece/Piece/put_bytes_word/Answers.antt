-- The parts are put one behind the other, where they aren't both empty.
use Rattle.std.proofs.Common.{◌<◌, ◌+◌, ◌++◌, length, length-append, ap, sym, ◌∙◌, append_assoc, arith}
use Rattle.std.proofs.lemmas.Bool.Decides.{nat_tests}
use Rattle.sled_lines.specs.Words.{hex}
use Rattle.sled_lines.proofs.Pieces.{parts_fit, word_of_parts}
use Rattle.sled_lines.proofs.piece.Piece.put_bytes_word.Goals.{else-is_empty-via-then-is_empty+else-is_empty-2, else-is_empty-via-else-is_empty}
use Rattle.sled_lines.proofs.piece.Piece.put_bytes_word.Goals as goal

pub put_hex-requires : goal.put_hex-requires
put_hex-requires c = omega (arith, c.requires, parts_fit c.args.front.now c.args.rest.now)

pub put_hex-requires-2 : goal.put_hex-requires-2
put_hex-requires-2 c = omega (arith, c.requires, parts_fit c.args.front.now c.args.rest.now, ap length c.put_hex.ensures, length-append c.args.self.now (hex c.args.front.now))

pub returns : goal.returns
returns c =
    let front = c.args.front.now in
    let rest = c.args.rest.now in
    let some : 0 < length front + length rest = elim c.else-is_empty.branch [
      | else-is_empty-via-then-is_empty+else-is_empty-2 w ↦ grind (arith, nat_tests)
      | else-is_empty-via-else-is_empty w ↦ grind (arith, nat_tests)
    ] in
    c.put_hex-2.ensures ∙ ap (λ l. l ++ hex rest) c.put_hex.ensures ∙ append_assoc c.args.self.now (hex front) (hex rest) ∙ ap (λ l. c.args.self.now ++ l) (sym (word_of_parts front rest some))
