-- A word that is no dash encodes bytes by two digits each.
use Rattle.std.proofs.Common.{arith}
use Rattle.std.proofs.lemmas.Bool.Decides.{nat_tests}
use Rattle.sled_lines.proofs.Hex.{no_dash, even_word}
use Rattle.sled_lines.proofs.words.bytes_of.Goals.{then-is_empty-via-then-is_empty, then-is_empty-via-else-is_empty+then-word-ne0}
use Rattle.sled_lines.proofs.words.bytes_of.Goals as goal

pub returns-then-is_empty-clause-none : goal.returns-then-is_empty-clause-none
returns-then-is_empty-clause-none c = λ bytes are e.
    let other = no_dash _ _ _ c.as_slice.ensures c.eq.ensures c.if-eq.false in
    let even = even_word bytes _ e other in
    elim c.then-is_empty.branch [ then-is_empty-via-then-is_empty w ↦ grind (arith, nat_tests) | then-is_empty-via-else-is_empty+then-word-ne0 w ↦ grind (arith, nat_tests) ]
