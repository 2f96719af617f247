-- Each turn decodes a byte.
use Rattle.std.proofs.Common.{◌≡◌, ◌+◌, ◌*◌, ◌<◌, ◌++◌, ◌∷◌, [], length, take, get_or, slice_set, sym, ap, subst, ◌∙◌, arith}
use Rattle.std.proofs.lemmas.List.{take_more_set, length-set}
use Rattle.sled_lines.specs.Words.{AreBytes}
use Rattle.sled_lines.proofs.Hex.{length-hex, digits_at, byte_more}
use Rattle.sled_lines.proofs.Encoded.{all_and_one}
use Rattle.sled_lines.proofs.words.decode.Goals as goal

pub returns-in-None-clause-none : goal.returns-in-None-clause-none
returns-in-None-clause-none c = λ refused bytes are e.
    let i = c.loop-index.index in
    let count : length c.args.word.now ≡ 2 * length bytes = ap length e ∙ length-hex bytes in
    let digits = digits_at bytes i are (omega arith) in
    c.in-None.ensures.none digits.0 digits.1 (ap (λ text. get_or text (2 * i) 0) e ∙ digits.2) (ap (λ text. get_or text (2 * i + 1) 0) e ∙ digits.3)

pub loop-index-preserved : goal.loop-index-preserved
loop-index-preserved c =
    let i = c.loop-index.index in
    let byte = c.in-Some.byte in
    let front = take i c.loop-index.bytes in
    let next : take (i + 1) (slice_set c.loop-index.bytes i byte) ≡ front ++ byte ∷ [] = take_more_set c.loop-index.bytes i byte (omega arith) in
    record {
      count = length-set c.loop-index.bytes i byte ∙ c.loop-index.invariant.count;
      bytes = subst AreBytes (sym next) (all_and_one (λ b. b < 256) front byte c.loop-index.invariant.bytes (omega arith));
      encoded = byte_more c.args.word.now front _ i byte c.loop-index.invariant.encoded (omega arith) c.in-Some.ensures.some.0 c.in-Some.ensures.some.1 next;
    }
