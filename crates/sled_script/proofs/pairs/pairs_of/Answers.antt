-- Each turn takes the first word of what is left.
use Rattle.std.proofs.Common.{append_assoc, append-nil, [], ◌∷◌, refl}
use Rattle.sled_lines.proofs.Encoded.{all_and_one}
use Rattle.sled_script.specs.Pairs.{IsPairOfBytes}
use Rattle.sled_script.proofs.PairWords.{one_more, one_less}
use Rattle.sled_script.proofs.pairs.pairs_of.Goals as goal

pub returns-in_default-2-clause-none : goal.returns-in_default-2-clause-none
returns-in_default-2-clause-none c = λ pairs are encode.
    let left = (rw c.in-Some.is at c.loop-left.invariant.none) pairs are encode in
    let less = one_less _ _ _ left.0 c.first_word.ensures left.1 left.2 in
    (rw c.in_default-2.is at c.in_ok-pair.ensures.none) less.0 less.2 less.3

pub loop-left-preserved : goal.loop-left-preserved
loop-left-preserved c = record {
  some = λ others encode.
      let word = rw c.in-Some-2.is at c.in_ok-pair.ensures.some in
      rw (c.in_ok-push.ensures.items, append_assoc) ((rw c.in-Some.is at c.loop-left.invariant.some) (c.in-Some-2.pair ∷ others) (one_more _ _ c.in-Some-2.pair _ others c.first_word.ensures word encode));
  bytes =
      let pair = rw c.in-Some-2.is at c.in_ok-pair.ensures.bytes in
      rw c.in_ok-push.ensures.items (all_and_one IsPairOfBytes c.loop-left.pairs.items c.in-Some-2.pair c.loop-left.invariant.bytes pair);
  none = λ pairs are encode.
      let left = (rw c.in-Some.is at c.loop-left.invariant.none) pairs are encode in
      let less = one_less _ _ _ left.0 c.first_word.ensures left.1 left.2 in
      (less.1, less.4, less.5);
}

pub returns-clause-some : goal.returns-clause-some
returns-clause-some c = rw append-nil at ((rw c.in_default.is at c.loop-left.invariant.some) [] refl)
