-- Each turn reads the first pair of what is left.
use Rattle.std.proofs.Common.{[], ◌∷◌, append_assoc, append-nil, length, ap, subst, arith}
use Rattle.std.proofs.lemmas.List.{length-append}
use Rattle.sled_handle.specs.Pairs.{EncodePairs, pair_bytes}
use Rattle.sled_handle.proofs.PairBytes.{is_empty, is_some, no_pairs, one_more, one_less}
use Rattle.sled_handle.proofs.pairs.read.pairs_in.Goals as goal

pub loop-left-init : goal.loop-left-init
loop-left-init c = record {
  some = λ others encode. rw c.new-pairs.ensures.items encode;
  none = λ pairs encode. (pairs, encode);
}

pub returns-in_default-clause-none : goal.returns-in_default-clause-none
returns-in_default-clause-none c = λ pairs encode.
    let left = c.loop-left.invariant.none pairs encode in
    no_pairs c.loop-left.left.now (is_some _ _ c.is_empty.ensures c.loop-left-test.true) c.in_default.ensures.none left.0 left.1

pub loop-left-smaller : goal.loop-left-smaller
loop-left-smaller c =
    let read = c.in-Some.ensures.some in
    omega (arith, ap length read.1, length-append (pair_bytes (c.in-Some.key.now, c.in-Some.value.now)) c.in-Some.behind.now)

pub loop-left-preserved : goal.loop-left-preserved
loop-left-preserved c =
    let read = c.in-Some.ensures.some in record {
      some = λ others encode.
          rw (c.in_ok-push.ensures.items, append_assoc, c.in_ok-key.ensures.ok, c.in_ok-value.ensures.ok)
          (c.loop-left.invariant.some ((c.in-Some.key.now, c.in-Some.value.now) ∷ others) (one_more c.loop-left.left.now c.in-Some.behind.now (c.in-Some.key.now, c.in-Some.value.now) others read encode));
      none = λ pairs encode.
          let left = c.loop-left.invariant.none pairs encode in
          one_less c.loop-left.left.now c.in-Some.behind.now (c.in-Some.key.now, c.in-Some.value.now) left.0 read left.1;
    }

pub returns-clause-some : goal.returns-clause-some
returns-clause-some c = subst (EncodePairs c.args.bytes.now) (append-nil c.loop-left.pairs.items) (c.loop-left.invariant.some [] (tt, is_empty _ _ c.is_empty.ensures c.loop-left-test.false))
