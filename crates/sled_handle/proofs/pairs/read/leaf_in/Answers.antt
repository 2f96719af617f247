-- Bytes encode one list of pairs, so no other pairs make a leaf.
use Rattle.sled_handle.proofs.PairBytes.{leaf_encoded, no_leaf_encoded}
use Rattle.sled_handle.proofs.pairs.read.leaf_in.Goals as goal

pub returns-clause-some : goal.returns-clause-some
returns-clause-some c = leaf_encoded _ _ _ (rw c.in-Some.is at c.in_ok-pairs.ensures.some) c.leaf_of.ensures

pub returns-clause-none : goal.returns-clause-none
returns-clause-none c = no_leaf_encoded _ _ _ (rw c.in-Some.is at c.in_ok-pairs.ensures.some) c.leaf_of.ensures

pub returns-in_default-clause-none : goal.returns-in_default-clause-none
returns-in_default-clause-none c = λ node leaf. (rw c.in_default.is at c.in_ok-pairs.ensures.none) leaf.pairs leaf.encode
