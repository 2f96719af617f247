-- A text encodes one list of pairs, so no other pairs make a leaf.
use Rattle.sled_script.proofs.Commands.{leaf_encoded, no_leaf_encoded}
use Rattle.sled_script.proofs.command.leaf_in.Goals as goal

pub returns-clause-some : goal.returns-clause-some
returns-clause-some c =
    let encoded = rw c.in-Some.is at c.in_ok-pairs.ensures.some in
    let bytes = rw c.in-Some.is at c.in_ok-pairs.ensures.bytes in
    leaf_encoded _ _ _ encoded bytes c.leaf_of.ensures

pub returns-clause-none : goal.returns-clause-none
returns-clause-none c =
    let encoded = rw c.in-Some.is at c.in_ok-pairs.ensures.some in
    let bytes = rw c.in-Some.is at c.in_ok-pairs.ensures.bytes in
    no_leaf_encoded _ _ _ encoded bytes c.leaf_of.ensures

pub returns-in_default-clause-none : goal.returns-in_default-clause-none
returns-in_default-clause-none c = λ node leaf. (rw c.in_default.is at c.in_ok-pairs.ensures.none) leaf.0 leaf.1.bytes leaf.2
