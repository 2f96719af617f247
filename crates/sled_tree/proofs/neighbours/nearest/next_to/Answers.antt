use Rattle.std.proofs.Common.{subst}
use Rattle.sled_tree.specs.OrderedLeaves.{IsNear}
use Rattle.sled_tree.specs.declared.neighbours.Near.{Near}
use Rattle.sled_tree.proofs.OrderedReads.{first-fails, read-ends, read-fails, read-first, read-lost, read-on}
use Rattle.sled_tree.proofs.OrderedSeen.{near-on}
use Rattle.sled_tree.proofs.neighbours.nearest.next_to.Goals as goal

pub leaves-init : goal.leaves-init
leaves-init g c = read-first g.L.Log c.in_ok-near.ensures

pub leaves-preserved : goal.leaves-preserved
leaves-preserved g c =
    read-on g.L.Log c.leaves.invariant
    (near-on c.args.side c.args.root c.args.bound.now c.in-Further.next c.leaves.near c.in_ok-near-in-Further.near c.in-Further.is) c.in_ok-near-in-Further.ensures

pub returns-in-Pair : goal.returns-in-Pair
returns-in-Pair g c =
    read-ends g.L.Log c.leaves.invariant (λ pages seen m tree. subst (λ (near : Near). IsNear c.args.side m c.args.bound.now near) c.in-Pair.is (seen m tree))

pub returns-in-Nothing : goal.returns-in-Nothing
returns-in-Nothing g c =
    read-ends g.L.Log c.leaves.invariant (λ pages seen m tree. subst (λ (near : Near). IsNear c.args.side m c.args.bound.now near) c.in-Nothing.is (seen m tree))

pub returns-in_err-near : goal.returns-in_err-near
returns-in_err-near g c = first-fails g.L.Log c.from_residual.ensures.0 c.near_to.ensures

pub returns-in_err-near-in-Further : goal.returns-in_err-near-in-Further
returns-in_err-near-in-Further g c = read-fails g.L.Log c.leaves.invariant c.from_residual-in_err-near-in-Further.ensures.0 c.near_to-in-Further.ensures

pub returns : goal.returns
returns g c = read-lost g.L.Log c.leaves.invariant
