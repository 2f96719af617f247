use Rattle.std.proofs.Common.{[]}
use Rattle.sled_node.specs.Neighbours.{IsBefore}
use Rattle.sled_tree.proofs.OrderedReads.{read-ends, read-first, read-then}
use Rattle.sled_tree.proofs.OrderedSeen.{near-below, none-below}
use Rattle.sled_tree.proofs.Performing.{nothing}
use Rattle.sled_tree.proofs.neighbours.nearest.near_below.Goals as goal

pub returns : goal.returns
returns g c =
    read-then g.L.Log (read-first g.L.Log c.in_ok-leaf.ensures)
    (λ pages comes near shows m tree. near-below pages c.args.root m tree c.args.bound.now c.in_ok-leaf.leaf (c.has_keys.ensures.0 c.if-not-has_keys.false) comes near shows)
    c.near_at.ensures

pub returns-then-not-has_keys : goal.returns-then-not-has_keys
returns-then-not-has_keys g c =
    let never : IsBefore c.args.bound.now [] → ⊥ = λ before. absurd (let h = c.has_keys.ensures.1 before in let e = c.if-not-has_keys.true in cc) in
    read-ends g.L.Log (nothing g.L.Log c.args.cache.now) (λ pages _ m tree. none-below m c.args.bound.now never)
