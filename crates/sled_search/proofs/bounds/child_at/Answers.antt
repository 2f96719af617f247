use Rattle.std.proofs.Common.{◌≡◌, suc, arith}
use Rattle.sled_node.specs.Node.{whole}
use Rattle.sled_search.proofs.Counts.{is-child}
use Rattle.sled_search.proofs.bounds.child_at.Goals as goal

pub returns : goal.returns
returns c =
    let next : c.args.count ≡ suc c.in_ok-last.last = omega (arith, c.in_ok-last.ensures) in
    is-child c.args.node.now.pairs c.args.count c.in_ok-last.last (whole c.args.node.now c.pair.result.0.now) c.in_default-Child.page next (rw c.in_default-Child.is-1 at c.pair.ensures)
