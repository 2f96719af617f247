use Rattle.std.proofs.Common.{◌≡◌, List, sym, subst, arith}
use Rattle.std.specs.Prelude.{IfOk}
use Rattle.sled_base.specs.Order.{Bytes}
use Rattle.sled_node.specs.Node.{Item}
use Rattle.sled_tree.specs.OrderedLeaves.{as_items}
use Rattle.sled_tree.proofs.OrderedPieces.{within-places, within-none}
use Rattle.sled_tree.proofs.neighbours.pieces.pairs_in.Goals as goal

pub returns-then-first-end : goal.returns-then-first-end
returns-then-first-end c =
    subst (λ (ps : List (Bytes × Item)). IfOk c.copies.result (λ pairs. as_items pairs.items ≡ ps))
    (sym (within-places c.args.from.now c.args.to.now c.args.node.now.pairs c.first_behind-first.result c.end_before-end.result c.first_behind-first.ensures c.end_before-end.ensures (omega (arith, c.if-first-end.true))))
    c.copies.ensures

pub returns-else-first-end : goal.returns-else-first-end
returns-else-first-end c =
    rw c.new.ensures.items
    (sym (within-none c.args.from.now c.args.to.now c.args.node.now.pairs c.first_behind-first.result c.end_before-end.result c.first_behind-first.ensures c.end_before-end.ensures c.if-first-end.false))
