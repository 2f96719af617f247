use Rattle.std.proofs.Common.{arith}
use Rattle.sled_tree.proofs.OrderedPieces.{place-more}
use Rattle.sled_tree.proofs.neighbours.pieces.copies.Goals as goal

pub places-preserved : goal.places-preserved
places-preserved c =
    let pair = c.in_ok-whole_pair.field-0 in
    rw c.in_ok-push.ensures.items
    (place-more c.args.first c.places.at c.args.node.now.pairs c.places.pairs.items pair.0 pair.1 (omega (arith, c.places.auto.at)) c.in_ok-whole_pair.ensures.there c.places.invariant)
