use Rattle.std.proofs.Common.{arith}
use Rattle.std.specs.Option.{option_map}
use Rattle.std.specs.Int.NonZero.{non_zero_u64_get}
use Rattle.sled_node.proofs.Children.{holds_index, accepts_with_room}
use Rattle.sled_node.proofs.node.Node.accepts_child.Goals as goal

-- an index with the key in its range, and a key within the limit
pub returns-then-at-le-MAX_BYTES : goal.returns-then-at-le-MAX_BYTES
returns-then-at-le-MAX_BYTES c =
    let n = c.self.inside in
    let holds = holds_index n.prefix_len (option_map non_zero_u64_get n.next) (option_map non_zero_u64_get n.merging_child) n.merging n.lo n.hi n.contents c.in-Index.index c.args.self.now c.in-Index.is c.self.view_is in
    let fits = c.if-at-le-MAX_BYTES.true in
    accepts_with_room c.args.self.now c.in-Index.index holds c.without_prefix.result.now c.args.at.now c.without_prefix.ensures.key c.has_room.result (c.contains_key.ensures.0 fits.0) (omega (arith, fits.1)) c.has_room.ensures
