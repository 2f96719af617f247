use Rattle.std.proofs.Common.{◌≡◌, ◌++◌, length, drop, ap, subst, ◌∙◌, arith}
use Rattle.std.proofs.lemmas.List.{length-append}
use Rattle.sled_node.specs.Payloads.Data.{written_data}
use Rattle.sled_node.specs.Payloads.Nodes.{written_node}
use Rattle.sled_node.proofs.Payloads.WriteAll.{placed}
use Rattle.sled_node.proofs.Payloads.Nodes.{parts_of, written_head, written_bounds, written_is, whole_length, rooms, parts_stored}
use Rattle.sled_node.proofs.node.payload.NodeSerialize.serialize_into.Goals as goal

pub write_three-start-requires-clause-room : goal.write_three-start-requires-clause-room
write_three-start-requires-clause-room c = omega (arith, rooms (parts_of c.self.inside) c.self.invariant _ c.self.view_is _ c.requires)

pub write_three_at-end-requires-clause-room : goal.write_three_at-end-requires-clause-room
write_three_at-end-requires-clause-room c = omega (arith, rooms (parts_of c.self.inside) c.self.invariant _ c.self.view_is _ c.requires, c.write_three-start.ensures.size, c.write_three-start.auto.out)

pub write_at-requires-clause-can_write : goal.write_at-requires-clause-can_write
write_at-requires-clause-can_write c = parts_stored (parts_of c.self.inside) c.self.invariant

pub write_at-requires-clause-room : goal.write_at-requires-clause-room
write_at-requires-clause-room c = omega (arith, rooms (parts_of c.self.inside) c.self.invariant _ c.self.view_is _ c.requires, c.write_three-start.ensures.size, c.write_three_at-end.ensures.size, c.write_three-start.auto.out, c.write_three_at-end.auto.out)

pub returns-clause-size : goal.returns-clause-size
returns-clause-size c =
    omega (arith, whole_length (parts_of c.self.inside) c.self.invariant, ap (λ m. length (written_node m)) c.self.view_is, c.write_three-start.ensures.size, c.write_three_at-end.ensures.size, c.write_at.ensures.size)

pub returns-clause-bytes : goal.returns-clause-bytes
returns-clause-bytes c =
    let parts = parts_of c.self.inside in
    let out = c.args.out.now in
    let head = written_head parts in
    let bounds = written_bounds parts in
    let one = placed out c.write_three-start.new.out c.write_three_at-end.new.out head bounds c.write_three-start.result c.write_three-start.ensures.bytes c.write_three-start.ensures.size c.write_three_at-end.ensures.bytes in
    let end : c.write_three_at-end.result ≡ length (head ++ bounds) = omega (arith, c.write_three_at-end.ensures.size, c.write_three-start.ensures.size, length-append head bounds) in
    let two = placed out c.write_three_at-end.new.out c.write_at.new.out (head ++ bounds) (written_data parts.2) c.write_three_at-end.result one end c.write_at.ensures.bytes in
    subst (λ text. c.write_at.new.out ≡ text ++ drop (length text) out) (written_is parts c.self.invariant ∙ ap written_node c.self.view_is) two
