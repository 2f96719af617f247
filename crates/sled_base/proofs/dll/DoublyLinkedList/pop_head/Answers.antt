use Rattle.std.proofs.Common.{[], sym, ◌∙◌}
use Rattle.sled_base.specs.Links.{listed_in}
use Rattle.sled_base.proofs.LinkedLists.Standing.{first_from}
use Rattle.sled_base.proofs.dll.DoublyLinkedList.pop_head.Goals as goal

pub returns-clause-some : goal.returns-clause-some
returns-clause-some c =
    let first = first_from (listed_in c.self.inside.links) c.in_ok-slot.slot (sym c.in_ok-slot.ensures.value) in
    let out = c.remove.ensures.list [] first.back first.item first.is in
    (c.in_ok-slot.slot, rw (out.0, out.1) (sym c.self.view_is ∙ first.is))
