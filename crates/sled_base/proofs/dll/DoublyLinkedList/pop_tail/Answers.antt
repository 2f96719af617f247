use Rattle.std.proofs.Common.{[], sym, ◌∙◌}
use Rattle.std.proofs.lemmas.List.{append-nil}
use Rattle.sled_base.specs.Links.{listed_in}
use Rattle.sled_base.proofs.LinkedLists.Standing.{last_from}
use Rattle.sled_base.proofs.dll.DoublyLinkedList.pop_tail.Goals as goal

pub returns-clause-some : goal.returns-clause-some
returns-clause-some c =
    let last = last_from (listed_in c.self.inside.links) c.in_ok-slot.slot (sym c.in_ok-slot.ensures.value) in
    let out = c.remove.ensures.list last.front [] last.item last.is in
    (c.in_ok-slot.slot, rw (out.0, out.1, append-nil) (sym c.self.view_is ∙ last.is))
