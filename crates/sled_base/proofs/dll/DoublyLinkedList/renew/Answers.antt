use Rattle.std.proofs.Common.{None, sym, ap, ◌∙◌}
use Rattle.sled_base.proofs.LinkedLists.Standing.{renews, renews-first}
use Rattle.sled_base.specs.Links.{first_slot_or}
use Rattle.sled_base.proofs.dll.DoublyLinkedList.renew.Goals as goal

pub returns : goal.returns
returns c =
    renews-first c.args.slot c.in-Some.first c.item.result c.args.other c.args.self.now (ap (first_slot_or None) (sym c.self.view_is) ∙ sym c.first.ensures.value ∙ c.in-Some.is) c.if-first-slot.true c.if-item-other.true c.item.ensures

pub returns-2 : goal.returns-2
returns-2 c =
    renews c.args.slot c.unlink.result c.args.other _ _ _ _ c.self.view_is c.requires c.unlink.ensures.list c.link_head.ensures.list
