use Rattle.std.proofs.Common.{None, rules, sym, ap, ◌∙◌}
use Rattle.sled_base.proofs.LinkedLists.Standing.{promotes, promotes-first}
use Rattle.sled_base.specs.Links.{first_slot_or}
use Rattle.sled_base.proofs.dll.DoublyLinkedList.promote.Goals as goal

pub returns-clause-promoted : goal.returns-clause-promoted
returns-clause-promoted c =
    promotes-first c.args.slot c.in-Some.first c.args.self.now (ap (first_slot_or None) (sym c.self.view_is) ∙ sym c.first.ensures.value ∙ c.in-Some.is) c.if-first-slot.true

pub returns-2-clause-promoted : goal.returns-2-clause-promoted
returns-2-clause-promoted c =
    promotes c.args.slot c.unlink-item.result _ _ _ _ c.self.view_is c.requires c.unlink-item.ensures.list (search rules)
