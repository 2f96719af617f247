use Rattle.std.proofs.Common.{subst}
use Rattle.sled_base.specs.Dll.{slots, AreDistinct}
use Rattle.sled_base.proofs.LinkedLists.Keeping.{are_distinct}
use Rattle.sled_base.proofs.dll.DoublyLinkedList.is_live.Goals as goal

pub returns-clause-distinct : goal.returns-clause-distinct
returns-clause-distinct c =
    subst (λ list. AreDistinct (slots list)) c.self.view_is (are_distinct c.self.inside.links c.self.invariant)
