use Rattle.std.proofs.Common.{◌≡◌, ◌++◌, length}
use Rattle.sled_base.specs.Dll.{items}
use Rattle.sled_base.proofs.dll.DoublyLinkedList.into_vec.Given as goal

abbrev pub invariant-loop-item : goal.invariant-loop-item
invariant-loop-item l = l.items.items ++ items l.self ≡ items l.fn.self

abbrev pub decreases-loop-item : goal.decreases-loop-item
decreases-loop-item l = length l.self
