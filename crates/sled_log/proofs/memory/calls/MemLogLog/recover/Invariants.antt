use Rattle.sled_log.proofs.Names.{drop, last_in}
use Rattle.sled_log.proofs.Recovering.{IsRecovering}
use Rattle.sled_log.proofs.memory.calls.MemLogLog.recover.Given as goal

-- the pages so far are those of the items so far
abbrev pub invariant-loop-item : goal.invariant-loop-item
invariant-loop-item l = IsRecovering l.fn.self.blob_limit l.fn.self.bytes.items (last_in l.fn.self) l.fn.self.items.items l.place (drop l.item-index l.item-items) l.pages.items
