use Rattle.std.proofs.Common.{◌≡◌, true, List, sym, ◌∙◌, ap, subst, length}
use Rattle.sled_disk.specs.Journal.{Sync, are_within, Image, calls_in, all_synced, after_calls}
use Rattle.sled_disk.specs.declared.disk.journal.Call.{Call as StoredCall}
use Rattle.sled_disk.proofs.Disks.JournalCalls.{within-sync-more, calls_in-sync, after_calls-push}
use Rattle.sled_disk.proofs.disk.memory.MemDisk.note_sync.Goals as goal

pub invariant_of-self-clause-within : goal.invariant_of-self-clause-within
invariant_of-self-clause-within c =
    let self = c.args.self.now in
    subst (λ (l : List StoredCall). are_within (length self.written.items) (length self.start.items) (length self.bytes.items) l ≡ true) (sym c.push_reserved.ensures.items)
    (within-sync-more (length self.written.items) (length self.start.items) (length self.bytes.items) self.calls.items self.within)

pub invariant_of-self-clause-replayed : goal.invariant_of-self-clause-replayed
invariant_of-self-clause-replayed c =
    let self = c.args.self.now in
    let noted = ap (calls_in self.written.items) c.push_reserved.ensures.items ∙ calls_in-sync self.written.items self.calls.items in
    let is = ap (after_calls (all_synced self.start.items)) noted ∙ after_calls-push (all_synced self.start.items) (calls_in self.written.items self.calls.items) Sync in
    self.replayed ∙ sym (ap (λ (image : Image). image.seen) is)
