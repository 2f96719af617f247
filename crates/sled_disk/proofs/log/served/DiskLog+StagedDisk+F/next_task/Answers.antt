use Rattle.std.proofs.Common.{ℕ, List, refl, ap, sym, ◌∙◌}
use Rattle.sled_log.specs.Calls.{Counts}
use Rattle.sled_disk.specs.CallersFile.{held_after}
use Rattle.sled_disk.specs.StagedReads.{seen_in}
use Rattle.sled_disk.specs.PendingFrame.{state_of}
use Rattle.sled_disk.proofs.LogCalls.CallOutcomes.{opens-by}
use Rattle.sled_disk.proofs.log.served.DiskLog+StagedDisk+F.next_task.Goals as goal

pub returns-clause-stays : goal.returns-clause-stays
returns-clause-stays g c =
    let self = c.args.self.now in
    let new = c.next_task.new.self in
    let rests = c.next_task.ensures.rests in
    record {
      usable = refl;
      opened = opens-by (seen_in (held_after (g.F.CallersFile.first new.file) (g.F.CallersFile.done new.file)) new.stage.tasks) self.next.gate self.next.spilled self.next.buffer.items
          ∙ sym (opens-by (seen_in (held_after (g.F.CallersFile.first self.disk.file) (g.F.CallersFile.done self.disk.file)) self.disk.stage.tasks) self.next.gate self.next.spilled self.next.buffer.items);
      counts = ap (λ (disk : Counts). record { reads = self.reads; failed_reads = disk.failed_reads; write_faults = disk.write_faults }) c.next_task.ensures.counts;
      state = λ told. ap (λ (seen : List ℕ). state_of seen self.next self.usable) (rests.same told);
      later = rests.later;
      nothing_else = λ told t pages le left. (left.0, rests.nothing_else told t left.0 le left.1, left.2);
      kept = λ told t pages le left. (left.0, rests.kept told t left.0 le left.1, left.2);
    }
