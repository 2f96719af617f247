-- Only the device may change, and what was read lies within the log.
use Rattle.sled_log.proofs.Names.{◌-◌, ◌≡◌, ◌≤◌}
use Rattle.sled_log.proofs.tests.blind.BlindLogLog.recover.Given as goal

abbrev pub invariant-loop-at : goal.invariant-loop-at
invariant-loop-at g l = record {
  end : l.self.end ≡ l.fn.self.end;
  batch : l.self.batch ≡ l.fn.self.batch;
  reads : l.self.reads ≡ l.fn.self.reads;
  failed_reads : l.self.failed_reads ≡ l.fn.self.failed_reads;
  write_faults : l.self.write_faults ≡ l.fn.self.write_faults;
  within : l.at ≤ l.self.end;
}

abbrev pub decreases-loop-at : goal.decreases-loop-at
decreases-loop-at g l = l.self.end - l.at
