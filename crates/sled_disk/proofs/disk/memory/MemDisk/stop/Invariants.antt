use Rattle.std.proofs.Common.{◌≡◌, ◌≤◌, true, length, take, drop, vec_capacity}
use Rattle.sled_disk.specs.Journal.{all_synced, after_calls, are_within, calls_in, IsReplayed}
use Rattle.sled_disk.proofs.disk.memory.MemDisk.stop.Given as goal

-- the calls so far were made again, the others begin within what is seen, and there is room for what they write
abbrev pub invariant-loop-call : goal.invariant-loop-call
invariant-loop-call l = record {
  replayed : IsReplayed l.fill (after_calls (all_synced l.fn.self.start.items) (take l.call-index (calls_in l.fn.self.written.items l.fn.self.calls.items))) l.seen.items l.left.items;
  within : are_within (length l.fn.self.written.items) (length l.seen.items) (length l.fn.self.bytes.items) (drop l.call-index l.fn.self.calls.items) ≡ true;
  seen_room : vec_capacity l.fn.self.bytes ≤ vec_capacity l.seen;
  left_room : vec_capacity l.fn.self.start ≤ vec_capacity l.left;
}
