-- While each thread was started, the workers promise what is claimed. There is room for the rest.
use Rattle.std.proofs.Common.{◌≡◌, ◌+◌, ◌≤◌, true, map, vec_len, vec_capacity}
use Rattle.std.specs.Prelude.{if◌then◌else◌}
use Rattle.std.specs.Vec.Iter.{into_iter_len}
use Rattle.sled_shared.specs.Held.{count_of}
use Rattle.sled_shared.proofs.crew.start_all.Given as goal

abbrev pub invariant-loop-share : goal.invariant-loop-share
invariant-loop-share g l = record {
  promised : l.all ≡ true → map (λ started. started.promise.from + started.promise.by) l.running.items ≡ map (λ share. count_of share + l.calls) l.yielded;
  len : ((vec_len l.running + vec_len l.left) + (if l.all then 0 else 1)) + into_iter_len l.share-iterator ≡ vec_len l.fn.shares;
  running : vec_len l.fn.shares ≤ vec_capacity l.running;
  left : vec_len l.fn.shares ≤ vec_capacity l.left;
}
