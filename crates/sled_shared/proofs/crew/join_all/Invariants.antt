-- Unless a call was refused, the shares so far have what their workers promised. There is room for the rest.
use Rattle.std.proofs.Common.{◌≡◌, ◌+◌, ◌++◌, map, vec_len, vec_capacity, IfNone}
use Rattle.std.specs.Vec.Iter.{into_iter_len}
use Rattle.sled_shared.specs.Held.{count_of}
use Rattle.sled_shared.proofs.crew.join_all.Given as goal

abbrev pub invariant-loop-started : goal.invariant-loop-started
invariant-loop-started g l = record {
  raised : IfNone l.first (map (λ share. count_of share) l.back.items ≡ map (λ share. count_of share) l.initial.back.items ++ map (λ started. started.promise.from + started.promise.by) l.yielded);
  len : vec_len l.back + into_iter_len l.started-iterator ≡ vec_len l.initial.back + vec_len l.fn.running;
  capacity : vec_capacity l.back ≡ vec_capacity l.initial.back;
}
