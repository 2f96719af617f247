-- There is room for the shares that are left, and all come back but one.
use Rattle.std.proofs.Common.{◌+◌, ◌≤◌, vec_len, vec_capacity}
use Rattle.std.specs.Vec.Iter.{into_iter_len}
use Rattle.sled_shared.proofs.crew.run_crew.Given as goal

abbrev pub invariant-loop-share : goal.invariant-loop-share
invariant-loop-share g l = record {
  room : vec_len l.back + into_iter_len l.share-iterator ≤ vec_capacity l.back;
  lost : vec_len l.fn.shares ≤ (vec_len l.back + into_iter_len l.share-iterator) + 1;
}
