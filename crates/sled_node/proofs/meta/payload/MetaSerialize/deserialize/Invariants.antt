use Rattle.std.proofs.Common.{◌≤◌, ◌^◌, length}
use Rattle.sled_node.proofs.Payloads.Roots.{PutSoFar}
use Rattle.sled_node.proofs.meta.payload.MetaSerialize.deserialize.Given as goal

abbrev pub invariant-loop-alloc : goal.invariant-loop-alloc
invariant-loop-alloc l = record {
  put : PutSoFar l.fn.input.now l.rest l.meta;
  few : length l.meta ≤ 2 ^ 24;
}

-- each pair takes bytes
abbrev pub decreases-loop-alloc : goal.decreases-loop-alloc
decreases-loop-alloc l = length l.rest
