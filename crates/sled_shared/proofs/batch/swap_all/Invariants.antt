-- The swaps so far were made, and there is room for the answers to the rest.
use Rattle.std.proofs.Common.{◌≡◌, ◌+◌, ◌≤◌, length, vec_len, vec_capacity}
use Rattle.sled_shared.proofs.Batching.{RunsSo}
use Rattle.sled_shared.proofs.batch.swap_all.Given as goal

abbrev pub invariant-loop-one : goal.invariant-loop-one
invariant-loop-one g l =
    record {
      made : RunsSo g.L.Log l.fn.copies.items l.left.items l.answers.items l.endings.items l.initial.cache l.cache;
      answers : vec_len l.answers + length l.left.items ≤ vec_capacity l.answers;
      endings : vec_len l.endings + length l.left.items ≤ vec_capacity l.endings;
      batch : l.cache.batch ≡ l.initial.cache.batch;
    }

abbrev pub decreases-loop-one : goal.decreases-loop-one
decreases-loop-one g l = length l.left.items
