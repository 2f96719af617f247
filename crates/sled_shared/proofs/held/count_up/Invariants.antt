-- The shares that were merged, and those that are left, are all of them.
use Rattle.std.proofs.Common.{◌≡◌, ◌+◌, length, sum_by, All}
use Rattle.std.proofs.Common.{vec_len}
use Rattle.sled_shared.specs.Held.{count_of}
use Rattle.sled_shared.specs.History.{HasAll}
use Rattle.sled_shared.proofs.held.count_up.Given as goal

abbrev pub invariant-loop-share : goal.invariant-loop-share
invariant-loop-share g l = record {
  parts : l.whole.parts + length l.left.items ≡ g.K.Ledger.parts;
  amount : l.whole.amount + sum_by count_of l.left.items ≡ sum_by count_of l.fn.shares.items;
  history : l.history ≡ l.fn.history;
  seen : All (λ s. HasAll s.number s.seen l.fn.history.log) l.left.items → All (λ s. HasAll s.number s.seen l.fn.history.log) l.fn.shares.items;
}

abbrev pub decreases-loop-share : goal.decreases-loop-share
decreases-loop-share g l = vec_len l.left
