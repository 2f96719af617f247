-- Each part of the ledger but one becomes a share, with no call yet.
use Rattle.std.proofs.Common.{◌≡◌, ◌+◌, length, sum_by}
use Rattle.sled_shared.specs.Held.{count_of}
use Rattle.sled_script.proofs.program.crew.draw_ids.Given as goal

abbrev pub invariant-loop-share : goal.invariant-loop-share
invariant-loop-share g l = record {
  parts : length l.shares.items + l.held.left ≡ l.fn.workers + 1;
  none : sum_by count_of l.shares.items ≡ 0;
}

abbrev pub decreases-loop-share : goal.decreases-loop-share
decreases-loop-share g l = l.held.left
