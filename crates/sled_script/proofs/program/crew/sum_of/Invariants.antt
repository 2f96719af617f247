-- The counts so far are added.
use Rattle.std.proofs.Common.{◌≡◌, sum_by, take}
use Rattle.sled_shared.specs.Held.{count_of}
use Rattle.sled_script.proofs.program.crew.sum_of.Given as goal

abbrev pub invariant-loop-share : goal.invariant-loop-share
invariant-loop-share g l = l.sum ≡ sum_by count_of (take l.share-index l.shares)
