-- The swaps so far were copied.
use Rattle.std.proofs.Common.{◌≡◌, take}
use Rattle.sled_shared.proofs.batch.copies_of.Given as goal

abbrev pub invariant-loop-swap : goal.invariant-loop-swap
invariant-loop-swap l = l.copies.items ≡ take l.swap-index l.swaps
