-- The share counts the calls so far.
use Rattle.std.proofs.Common.{◌≡◌, ◌+◌}
use Rattle.sled_shared.specs.Held.{count_of}
use Rattle.sled_shared.proofs.crew.work.Given as goal

abbrev pub invariant-loop-call : goal.invariant-loop-call
invariant-loop-call g l = count_of l.share ≡ count_of l.fn.share + l.call
