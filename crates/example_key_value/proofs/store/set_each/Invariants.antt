use Rattle.std.proofs.Common.{◌≡◌}
use Rattle.example_key_value.proofs.store.set_each.Given as goal

abbrev pub invariant-loop-key : goal.invariant-loop-key
invariant-loop-key l = l.store.batch ≡ l.initial.store.batch
