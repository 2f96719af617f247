-- The other store is taken out of its handle, and what is left of it is put back.
use Rattle.std.proofs.Common.{ap, sym, ◌∙◌}
use Rattle.sled_handle.specs.Rewriting.{stored}
use Rattle.sled_handle.proofs.Rewritten.{rewrites-there}
use Rattle.sled_handle.proofs.handle.rewriting.rewrite_behind.Goals as goal

pub returns-in-Some : goal.returns-in-Some
returns-in-Some c = rewrites-there _ _ _ _ _ c.take-other.ensures.taken (ap stored c.in-Some.is ∙ sym c.put.ensures) c.rewrite-status.ensures

pub returns-in_default : goal.returns-in_default
returns-in_default c = rewrites-there _ _ _ _ _ c.take-other.ensures.taken (ap stored c.in_default.is ∙ sym c.take-other.ensures.closed) c.rewrite-status.ensures
