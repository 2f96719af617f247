use Rattle.sled_base.specs.declared.types.Error.TheVariants.{Io}
use Rattle.sled_pagecache.proofs.Names.{◌∙◌, Err, Some, ap, rules, to_z-of_z, w64, TakeFuzzySnapshot, TookSnapshot, Write, refl, refused-is}
use Rattle.sled_pagecache.proofs.Steps.CacheSteps.{steps-stuck}
use Rattle.sled_pagecache.proofs.Steps.Snapshots.{snaps, snaps-refused, is-snapshot}
use Rattle.sled_pagecache.proofs.pagecache.calls.PageCache.take_fuzzy_snapshot.Goals as goal

pub returns-then-self-clause-step : goal.returns-then-self-clause-step
returns-then-self-clause-step g c = rw (← c.self.view_is) (steps-stuck g.L.Log _ TakeFuzzySnapshot (TookSnapshot (Err (Io Write))) c.if-self.true (λ s kept. rw kept (refl, refl)))

pub returns-in_err-states_of-clause-step : goal.returns-in_err-states_of-clause-step
returns-in_err-states_of-clause-step g c =
    rw (refused-is c.from_residual.result _ c.from_residual.ensures.1, ← c.self.view_is)
    (snaps-refused g.L.Log _ _ _ _ c.self.inside.writer.sticky_log c.self.inside.pages.pages c.if-self.false (c.self.invariant.whole.consistent.beside c.if-self.false) (g.met.L.Log.only_now _))

pub returns-clause-step : goal.returns-clause-step
returns-clause-step g c =
    rw (← c.self.view_is)
    (snaps g.L.Log _ _ _ _ c.self.inside.writer.sticky_log c.self.inside.pages.pages c.if-self.false (c.self.invariant.whole.consistent.beside c.if-self.false) (g.met.L.Log.only_now _) _ c.in_ok-states_of.ensures)

pub returns-clause-snapshot : goal.returns-clause-snapshot
returns-clause-snapshot g c =
    rw (← c.self.view_is)
    (is-snapshot g.L.Log _ _ _ _ c.self.inside.writer.sticky_log c.self.inside.pages.pages c.if-self.false (c.self.invariant.whole.consistent.beside c.if-self.false) _ c.in_ok-states_of.ensures
    (ap (λ lsn. Some lsn) (to_z-of_z w64 c.stable_offset.result (search rules) ∙ c.stable_offset.ensures)) refl)
