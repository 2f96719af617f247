-- What is asked of the disk of an opening, and told it, leaves the opening over the same bytes of the file.
use Rattle.std.proofs.Common.{◌≤◌, ℕ, Option, None, Some, List, [], ◌∷◌, sym, ap, ◌∙◌, subst, arith}
use Rattle.sled_log.specs.LogState.{LogState}
use Rattle.sled_log.specs.Messages.{Entry}
use Rattle.sled_log.specs.declared.log.Log.{Ghosts}
use Rattle.sled_disk.specs.RecoveredLog.{IsLogOf}
use Rattle.sled_disk.specs.Served.{StaysALog}
use Rattle.sled_disk.specs.declared.disk.Disk as disks
use Rattle.sled_disk.specs.declared.disk.callers_file.CallersFile as callers
use Rattle.sled_disk.specs.declared.disk.staged.StagedDisk.{StagedDisk}
use Rattle.sled_pagecache.specs.declared.pagecache.handles.config.Config.{Config}
use Rattle.sled_handle.specs.FileOpenings.{IsOpeningOver, IsStepOver, IsTried}
use Rattle.sled_handle.specs.Files.{OpeningIsBut, OpeningOver, StepIsBut, StepOver}
use Rattle.sled_handle.specs.Handles.{FileLog}
use Rattle.sled_handle.specs.declared.opening.Step.TheVariants.{Unread, Reading, Unsynced, Read}

module _ {F : Type 0} {f : callers.Ghosts F} {d : disks.Ghosts (StagedDisk F f)} (l : Ghosts (FileLog d)) where
  stays_again : (old mid new : FileLog d) → StaysALog l old mid → StaysALog l mid new → StaysALog l old new
  stays_again old mid new a b = record {
    usable = b.usable ∙ a.usable;
    opened = b.opened ∙ a.opened;
    counts = b.counts ∙ a.counts;
    state = λ told. b.state told ∙ a.state told;
    later = λ told. let p : l.moment old ≤ l.moment mid = a.later told in let q : l.moment mid ≤ l.moment new = b.later told in omega arith;
    nothing_else = λ told t pages early was.
        let p : l.moment old ≤ l.moment mid = a.later told in
        a.nothing_else told t pages early (b.nothing_else told t pages (omega arith) was);
    kept = λ told t pages early was.
        let p : l.moment old ≤ l.moment mid = a.later told in
        b.kept told t pages (omega arith) (a.kept told t pages early was);
  }

  tried_kept : l.tells → (config : Config) (bytes : List ℕ) (tried : List (FileLog d)) (old new : FileLog d) → StaysALog l old new → IsTried l config bytes tried old → IsTried l config bytes tried new
  tried_kept told config bytes [] old new stays is = subst (λ (s : LogState Entry). IsLogOf bytes s) (sym (stays.state told)) is
  tried_kept told config bytes (before ∷ earlier) old new stays is = (is.0, (is.1.0, is.1.1, stays_again is.1.0.1 old new is.1.2 stays))

  step_kept : (holds : StagedDisk F f → StagedDisk F f → Type 0) → f.tells → l.tells → (config : Config) (bytes : List ℕ) (old new : Option (StepOver l)) → StepIsBut holds old new → IsStepOver config bytes old → IsStepOver config bytes new
  step_kept holds keeps told config bytes None new but over = absurd over
  step_kept holds keeps told config bytes (Some (Unread old)) (Some (Unread new)) but over = but.1.same keeps ∙ over
  step_kept holds keeps told config bytes (Some (Reading old)) (Some (Reading new)) but over = but.1.1.same keeps ∙ over
  step_kept holds keeps told config bytes (Some (Unsynced old)) (Some (Unsynced new)) but over = but.1.1.same keeps ∙ over
  step_kept holds keeps told config bytes (Some (Read old)) (Some (Read new)) but over = record { tried = over.tried; is = tried_kept told config bytes over.tried old.log new.log but.1 over.is }
  step_kept holds keeps told config bytes (Some (Unread old)) None but over = absurd but
  step_kept holds keeps told config bytes (Some (Unread old)) (Some (Reading new)) but over = absurd but
  step_kept holds keeps told config bytes (Some (Unread old)) (Some (Unsynced new)) but over = absurd but
  step_kept holds keeps told config bytes (Some (Unread old)) (Some (Read new)) but over = absurd but
  step_kept holds keeps told config bytes (Some (Reading old)) None but over = absurd but
  step_kept holds keeps told config bytes (Some (Reading old)) (Some (Unread new)) but over = absurd but
  step_kept holds keeps told config bytes (Some (Reading old)) (Some (Unsynced new)) but over = absurd but
  step_kept holds keeps told config bytes (Some (Reading old)) (Some (Read new)) but over = absurd but
  step_kept holds keeps told config bytes (Some (Unsynced old)) None but over = absurd but
  step_kept holds keeps told config bytes (Some (Unsynced old)) (Some (Unread new)) but over = absurd but
  step_kept holds keeps told config bytes (Some (Unsynced old)) (Some (Reading new)) but over = absurd but
  step_kept holds keeps told config bytes (Some (Unsynced old)) (Some (Read new)) but over = absurd but
  step_kept holds keeps told config bytes (Some (Read old)) None but over = absurd but
  step_kept holds keeps told config bytes (Some (Read old)) (Some (Unread new)) but over = absurd but
  step_kept holds keeps told config bytes (Some (Read old)) (Some (Reading new)) but over = absurd but
  step_kept holds keeps told config bytes (Some (Read old)) (Some (Unsynced new)) but over = absurd but

  pub kept : (holds : StagedDisk F f → StagedDisk F f → Type 0) → f.tells → l.tells → (bytes : List ℕ) (old new : OpeningOver l) → OpeningIsBut holds old new → IsOpeningOver bytes old → IsOpeningOver bytes new
  kept holds keeps told bytes old new but over =
      subst (λ (c : Config). IsStepOver c bytes new.step) (sym (ap (λ (o : OpeningOver l). o.config) but.0)) (step_kept holds keeps told old.config bytes old.step new.step but.1 over)
