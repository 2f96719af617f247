-- What rewriting a cache was answered, as its status tells it.
use Rattle.std.proofs.Common.{◌≡◌, ℕ, Option, None, Some, Result, Ok, Err, inr, refl, sym, subst}
use Rattle.sled_base.specs.declared.types.Error.{Error}
use Rattle.sled_log.specs.declared.log.Log.{Ghosts}
use Rattle.sled_log.specs.declared.memory.MemLog.{MemLog}
use Rattle.sled_disk.specs.Staged.{seen_of}
use Rattle.sled_disk.specs.declared.disk.Disk as disks
use Rattle.sled_disk.specs.declared.disk.callers_file.CallersFile as callers
use Rattle.sled_disk.specs.declared.disk.staged.StagedDisk.{StagedDisk}
use Rattle.sled_pagecache.specs.Cache.{Cache}
use Rattle.sled_pagecache.specs.declared.pagecache.handles.config.Config.{Config}
use Rattle.sled_handle.specs.FileOpenings.{IsNewLog, IsOpeningOver, IsRead}
use Rattle.sled_handle.specs.Files.{OpeningOver}
use Rattle.sled_handle.specs.Handles.{FileLog, StoreOver, ThroughStore}
use Rattle.sled_handle.specs.Numbers as number
use Rattle.sled_handle.specs.Numbers.{number_of_error}
use Rattle.sled_handle.specs.Rewriting.{GoesOnOver, IsAnswered, IsStarted, Rewrites, TellsRewritten, TellsStarted}
use Rattle.sled_handle.specs.declared.store.Store.TheVariants.{Begun}

module _ {L : Type 0} {g : Ghosts L} {F : Type 0} {f : callers.Ghosts F} {d : disks.Ghosts (StagedDisk F f)} {l : Ghosts (FileLog d)} {old left : Cache L} {opening : OpeningOver l} {given : FileLog d} {answer : Result (FileLog d) (Error × FileLog d)}
    (fresh : IsNewLog opening given) (is : IsAnswered g l old left given answer) (new : Cache L) (same : new ≡ left) (before after : Option (StoreOver l)) (from : before ≡ Some (Begun opening)) (status : ℕ) where
  told : TellsRewritten opening.config answer after status → Rewrites g old new before after status
  told tells =
      subst (λ (c : Cache L). Rewrites g old c before after status) (sym same)
      (subst (λ (b : Option (StoreOver l)). Rewrites g old left b after status) (sym from) (inr (given, fresh, (answer, is, tells))))

  pub told_done : (log : FileLog d) (then : OpeningOver l) → answer ≡ Ok log → after ≡ Some (Begun then) → status ≡ number.ok → then.config ≡ opening.config → IsRead then log → (f.tells → IsOpeningOver (seen_of log.disk) then) → Rewrites g old new before after status
  told_done log then ea et es ec has over =
      told (subst (λ (a : Result (FileLog d) (Error × FileLog d)). TellsRewritten opening.config a after status) (sym ea)
      (subst (λ (t : Option (StoreOver l)). TellsRewritten opening.config (Ok log) t status) (sym et) (es, ec, has, over)))

  pub told_refused : (e : Error × FileLog d) → answer ≡ Err e → after ≡ None → status ≡ number_of_error e.0 → Rewrites g old new before after status
  told_refused e ea et es = told (subst (λ (a : Result (FileLog d) (Error × FileLog d)). TellsRewritten opening.config a after status) (sym ea) (es, et))

-- what lies in another place is rewritten into as well
pub rewrites-there : {F G : Type 0} {f : callers.Ghosts F} {h : callers.Ghosts G} {d : disks.Ghosts (StagedDisk F f)} {e : disks.Ghosts (StagedDisk G h)} {l : Ghosts (FileLog d)} {m : Ghosts (FileLog e)} (old new : StoreOver l) (status : ℕ) (before after : Option (StoreOver m)) {from to : Option (StoreOver m)}
    → from ≡ before → to ≡ after → ThroughStore old new status (to ≡ from) (λ L g cache left status. Rewrites g cache left from to status) → ThroughStore old new status (after ≡ before) (λ L g cache left status. Rewrites g cache left before after status)
rewrites-there {m = m} old new status before after {from} {to} is ends through =
    subst (λ (x : Option (StoreOver m)). ThroughStore old new status (after ≡ x) (λ L g cache left status. Rewrites g cache left x after status)) is
    (subst (λ (x : Option (StoreOver m)). ThroughStore old new status (x ≡ from) (λ L g cache left status. Rewrites g cache left from x status)) ends through)

module _ (config : Config) {answer : Result MemLog (Error × MemLog)} (old new : Cache MemLog) (status : ℕ) where
  -- the rewriting was refused
  pub stays_over : (e : Error × MemLog) → answer ≡ Err e → status ≡ number_of_error e.0 → new ≡ old → GoesOnOver config answer old new status
  stays_over e ea es en = subst (λ (a : Result MemLog (Error × MemLog)). GoesOnOver config a old new status) (sym ea) (es, en)

  -- a cache was opened over the log, or that was refused
  goes_over : (log : MemLog) (opened : Result (Cache MemLog) (Error × MemLog)) → answer ≡ Ok log → IsStarted log config opened → TellsStarted opened old new status → GoesOnOver config answer old new status
  goes_over log opened ea started tells = subst (λ (a : Result MemLog (Error × MemLog)). GoesOnOver config a old new status) (sym ea) (opened, started, tells)

  pub opens_over : (log : MemLog) (opened : Result (Cache MemLog) (Error × MemLog)) → answer ≡ Ok log → IsStarted log config opened → opened ≡ Ok new → status ≡ number.ok → GoesOnOver config answer old new status
  opens_over log opened ea started eo es =
      goes_over log opened ea started (subst (λ (o : Result (Cache MemLog) (Error × MemLog)). TellsStarted o old new status) (sym eo) (es, refl))

  pub stays_unopened : (log : MemLog) (opened : Result (Cache MemLog) (Error × MemLog)) (e : Error × MemLog) → answer ≡ Ok log → IsStarted log config opened → opened ≡ Err e → status ≡ number_of_error e.0 → new ≡ old
      → GoesOnOver config answer old new status
  stays_unopened log opened e ea started eo es en =
      goes_over log opened ea started (subst (λ (o : Result (Cache MemLog) (Error × MemLog)). TellsStarted o old new status) (sym eo) (es, en))
