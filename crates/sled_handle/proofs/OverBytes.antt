-- Of which bytes of a file the log of an opening is.
use Rattle.std.proofs.Common.{◌≡◌, ◌<◌, ◌++◌, ℕ, Option, None, Some, Result, Ok, Err, List, [], ◌∷◌, length, refl, sym, subst, arith}
use Rattle.std.specs.Prelude.{IfOk, IfSome, IfNone}
use Rattle.sled_base.specs.declared.types.Error.{Error}
use Rattle.sled_log.specs.declared.log.Log.{Ghosts}
use Rattle.sled_disk.specs.Disk.{overlaid}
use Rattle.sled_disk.specs.Format.{opening}
use Rattle.sled_disk.specs.RecoveredLog.{IsLogOf}
use Rattle.sled_disk.specs.Served.{StaysALog}
use Rattle.sled_disk.specs.Staged.{seen_of}
use Rattle.sled_disk.specs.declared.disk.Disk as disks
use Rattle.sled_disk.specs.declared.disk.callers_file.CallersFile as callers
use Rattle.sled_disk.specs.declared.disk.staged.StagedDisk.{StagedDisk}
use Rattle.sled_pagecache.specs.Cache.{Cache}
use Rattle.sled_pagecache.specs.Reopening.{Started}
use Rattle.sled_pagecache.specs.declared.pagecache.handles.config.Config.{Config}
use Rattle.sled_handle.specs.FileOpenings.{IsLogOver, IsOpenedOver, IsOpeningOver, IsRead, IsStepOver, IsStoreOver, with_log}
use Rattle.sled_handle.specs.Files.{OpeningOver, StepOver}
use Rattle.sled_handle.specs.Handles.{FileLog, StoreOver}
use Rattle.sled_handle.specs.declared.opening.Step.TheVariants.{Unread, Reading, Unsynced}
use Rattle.sled_handle.specs.declared.opening.read_log.PartRead.{PartRead}
use Rattle.sled_handle.specs.declared.opening.read_log.ReadLog.{ReadLog}
use Rattle.sled_handle.specs.declared.store.Store.TheVariants.{Begun}

pub made : (seen new : List ℕ) → length seen ≡ 0 → new ≡ overlaid seen 0 (opening ++ 0 ∷ []) → new ≡ with_log seen
made [] new none is = is
made (byte ∷ bytes) new none is = absurd (omega (arith, none))

pub had : (seen : List ℕ) → 0 < length seen → seen ≡ with_log seen
had [] some = absurd (omega (arith, some))
had (byte ∷ bytes) some = refl

-- where there is none
pub where_none : {X P : Type 0} (found : Option X) → found ≡ None → IfNone found P → P
where_none {X} {P} found is then = subst (λ (o : Option X). IfNone o P) is then

pub where_some : {X : Type 0} (P : X → Type 0) (found : Option X) (x : X) → found ≡ Some x → IfSome found P → P x
where_some {X} P found x is then = subst (λ (o : Option X). IfSome o P) is then

pub if_ok : {A E : Type 0} (result : Result A E) (P Q : A → Type 0) → ((a : A) → P a → Q a) → IfOk result P → IfOk result Q
if_ok (Ok a) P Q then is = then a is
if_ok (Err e) P Q then is = tt

module _ {F : Type 0} {f : callers.Ghosts F} {d : disks.Ghosts (StagedDisk F f)} (l : Ghosts (FileLog d)) where
  pub still : (log : FileLog d) → StaysALog l log log
  still log = record { usable = refl; opened = refl; counts = refl; state = λ t. refl; later = λ t. omega arith; nothing_else = λ told t pages early was. was; kept = λ told t pages early was. was }

  -- one that was read
  pub fresh : (config : Config) {seen bytes : List ℕ} {log : FileLog d} → seen ≡ bytes → IsLogOf seen (l.state log) → IsLogOver l config bytes log
  fresh config {log = log} same is = record { tried = []; is = subst (λ (b : List ℕ). IsLogOf b (l.state log)) same is }

  -- one over which an opening was tried once more
  pub again : {config : Config} {bytes : List ℕ} {before : FileLog d} (refused : Error × FileLog d) → IsLogOver l config bytes before → Started l before config (Err refused) → IsLogOver l config bytes refused.1
  again {before} refused over started = record { tried = before ∷ over.tried; is = (over.is, (refused, started, still refused.1)) }

  -- what is of bytes is of the same bytes
  pub yields : (config : Config) {seen bytes : List ℕ} (result : Result (Option (ReadLog (FileLog d) l)) ℕ) → seen ≡ bytes
      → IfOk result (λ found. IfSome found (λ read. IsLogOver l config seen read.log)) → IfOk result (λ found. IfSome found (λ read. IsLogOver l config bytes read.log))
  yields config result same is = subst (λ (b : List ℕ). IfOk result (λ found. IfSome found (λ read. IsLogOver l config b read.log))) same is

  pub waits : {X : Type 0} (new : OpeningOver l) {seen bytes : List ℕ} (result : Result (Option X) ℕ) → seen ≡ bytes
      → IfOk result (λ found. IfNone found (IsOpeningOver seen new)) → IfOk result (λ found. IfNone found (IsOpeningOver bytes new))
  waits new result same is = subst (λ (b : List ℕ). IfOk result (λ found. IfNone found (IsOpeningOver b new))) same is

  -- which bytes those are, by the step of the opening
  pub unread : (config : Config) (bytes : List ℕ) (step : Option (StepOver l)) (disk : StagedDisk F f) → step ≡ Some (Unread disk) → IsStepOver config bytes step → seen_of disk ≡ bytes
  unread config bytes step disk is over = subst (λ (s : Option (StepOver l)). IsStepOver config bytes s) is over

  pub reading : (config : Config) (bytes : List ℕ) (step : Option (StepOver l)) (part : PartRead F f) → step ≡ Some (Reading part) → IsStepOver config bytes step → seen_of part.disk ≡ bytes
  reading config bytes step part is over = subst (λ (s : Option (StepOver l)). IsStepOver config bytes s) is over

  pub unsynced : (config : Config) (bytes : List ℕ) (step : Option (StepOver l)) (part : PartRead F f) → step ≡ Some (Unsynced part) → IsStepOver config bytes step → seen_of part.disk ≡ bytes
  unsynced config bytes step part is over = subst (λ (s : Option (StepOver l)). IsStepOver config bytes s) is over

  -- where the log was read it is that
  pub over_read : (config : Config) (bytes : List ℕ) (new : OpeningOver l) (log : FileLog d) → new.config ≡ config → IsRead new log → IsLogOver l config bytes log → IsOpeningOver bytes new
  over_read config bytes new log settings is over =
      subst (λ (c : Config). IsStepOver c bytes new.step) (sym settings)
      (subst (λ (s : Option (StepOver l)). IsStepOver config bytes s) (sym is.1) (subst (λ (g : FileLog d). IsLogOver l config bytes g) (sym is.2) over))

  -- an opening starts the cache over the log that was read, with its settings
  pub goes : (X : Config → Type 0) (old new : Config) (bytes : List ℕ) (found : Option (ReadLog (FileLog d) l)) (read : ReadLog (FileLog d) l) → new ≡ old → found ≡ Some read
      → IfSome found (λ r. IsLogOver l old bytes r.log) → (IsLogOver l new bytes read.log → X new) → X old
  goes X old new bytes found read settings is over then =
      subst X settings (then (subst (λ (c : Config). IsLogOver l c bytes read.log) (sym settings) (subst (λ (o : Option (ReadLog (FileLog d) l)). IfSome o (λ r. IsLogOver l old bytes r.log)) is over)))

  pub goes_over : (result : Result (Option (Cache (FileLog d))) ℕ) (old new : Config) (bytes : List ℕ) (found : Option (ReadLog (FileLog d) l)) (read : ReadLog (FileLog d) l) → new ≡ old → found ≡ Some read
      → IfSome found (λ r. IsLogOver l old bytes r.log) → (IsLogOver l new bytes read.log → IfOk result (λ f. IfSome f (IsOpenedOver l new bytes))) → IfOk result (λ f. IfSome f (IsOpenedOver l old bytes))
  goes_over result old new bytes found read settings is over then = goes (λ (c : Config). IfOk result (λ f. IfSome f (IsOpenedOver l c bytes))) old new bytes found read settings is over then

  -- of what lies behind a handle
  pub begun : (config : Config) (bytes : List ℕ) (store : StoreOver l) (one : OpeningOver l) → store ≡ Begun one → IsStoreOver config bytes store → (one.config ≡ config) × IsOpeningOver bytes one
  begun config bytes store one is over = subst (λ (s : StoreOver l). IsStoreOver config bytes s) is over

  pub opens : (old config : Config) (bytes : List ℕ) (found : Option (Cache (FileLog d))) (cache : Cache (FileLog d)) → old ≡ config → found ≡ Some cache → IfSome found (IsOpenedOver l old bytes) → IsOpenedOver l config bytes cache
  opens old config bytes found cache settings is opened =
      subst (λ (c : Config). IsOpenedOver l c bytes cache) settings (subst (λ (o : Option (Cache (FileLog d))). IfSome o (IsOpenedOver l old bytes)) is opened)

  pub holds_begun : (config : Config) (bytes : List ℕ) (store : StoreOver l) (one : OpeningOver l) → store ≡ Begun one → one.config ≡ config → IsOpeningOver bytes one → IsStoreOver config bytes store
  holds_begun config bytes store one is settings over = subst (λ (s : StoreOver l). IsStoreOver config bytes s) (sym is) (settings, over)
