-- What an opening that goes on makes of what lay behind the handle, if anything did.
use Rattle.std.proofs.Common.{◌≡◌, ℕ, Option, None, Some, inl, inr, ap, sym, subst}
use Rattle.std.specs.Prelude.{◌⊎◌}
use Rattle.sled_log.specs.declared.log.Log.{Ghosts}
use Rattle.sled_disk.specs.declared.disk.Disk as disks
use Rattle.sled_disk.specs.declared.disk.callers_file.CallersFile as callers
use Rattle.sled_disk.specs.declared.disk.staged.StagedDisk.{StagedDisk}
use Rattle.sled_pagecache.specs.Opening.{fault_of}
use Rattle.sled_pagecache.specs.declared.pagecache.handles.config.Config.{Config}
use Rattle.sled_handle.specs.FileOpenings.{GoesOn, GoesOnIn, IsBegun, OpenFile, OpenLog, ReadsOn, ReadsOnIn, config_of}
use Rattle.sled_handle.specs.Handles.{FileLog, StoreOver}
use Rattle.sled_handle.specs.declared.settings.FileSettings.{FileSettings}
use Rattle.sled_handle.specs.declared.store.Store.TheVariants.{Memory, File, Begun}

module _ {F : Type 0} {f : callers.Ghosts F} {d : disks.Ghosts (StagedDisk F f)} {l : Ghosts (FileLog d)} where
  -- the store lay there, or was begun
  abbrev pub IsGiven : FileSettings → Option (StoreOver l) → StoreOver l → Type 0
  IsGiven settings before given = (before ≡ Some given) ⊎ ((before ≡ None) × (fault_of (config_of settings) ≡ None) × IsBegun (config_of settings) given)

  goes : (settings : FileSettings) (before : Option (StoreOver l)) (given new : StoreOver l) (status : ℕ) → IsGiven settings before given → GoesOnIn given new status → OpenFile settings before (Some new) status
  goes settings before (Memory cache) new status (inl is) went = subst (λ (b : Option (StoreOver l)). OpenFile settings b (Some new) status) (sym is) (went.0, ap Some went.1)
  goes settings before (File cache) new status (inl is) went = subst (λ (b : Option (StoreOver l)). OpenFile settings b (Some new) status) (sym is) (went.0, ap Some went.1)
  goes settings before (Begun opening) new status (inl is) went = subst (λ (b : Option (StoreOver l)). OpenFile settings b (Some new) status) (sym is) went
  goes settings before (Memory cache) new status (inr begun) went = absurd begun.2
  goes settings before (File cache) new status (inr begun) went = absurd begun.2
  goes settings before (Begun opening) new status (inr begun) went =
      subst (λ (b : Option (StoreOver l)). OpenFile settings b (Some new) status) (sym begun.0) (begun.1, subst (λ (c : Config). GoesOn c (Some new) status) begun.2 went)

  reads : (settings : FileSettings) (before : Option (StoreOver l)) (given new : StoreOver l) (status : ℕ) → IsGiven settings before given → ReadsOnIn given new status → OpenLog settings before (Some new) status
  reads settings before (Memory cache) new status (inl is) went = subst (λ (b : Option (StoreOver l)). OpenLog settings b (Some new) status) (sym is) (went.0, ap Some went.1)
  reads settings before (File cache) new status (inl is) went = subst (λ (b : Option (StoreOver l)). OpenLog settings b (Some new) status) (sym is) (went.0, ap Some went.1)
  reads settings before (Begun opening) new status (inl is) went = subst (λ (b : Option (StoreOver l)). OpenLog settings b (Some new) status) (sym is) went
  reads settings before (Memory cache) new status (inr begun) went = absurd begun.2
  reads settings before (File cache) new status (inr begun) went = absurd begun.2
  reads settings before (Begun opening) new status (inr begun) went =
      subst (λ (b : Option (StoreOver l)). OpenLog settings b (Some new) status) (sym begun.0) (begun.1, subst (λ (c : Config). ReadsOn c (Some new) status) begun.2 went)

  pub goes_on : (settings : FileSettings) (before after : Option (StoreOver l)) (given new : StoreOver l) (status : ℕ) → after ≡ Some new → IsGiven settings before given → GoesOnIn given new status → OpenFile settings before after status
  goes_on settings before after given new status is from went = subst (λ (a : Option (StoreOver l)). OpenFile settings before a status) (sym is) (goes settings before given new status from went)

  pub reads_on : (settings : FileSettings) (before after : Option (StoreOver l)) (given new : StoreOver l) (status : ℕ) → after ≡ Some new → IsGiven settings before given → ReadsOnIn given new status → OpenLog settings before after status
  reads_on settings before after given new status is from went = subst (λ (a : Option (StoreOver l)). OpenLog settings before a status) (sym is) (reads settings before given new status from went)
