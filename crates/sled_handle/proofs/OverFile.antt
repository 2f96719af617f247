-- What a call over a file does with the cache of a store.
use Rattle.std.proofs.Common.{◌≡◌, ℕ, false, inr, sym, subst}
use Rattle.sled_log.specs.declared.log.Log.{Ghosts}
use Rattle.sled_disk.specs.Staged.{failed}
use Rattle.sled_disk.specs.declared.disk.Disk as disks
use Rattle.sled_disk.specs.declared.disk.callers_file.CallersFile as callers
use Rattle.sled_disk.specs.declared.disk.staged.StagedDisk.{StagedDisk}
use Rattle.sled_pagecache.specs.Cache.{Cache}
use Rattle.sled_handle.specs.Handles.{Does, FileLog, IsTold, StoreOver, ThroughStore}
use Rattle.sled_handle.specs.declared.store.Store.TheVariants.{File}

module _ {F : Type 0} {f : callers.Ghosts F} {d : disks.Ghosts (StagedDisk F f)} {l : Ghosts (FileLog d)} where
  -- The cache does this with its own status, and that is told.
  pub over_file : (stays : Type 0) (does : Does) {before : StoreOver l} {old then new : Cache (FileLog d)} {own status : ℕ}
      → before ≡ File old → failed old.log.disk ≡ false → does (FileLog d) l old then own → IsTold l then new own status → ThroughStore before (File new) status stays does
  over_file stays does {before} {old} {then} {new} {own} {status} is works did tells =
      subst (λ (b : StoreOver l). ThroughStore b (File new) status stays does) (sym is) (inr (record { works = works; then = then; own = own; done = did; told = tells }))
