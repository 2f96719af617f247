-- What a buffer over a reader has left at first, and what was served over a cache that was opened.
use Rattle.std.proofs.Common.{◌≡◌, ℕ, ◌==◌, if◌then◌else◌, List, [], Option, None, Some, Result, Ok, Err, refl, ◌∙◌, ap}
use Rattle.std.specs.Io.Buffered.{reader_remaining, reader_inner, reader_buffer, reader_capacity}
use Rattle.std.specs.Io.KnownBytes.{prepend_known}
use Rattle.std.specs.declared.io.buffered.BufReader.{BufReader}
use Rattle.sled_base.specs.Order.{Bytes}
use Rattle.sled_log.specs.declared.log.Log.{Ghosts}
use Rattle.sled_pagecache.specs.Cache.{Cache}
use Rattle.sled_pagecache.specs.declared.pagecache.handles.config.Config.{Config}
use Rattle.sled_script.specs.OverDisk.{IsOpenedOver, RunsOver, ServesOver}
use Rattle.sled_script.specs.declared.program.Fault.{Fault}
use Rattle.sled_script.specs.declared.program.Fault.TheVariants.{Opening, Run}

prepend-nothing : (left : Option (List ℕ)) → prepend_known [] left ≡ left
prepend-nothing None = refl
prepend-nothing (Some bytes) = refl

pub unread : {T A : Type 0} (remaining : T → Option (List ℕ)) (r : BufReader T A) (inner : T) → reader_inner r ≡ inner → reader_buffer r ≡ [] → reader_capacity r ≡ 8192 → reader_remaining remaining r ≡ remaining inner
unread remaining r inner is empty capacity =
    ap (λ n. if n == 0 then None else prepend_known (reader_buffer r) (remaining (reader_inner r))) capacity
    ∙ ap (λ (bytes : List ℕ). prepend_known bytes (remaining (reader_inner r))) empty ∙ prepend-nothing (remaining (reader_inner r)) ∙ ap remaining is

pub served : {L : Type 0} (g : Ghosts L) (config : Config) (bytes : List ℕ) (input old new : Option Bytes) (cache : Cache L) (result : Result Unit Fault) → IsOpenedOver g config bytes cache → RunsOver g cache input old new result → ServesOver g config bytes input old new result
served g config bytes input old new cache (Ok done) opened ran = (cache, opened, ran)
served g config bytes input old new cache (Err (Run e)) opened ran = (cache, opened, ran)
served g config bytes input old new cache (Err (Opening e)) opened ran = absurd ran
