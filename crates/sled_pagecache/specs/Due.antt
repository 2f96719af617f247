-- Which page is due to be moved in a log.
use Rattle.std.specs.List.{list_any}
use Rattle.std.specs.Prelude.{ℕ, ◌==◌, ◌/◌, Bool, true, false, List, [], ◌∷◌, map, slice_index_or, if◌then◌else◌, Option, Some, None}
use Rattle.sled_base.specs.Pointers.{offset_of}
use Rattle.sled_base.specs.declared.types.DiskPtr.{DiskPtr}
use Rattle.sled_base.specs.declared.types.DiskPtr.TheVariants.{Blob}
use Rattle.sled_log.specs.LogState.{now}
use Rattle.sled_log.specs.Messages.{Chain, effect_of_entry}
use Rattle.sled_log.specs.declared.log.Log.{Ghosts}
use Rattle.sled_pagecache.specs.Step.{Due, Nothing, Outdated, Page}
use Rattle.sled_pagecache.specs.declared.pagecache.handles.config.Config.{Config}

-- the pointers to the messages of a page
abbrev pub pointers_of : Chain → List DiskPtr
pointers_of chain = map (λ entry. entry.place.pointer) chain

-- the segment of a log that a place is in
abbrev pub segment_of : Config → ℕ → ℕ
segment_of config place = place / config.segment_size

-- whether one of the messages is in the segment of that place
abbrev pub lies_in : Config → ℕ → List DiskPtr → Bool
lies_in config place pointers = list_any (λ pointer. segment_of config (offset_of pointer) == segment_of config place) pointers

-- The page of the message that is due. If none of the page's messages is in that segment any more, the message is outdated.
abbrev pub due_page : Config → Option (ℕ × ℕ) → List Chain → Due
due_page config None chains = Nothing
due_page config (Some (pid, place)) chains = if lies_in config place (pointers_of (slice_index_or chains pid [])) then Page pid else Outdated

abbrev pub due_in : {L : Type 0} → Ghosts L → Config → L → Due
due_in g config log = due_page config (g.due log) (now effect_of_entry (g.state log))

-- whether a page is a single message, which is stored as a blob
abbrev pub is_one_blob : List DiskPtr → Bool
is_one_blob (Blob place blob ∷ []) = true
is_one_blob pointers = false
