-- What the log of a cache holds: contents and changes, without the messages that encode them.
use Rattle.std.specs.Prelude.{ℕ, zero, suc, List, slice_get, IfSome, ◌≤◌, length, take}
use Rattle.std.specs.List.{AllByRecursion}
use Rattle.sled_log.specs.Chains.{chains_after}
use Rattle.sled_log.specs.Contents.{Content, Free, Counter, Roots, Node, Damaged, Update, contents_after}
use Rattle.sled_log.specs.Events.{Event}
use Rattle.sled_log.specs.Messages.{Message, Messages, effect_of}
use Rattle.sled_pagecache.specs.Limits.{most_messages, most_pages}
use Rattle.sled_log.specs.Reading.{Hold, AreEvents}
use Rattle.sled_log.specs.LogState as log
use Rattle.sled_log.specs.LogState.{AddsEvents, CrashKeeps}

-- the property holds of each item, by its id
abbrev pub AllById : {X : Type 0} → (ℕ → X → Type 0) → List X → Type 0
AllById Is items = (id : ℕ) → IfSome (slice_get items id) (Is id)

-- the first property holds of the item at 0, the second of that at 1, and the other one of each other item
abbrev pub FitsId : {X : Type 0} → (X → Type 0) → (X → Type 0) → (X → Type 0) → ℕ → X → Type 0
FitsId First Second Other zero item = First item
FitsId First Second Other (suc zero) item = Second item
FitsId First Second Other (suc (suc id)) item = Other item

abbrev pub AreRoots : Content → Type 0
AreRoots (Roots roots) = Unit {0}
AreRoots other = ⊥

abbrev pub IsCounter : Content → Type 0
IsCounter (Counter n) = Unit {0}
IsCounter other = ⊥

-- what a page of the callers holds: nothing, since it is free; a node; or damage
abbrev pub IsUsers : Content → Type 0
IsUsers Free = Unit {0}
IsUsers (Node node) = Unit {0}
IsUsers Damaged = Unit {0}
IsUsers other = ⊥

-- page 0 holds the named roots and page 1 the counter, if they are there, and no other page does
abbrev pub IsOwnAt : ℕ → Content → Type 0
IsOwnAt = FitsId AreRoots IsCounter IsUsers

abbrev pub AreOwn : List Content → Type 0
AreOwn contents = AllById IsOwnAt contents

-- at most 10 messages make a page, and there are at most 2^37 pages
pub record IsProper (pages : List Messages) (contents : List Content) : Type 0 where
  pub own : AreOwn contents
  pub short : AllByRecursion (λ told. length told ≤ most_messages) pages
  pub few : length contents ≤ most_pages

-- after any number of these messages, which encode these changes, the pages are proper
abbrev pub StayProper : List Messages → List Content → List (Event Message) → List (Event Update) → Type 0
StayProper pages contents messages changes = (n : ℕ) → IsProper (chains_after effect_of pages (take n messages)) (contents_after contents (take n changes))

-- the contents of the durable pages, and the changes that are pending
pub record Logged : Type 0 where
  pub stable : List Content
  pub pending : List (Event Update)

-- what the pages hold now
abbrev pub now : Logged → List Content
now logged = contents_after logged.stable logged.pending

-- The messages of a log encode these contents and these changes, and after any number of the changes the pages are as a cache leaves them.
pub record IsLogged (state : log.LogState Message) (logged : Logged) : Type 0 where
  pub stable : Hold state.stable logged.stable
  pub pending : AreEvents logged.stable state.pending logged.pending
  pub proper : StayProper state.stable logged.stable state.pending logged.pending

-- what a log holds after these changes were added to it
abbrev pub Adds : Logged → List (Event Update) → Logged → Type 0
Adds old changes new = AddsEvents contents_after old.stable old.pending changes new.stable new.pending

-- pages of these messages hold these contents, and are as a cache leaves them
pub record AreKept (pages : List Messages) (contents : List Content) : Type 0 where
  pub holds : Hold pages contents
  pub proper : IsProper pages contents

-- what a crash leaves if these changes had begun to be added
abbrev pub IsLeft : Logged → List (Event Update) → List Messages → Type 0
IsLeft held changes pages = CrashKeeps contents_after held.stable held.pending changes (AreKept pages)
