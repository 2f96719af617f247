-- How calls change the maps of a cache: not at all, or one of them at one moment.
use Rattle.std.specs.Prelude.{◌≡◌, ◌≢◌, ◌⊎◌, ℕ, true, false, List, [], Option, Some, None, Result, Ok, Err, OnOk, ⊤}
use Rattle.sled_base.specs.Order.{Bytes}
use Rattle.sled_log.specs.Contents.{Content, Update, contents_after}
use Rattle.sled_log.specs.Events.{Event}
use Rattle.sled_node.specs.Pairs.{set_pair, del_pair}
use Rattle.sled_log.specs.declared.log.Log.{Ghosts}
use Rattle.sled_pagecache.specs.Cache.{Cache}
use Rattle.sled_pagecache.specs.State.{State, contents_of}
use Rattle.sled_search.specs.Calls.{Becomes}
use Rattle.sled_search.specs.Map.{Map, at_key}
use Rattle.sled_search.specs.Search.{IsTreeOf}
use Rattle.sled_tree.specs.Changed.{Reads}
use Rattle.sled_tree.specs.Named.{Named, AreNamed, with_map_at}
use Rattle.sled_tree.specs.Performs.{Performs}
use Rattle.sled_tree.specs.Prefixes.{flushes}
use Rattle.sled_tree.specs.declared.trees.Tree.{Tree}

-- the page of the map's root
abbrev pub root_of : Tree → ℕ
root_of tree = tree.root

-- After a write error nothing is done. If there is no write error by the end, the pages are what the events make of them.
pub record Follows (s : State) (events : List (Event Update)) (t : State) : Type 0 where
  pub stuck : s.fault ≡ true → (events ≡ []) × (t ≡ s)
  pub pages : t.fault ≡ false → contents_of t ≡ contents_after (contents_of s) events

-- The maps and names turn from the old ones to the new ones: after each of the events they are one or the other, and at the end the new ones.
abbrev pub Turns : State → Named → List (Event Update) → Named → State → Type 0
Turns s w events others t = Becomes AreNamed (contents_of s) w events others × AreNamed (contents_of t) others

abbrev pub Stays : State → Named → List (Event Update) → State → Type 0
Stays s w events t = Turns s w events w t

-- They stay as they are; but if a write failed, the events that were written may be those that turn them.
abbrev pub StaysUnlessFaulty : State → Named → List (Event Update) → Named → State → Type 0
StaysUnlessFaulty s w events others t = (Becomes AreNamed (contents_of s) w events w ⊎ ((t.fault ≡ true) × Becomes AreNamed (contents_of s) w events others)) × AreNamed (contents_of t) w

-- For all maps and names that meet the condition together with the pages: they stay as they are.
pub record Keeps (If : List Content → Named → Type 0) (s : State) (events : List (Event Update)) (t : State) : Type 0 where
  pub follows : Follows s events t
  pub stays : (w : Named) → AreNamed (contents_of s) w → If (contents_of s) w → Stays s w events t

-- all maps and names stay as they are
abbrev pub KeepsMaps : State → List (Event Update) → State → Type 0
KeepsMaps = Keeps (λ _ _. ⊤)

-- What setting a key in one of the maps returns: the value before. That map turns, and the others stay; after an error all of them stay.
abbrev pub SetsKey : {E : Type 0} → ℕ → Bytes → Bytes → Result (Option Bytes) E → State → List (Event Update) → State → Named → Map → Type 0
SetsKey root key value (Ok before) s events t w m = (before ≡ at_key m key) × Turns s w events (with_map_at root (set_pair key value m) w) t
SetsKey root key value (Err e) s events t w m = StaysUnlessFaulty s w events (with_map_at root (set_pair key value m) w) t

-- What removing a key from one of the maps returns: the value before. That map turns, if there was a value.
abbrev pub TakesKey : {E : Type 0} → ℕ → Bytes → Result (Option Bytes) E → State → List (Event Update) → State → Named → Map → Type 0
TakesKey root key (Ok None) s events t w m = (None ≡ at_key m key) × Stays s w events t
TakesKey root key (Ok (Some before)) s events t w m = (Some before ≡ at_key m key) × Turns s w events (with_map_at root (del_pair key m) w) t
TakesKey root key (Err e) s events t w m = StaysUnlessFaulty s w events (with_map_at root (del_pair key m) w) t

-- the map with another value at a key, or without the key; nothing changes if there is no value before and none after
abbrev pub with_swapped : ℕ → Bytes → Option Bytes → Option Bytes → Map → Named → Named
with_swapped root key old (Some value) m w = with_map_at root (set_pair key value m) w
with_swapped root key (Some old) None m w = with_map_at root (del_pair key m) w
with_swapped root key None None m w = w

-- What a swap of the value of a key in one of the maps returns: success if the old value was there, and that map turns; or the value that is there
-- instead.
abbrev pub SwapsKey : {E : Type 0} → ℕ → Bytes → Option Bytes → Option Bytes → Result (Result (Unit {0}) (Option Bytes)) E → State → List (Event Update) → State → Named → Map → Type 0
SwapsKey root key old new (Ok (Ok done)) s events t w m = (old ≡ at_key m key) × Turns s w events (with_swapped root key old new m w) t
SwapsKey root key old new (Ok (Err present)) s events t w m = (present ≡ at_key m key) × (present ≢ old) × Stays s w events t
SwapsKey root key old new (Err e) s events t w m = StaysUnlessFaulty s w events (with_swapped root key old new m w) t

-- For all maps and names of the pages, with a map at this root: the call does this with them.
pub record ChangesMap (root : ℕ) (Does : State → List (Event Update) → State → Named → Map → Type 0) (s : State) (events : List (Event Update)) (t : State) : Type 0 where
  pub follows : Follows s events t
  pub does : (w : Named) (m : Map) → AreNamed (contents_of s) w → w.maps root ≡ Some m → Does s events t w m

-- Names and maps stay as they are. If the result is `Ok`, one of the calls of the cache was a flush that succeeded.
abbrev pub FlushesMaps : {L T E : Type 0} → Ghosts L → Result T E → Cache L → Cache L → Type 0
FlushesMaps g result old new = (does : Performs g KeepsMaps old new) × OnOk result (flushes does.calls ≡ true)

-- The call reads the map at a root, and the map and the answer meet the condition, whichever map it is.
abbrev pub ReadsMap : {L T E : Type 0} → Ghosts L → Tree → (Map → T → Type 0) → Result T E → Cache L → Cache L → Type 0
ReadsMap g tree Is result old new = Performs g (Reads result (λ pages answer. (m : Map) → IsTreeOf pages (root_of tree) m → Is m answer)) old new
