-- Opening a map by its name.
use Rattle.std.specs.Prelude.{◌≡◌, ◌⊎◌, ℕ, List, Some, None, Result, Ok, Err}
use Rattle.sled_base.specs.Order.{Bytes}
use Rattle.sled_log.specs.Contents.{Update}
use Rattle.sled_log.specs.Events.{Event}
use Rattle.sled_node.specs.Meta as meta
use Rattle.sled_pagecache.specs.State.{State, contents_of}
use Rattle.sled_search.specs.Maps.{HasTree}
use Rattle.sled_tree.specs.Maps.{Follows, Stays, StaysUnlessFaulty, Turns}
use Rattle.sled_tree.specs.Named.{Named, AreNamed, with_new}

-- the name has no root, and the page is the root of none of the maps
abbrev pub IsFree : Bytes → ℕ → Named → Type 0
IsFree name root w = (meta.root_of name w.names ≡ None) × (¬ HasTree w.maps root)

-- What opening the map of a name returns: the root that the name has, and everything stays; or the root of a new map, which the name then has.
-- After an error everything stays; but if a write failed, the events that were written may be those that make the map.
abbrev pub Opens : {T E : Type 0} → (T → ℕ) → Bytes → Result T E → State → List (Event Update) → State → Named → Type 0
Opens root name (Ok tree) s events t w =
    ((meta.root_of name w.names ≡ Some (root tree)) × Stays s w events t)
    ⊎ (IsFree name (root tree) w × Turns s w events (with_new name (root tree) w) t)
Opens root name (Err e) s events t w = Stays s w events t ⊎ ((new : ℕ) × IsFree name new w × StaysUnlessFaulty s w events (with_new name new w) t)

-- For all maps and names of the pages: the call opens the map so.
pub record OpensMap {T E : Type 0} (root : T → ℕ) (name : Bytes) (result : Result T E) (s : State) (events : List (Event Update)) (t : State) : Type 0 where
  pub follows : Follows s events t
  pub does : (w : Named) → AreNamed (contents_of s) w → Opens root name result s events t w
