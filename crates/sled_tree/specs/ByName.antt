-- Calls on the maps by their names.
use Rattle.std.specs.Prelude.{◌≡◌, ◌⊎◌, ℕ, Bool, true, List, [], Option, None, Some, Result, Ok, Err, unwrap_or}
use Rattle.std.specs.List.{filter}
use Rattle.sled_base.specs.Order.{Bytes, is_below}
use Rattle.sled_log.specs.Contents.{Content, Update}
use Rattle.sled_log.specs.Events.{Event}
use Rattle.sled_log.specs.declared.log.Log.{Ghosts}
use Rattle.sled_node.specs.Meta as meta
use Rattle.sled_pagecache.specs.Cache.{Cache}
use Rattle.sled_pagecache.specs.State.{State}
use Rattle.sled_search.specs.Map.{Map}
use Rattle.sled_search.specs.Maps.{Maps}
use Rattle.sled_tree.specs.Changed.{Reads}
use Rattle.sled_tree.specs.Dropping.{HasMap, IsMapOf}
use Rattle.sled_tree.specs.Errors.{IsTooLong}
use Rattle.sled_tree.specs.Maps.{ChangesMap, SetsKey, SwapsKey, TakesKey, root_of}
use Rattle.sled_tree.specs.Named.{AreNamed, Named}
use Rattle.sled_tree.specs.Names.{OpensMap}
use Rattle.sled_tree.specs.Ordered.{first_of}
use Rattle.sled_tree.specs.Performs.{Performs}
use Rattle.sled_tree.specs.declared.error.TreeError.{TreeError}
use Rattle.sled_tree.specs.declared.error.TreeError.TheVariants.{KeyTooLong, ValueTooLong}
use Rattle.sled_tree.specs.declared.trees.Tree.{Tree}

-- ---- reading

-- the map if there is one, and otherwise no pair
abbrev pub pairs_in : Option Map → Map
pairs_in None = []
pairs_in (Some m) = m

-- the map at a root, or an empty map if there is no root
abbrev pub map_at : Maps → Option ℕ → Map
map_at maps None = []
map_at maps (Some root) = pairs_in (maps root)

-- The map of a name. The map of a name without a root is empty.
abbrev pub map_of : Bytes → Named → Map
map_of name w = map_at w.maps (meta.root_of name w.names)

-- For all names and maps of these pages, in which this name has a map if it has a root: its map and the answer meet the condition.
abbrev pub IsOfMap : {T : Type 0} → Bytes → (Map → T → Type 0) → List Content → T → Type 0
IsOfMap name Is pages answer = (w : Named) → AreNamed pages w → HasMap name w → Is (map_of name w) answer

-- ---- changing

module _ {L T : Type 0} where
  -- The call returns this, and does nothing.
  abbrev pub Answers : Result T TreeError → Result T TreeError → Cache L → Cache L → Type 0
  Answers answer result old new = (result ≡ answer) × (new ≡ old)

  -- A key or a value is too long, and the call refuses it.
  abbrev pub IsRefused : Bytes → Bytes → Result T TreeError → Cache L → Cache L → Type 0
  IsRefused key value result old new =
      (IsTooLong key × Answers (Err KeyTooLong) result old new) ⊎ (IsTooLong value × Answers (Err ValueTooLong) result old new)

-- what a call does with the map at a root, if it returns this result
abbrev pub DoesAt : Type 0 → Type 1
DoesAt T = ℕ → Result T TreeError → State → List (Event Update) → State → Named → Map → Type 0

module _ {L : Type 0} (g : Ghosts L) {T : Type 0} where
  -- What a call does after opening a map: it does this with the map; or the opening failed, and it does nothing.
  abbrev pub DoesOpened : DoesAt T → Result Tree TreeError → Result T TreeError → Cache L → Cache L → Type 0
  DoesOpened Does (Ok tree) result old new = Performs g (ChangesMap (root_of tree) (Does (root_of tree) result)) old new
  DoesOpened Does (Err e) result old new = Answers (Err e) result old new

  -- The call opens the map of a name, which is made if there is none, and then does this with it.
  pub record OpensThen (name : Bytes) (Does : DoesAt T) (result : Result T TreeError) (old new : Cache L) : Type 0 where
    pub opened : Result Tree TreeError
    pub mid : Cache L
    pub opens : Performs g (OpensMap root_of name opened) old mid
    pub does : DoesOpened Does opened result mid new

  -- What a call does after it looked for a map: it does this with the map; or it does `Absent` if there is none; or looking failed, and it does
  -- nothing.
  abbrev pub DoesFound : DoesAt T → (Result T TreeError → Cache L → Cache L → Type 0) → Result (Option Tree) TreeError → Result T TreeError → Cache L → Cache L → Type 0
  DoesFound Does Absent (Ok (Some tree)) result old new = Performs g (ChangesMap (root_of tree) (Does (root_of tree) result)) old new
  DoesFound Does Absent (Ok None) result old new = Absent result old new
  DoesFound Does Absent (Err e) result old new = Answers (Err e) result old new

  -- The call looks for the map of a name, and then does this with it, or `Absent` if there is none.
  pub record FindsThen (name : Bytes) (Does : DoesAt T) (Absent : Result T TreeError → Cache L → Cache L → Type 0) (result : Result T TreeError) (old new : Cache L) : Type 0 where
    pub found : Result (Option Tree) TreeError
    pub finds : Performs g (Reads found (IsMapOf name)) old old
    pub does : DoesFound Does Absent found result old new

module _ {L : Type 0} (g : Ghosts L) (name key : Bytes) where
  -- The call sets the key.
  abbrev pub SetsIn : Bytes → Result (Option Bytes) TreeError → Cache L → Cache L → Type 0
  SetsIn value result old new = IsRefused key value result old new ⊎ OpensThen g name (λ root. SetsKey root key value) result old new

  -- The call removes the key.
  abbrev pub TakesFrom : Result (Option Bytes) TreeError → Cache L → Cache L → Type 0
  TakesFrom result old new =
      (IsTooLong key × Answers (Err KeyTooLong) result old new) ⊎ FindsThen g name (λ root. TakesKey root key) (Answers (Ok None)) result old new

  -- What a swap of its value does if there is no map: it returns what it would for an empty one, or it makes a map.
  abbrev pub SwapsNone : Option Bytes → Option Bytes → Result (Result (Unit {0}) (Option Bytes)) TreeError → Cache L → Cache L → Type 0
  SwapsNone (Some before) after result old new = Answers (Ok (Err None)) result old new
  SwapsNone None None result old new = Answers (Ok (Ok tt)) result old new
  SwapsNone None (Some value) result old new = OpensThen g name (λ root. SwapsKey root key None (Some value)) result old new

  -- The call swaps the value of the key.
  abbrev pub SwapsIn : Option Bytes → Option Bytes → Result (Result (Unit {0}) (Option Bytes)) TreeError → Cache L → Cache L → Type 0
  SwapsIn before after result old new =
      IsRefused key (unwrap_or after []) result old new ⊎ FindsThen g name (λ root. SwapsKey root key before after) (SwapsNone before after) result old new

-- ---- names

-- whether a name comes after another one, if there is one
abbrev pub follows : Option Bytes → Bytes → Bool
follows None name = true
follows (Some after) name = is_below after name

-- the first name after another one, or the first of all
abbrev pub first_name : Option Bytes → List Bytes → Option Bytes
first_name after names = first_of (filter (follows after) names)
