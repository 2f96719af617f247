-- The calls on maps, each with its result: what it needs of the names and maps, and what it makes of them.
use Rattle.std.specs.Prelude.{◌≡◌, ◌≢◌, ◌⊎◌, ◌↔◌, ℕ, Bool, true, IsTrue, List, [], length, Option, Some, None, Result, Ok, Err, IfOk, ⊤}
use Rattle.std.specs.Option.{is_some}
use Rattle.std.specs.declared.ops.Bound.{Bound}
use Rattle.sled_base.specs.Order.{Bytes}
use Rattle.sled_log.specs.Contents.{Update}
use Rattle.sled_log.specs.Events.{Event}
use Rattle.sled_log.specs.declared.log.Log.{Ghosts}
use Rattle.sled_node.specs.Meta as meta
use Rattle.sled_node.specs.Pairs.{set_pair, del_pair}
use Rattle.sled_pagecache.specs.Cache.{Cache}
use Rattle.sled_pagecache.specs.State.{State}
use Rattle.sled_pagecache.specs.declared.pagecache.handles.call.Answer.{Answer}
use Rattle.sled_pagecache.specs.declared.pagecache.handles.call.Call.{Call}
use Rattle.sled_search.specs.Map.{Map, at_key}
use Rattle.sled_search.specs.Maps.{HasTree}
use Rattle.sled_tree.specs.Maps.{root_of, with_swapped}
use Rattle.sled_tree.specs.Named.{Named, with_map_at, with_new}
use Rattle.sled_tree.specs.Names.{IsFree}
use Rattle.sled_tree.specs.Openings.{Deed, Ending, CrashedIn, IsDone}
use Rattle.sled_tree.specs.Ordered.{behind, before, first_of, last_of, IsPieceOf}
use Rattle.sled_tree.specs.declared.neighbours.pieces.Piece.{Piece}
use Rattle.sled_tree.specs.Performs.{Performs}
use Rattle.sled_tree.specs.declared.error.TreeError.{TreeError}
use Rattle.sled_tree.specs.declared.trees.Tree.{Tree}

-- a call with its arguments and its result
pub data MapCall : Type 0 where
  Opened : (name : Bytes) (result : Result Tree TreeError) → MapCall
  Got : (root : ℕ) (key : Bytes) (result : Result (Option Bytes) TreeError) → MapCall
  Contained : (root : ℕ) (key : Bytes) (result : Result Bool TreeError) → MapCall
  GotFirst : (root : ℕ) (result : Result (Option (Bytes × Bytes)) TreeError) → MapCall
  GotLast : (root : ℕ) (result : Result (Option (Bytes × Bytes)) TreeError) → MapCall
  GotAbove : (root : ℕ) (bound : Bound Bytes) (result : Result (Option (Bytes × Bytes)) TreeError) → MapCall
  GotBelow : (root : ℕ) (bound : Bound Bytes) (result : Result (Option (Bytes × Bytes)) TreeError) → MapCall
  GotRange : (root : ℕ) (from to : Bound Bytes) (result : Result Piece TreeError) → MapCall
  Counted : (root : ℕ) (result : Result ℕ TreeError) → MapCall
  FoundEmpty : (root : ℕ) (result : Result Bool TreeError) → MapCall
  Inserted : (root : ℕ) (key value : Bytes) (result : Result (Option Bytes) TreeError) → MapCall
  Removed : (root : ℕ) (key : Bytes) (result : Result (Option Bytes) TreeError) → MapCall
  Swapped : (root : ℕ) (key : Bytes) (before after : Option Bytes) (result : Result (Result (Unit {0}) (Option Bytes)) TreeError) → MapCall
  Generated : (result : Result ℕ TreeError) → MapCall
  Flushed : (result : Result ℕ TreeError) → MapCall
  Pinned : (result : Result (Unit {0}) TreeError) → MapCall
  Sealed : (result : Result (Unit {0}) TreeError) → MapCall
  Cancelled : (result : Result (Unit {0}) TreeError) → MapCall

-- A call on a map needs a map at its root.
abbrev pub Needs : MapCall → Named → Type 0
Needs (Got root key result) w = HasTree w.maps root
Needs (Contained root key result) w = HasTree w.maps root
Needs (GotFirst root result) w = HasTree w.maps root
Needs (GotLast root result) w = HasTree w.maps root
Needs (GotAbove root bound result) w = HasTree w.maps root
Needs (GotBelow root bound result) w = HasTree w.maps root
Needs (GotRange root from to result) w = HasTree w.maps root
Needs (Counted root result) w = HasTree w.maps root
Needs (FoundEmpty root result) w = HasTree w.maps root
Needs (Inserted root key value result) w = HasTree w.maps root
Needs (Removed root key result) w = HasTree w.maps root
Needs (Swapped root key before after result) w = HasTree w.maps root
Needs call w = ⊤

-- the root has a map, which meets the condition
abbrev pub HasMap : Named → ℕ → (Map → Type 0) → Type 0
HasMap w root Is = (m : Map) × (w.maps root ≡ Some m) × Is m

-- Everything stays as it is, and the map at the root and the answer meet the condition.
abbrev pub Answers : {T : Type 0} → Named → Named → ℕ → Result T TreeError → (Map → T → Type 0) → Type 0
Answers old new root result Is = (new ≡ old) × IfOk result (λ answer. HasMap old root (λ m. Is m answer))

-- What an error leaves: everything as it was; or, if a write failed, the names and maps may be the new ones.
abbrev pub StaysUnless : Bool → Named → Named → Named → Type 0
StaysUnless fault old others new = (new ≡ old) ⊎ ((fault ≡ true) × (new ≡ others))

-- What a call makes of the old names and maps. `fault` is whether a write has failed by its end.
abbrev pub Does : MapCall → Bool → Named → Named → Type 0
Does (Opened name (Ok tree)) fault old new =
    ((meta.root_of name old.names ≡ Some (root_of tree)) × (new ≡ old)) ⊎ (IsFree name (root_of tree) old × (new ≡ with_new name (root_of tree) old))
Does (Opened name (Err e)) fault old new = (new ≡ old) ⊎ ((root : ℕ) × IsFree name root old × StaysUnless fault old (with_new name root old) new)
Does (Got root key result) fault old new = Answers old new root result (λ m value. value ≡ at_key m key)
Does (Contained root key result) fault old new = Answers old new root result (λ m there. there ≡ is_some (at_key m key))
Does (GotFirst root result) fault old new = Answers old new root result (λ m pair. pair ≡ first_of m)
Does (GotLast root result) fault old new = Answers old new root result (λ m pair. pair ≡ last_of m)
Does (GotAbove root bound result) fault old new = Answers old new root result (λ m pair. pair ≡ first_of (behind bound m))
Does (GotBelow root bound result) fault old new = Answers old new root result (λ m pair. pair ≡ last_of (before bound m))
Does (GotRange root from to result) fault old new = Answers old new root result (λ m piece. IsPieceOf from to m piece)
Does (Counted root result) fault old new = Answers old new root result (λ m count. count ≡ length m)
Does (FoundEmpty root result) fault old new = Answers old new root result (λ m none. IsTrue none ↔ (m ≡ []))
Does (Inserted root key value (Ok before)) fault old new = HasMap old root (λ m. (before ≡ at_key m key) × (new ≡ with_map_at root (set_pair key value m) old))
Does (Inserted root key value (Err e)) fault old new = HasMap old root (λ m. StaysUnless fault old (with_map_at root (set_pair key value m) old) new)
Does (Removed root key (Ok None)) fault old new = HasMap old root (λ m. (None ≡ at_key m key) × (new ≡ old))
Does (Removed root key (Ok (Some before))) fault old new = HasMap old root (λ m. (Some before ≡ at_key m key) × (new ≡ with_map_at root (del_pair key m) old))
Does (Removed root key (Err e)) fault old new = HasMap old root (λ m. StaysUnless fault old (with_map_at root (del_pair key m) old) new)
Does (Swapped root key before after (Ok (Ok done))) fault old new = HasMap old root (λ m. (before ≡ at_key m key) × (new ≡ with_swapped root key before after m old))
Does (Swapped root key before after (Ok (Err present))) fault old new = HasMap old root (λ m. (present ≡ at_key m key) × (present ≢ before) × (new ≡ old))
Does (Swapped root key before after (Err e)) fault old new = HasMap old root (λ m. StaysUnless fault old (with_swapped root key before after m old) new)
Does (Generated result) fault old new = new ≡ old
Does (Flushed result) fault old new = new ≡ old
Does (Pinned result) fault old new = new ≡ old
Does (Sealed result) fault old new = new ≡ old
Does (Cancelled result) fault old new = new ≡ old

-- The call doesn't change the value of the key in the map at this root.
abbrev pub LeavesKey : ℕ → Bytes → MapCall → Type 0
LeavesKey root key (Inserted other k value result) = other ≡ root → k ≢ key
LeavesKey root key (Removed other k result) = other ≡ root → k ≢ key
LeavesKey root key (Swapped other k before after result) = other ≡ root → k ≢ key
LeavesKey root key what = ⊤

-- An opening may end in any way. But if a crash comes inside a call, that call has what it needs of these names and maps, and leaves the key.
abbrev pub EndsBeside : Named → ℕ → Bytes → Ending MapCall → Type 0
EndsBeside w root key (CrashedIn deed) = Needs deed.what w × LeavesKey root key deed.what
EndsBeside w root key ending = ⊤

-- An opening may end in any way. But if a crash comes inside a call, that call has what it needs of these names and maps.
abbrev pub EndsInNeed : Named → Ending MapCall → Type 0
EndsInNeed w (CrashedIn deed) = Needs deed.what w
EndsInNeed w ending = ⊤

-- a call, made by these calls of the cache
abbrev pub deed : MapCall → List (Call × Answer) → Deed MapCall
deed what calls = record { what = what; calls = calls }

module _ {L : Type 0} (g : Ghosts L) where
  -- If a call does what its contract says, then this deed is done, by the same calls of the cache that the contract is about.
  abbrev pub IsWordOf : (State → List (Event Update) → State → Type 0) → MapCall → Type 0
  IsWordOf Is what = (old new : Cache L) (performs : Performs g Is old new) → IsDone g Needs Does old (deed what performs.calls) new
