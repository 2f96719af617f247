-- Which call of a map a call makes, over any log, and what its status says of the result.
use Rattle.std.specs.Prelude.{◌≡◌, ◌==◌, ◌+◌, ◌++◌, ◌⊎◌, if◌then◌else◌, ℕ, Bool, [], Option, None, Some, Result, Ok, Err, IfErr, length, unwrap_or}
use Rattle.std.specs.List.{flat_map}
use Rattle.std.specs.Option.{is_some}
use Rattle.std.specs.declared.ops.Bound.{Bound}
use Rattle.std.specs.declared.ops.Bound.TheVariants.{Included, Excluded, Unbounded}
use Rattle.sled_base.specs.Order.{Bytes}
use Rattle.sled_log.specs.declared.log.Log.{Ghosts}
use Rattle.sled_pagecache.specs.Cache.{Cache}
use Rattle.sled_search.specs.Map.{Map, at_key}
use Rattle.sled_tree.specs.ByName.{IsOfMap, SetsIn, SwapsIn, TakesFrom, first_name}
use Rattle.sled_tree.specs.Changed.{Reads}
use Rattle.sled_tree.specs.Dropping.{DropsMap, names_of}
use Rattle.sled_tree.specs.Errors.{IsOfCache, IsOfKey, IsOfPair}
use Rattle.sled_tree.specs.Named.{AreNamed, Named}
use Rattle.sled_tree.specs.Ordered.{behind, before as before_bound, first_of, last_of, IsPieceOf}
use Rattle.sled_tree.specs.Performs.{Performs}
use Rattle.sled_tree.specs.declared.error.TreeError.{TreeError}
use Rattle.sled_tree.specs.declared.neighbours.pieces.Piece.{Piece}
use Rattle.sled_handle.specs.Numbers as number
use Rattle.sled_handle.specs.Numbers.{number_of_tree_error}
use Rattle.sled_handle.specs.Statuses.{TellsBytes}
use Rattle.sled_handle.specs.Pairs.{AreWritable, IsShort, pair_bytes}
use Rattle.sled_handle.specs.Steps.{LacksMemory}
use Rattle.sled_handle.specs.declared.calls.maps.ordered.FoundPiece.{FoundPiece}
use Rattle.sled_handle.specs.declared.calls.maps.ordered.Side.{Side}
use Rattle.sled_handle.specs.declared.calls.maps.ordered.Side.TheVariants.{Above, Below}

-- an optional value, as a program hands it in
abbrev pub value_if : Bool → Bytes → Option Bytes
value_if is_there value = if is_there then Some value else None

-- ---- what a status tells

-- the status is that of the error, and what the call would write to stays unchanged
abbrev pub TellsRefused : {X : Type 0} → TreeError → ℕ → X → X → Type 0
TellsRefused e status before after = (status ≡ number_of_tree_error e) × (after ≡ before)

-- The result is written, or the status is that of the error.
abbrev pub TellsAnswer : {X : Type 0} → Result X TreeError → ℕ → X → X → Type 0
TellsAnswer (Ok answer) status before after = (status ≡ number.ok) × (after ≡ answer)
TellsAnswer (Err e) status before after = TellsRefused e status before after

-- The bytes are written, and their number; or the status says that there are none, or is that of the error.
abbrev pub TellsBytesOf : Result (Option Bytes) TreeError → ℕ → ℕ × Bytes → ℕ × Bytes → Type 0
TellsBytesOf (Ok None) status before after = (status ≡ number.none) × (after ≡ before)
TellsBytesOf (Ok (Some bytes)) status before after = TellsBytes bytes status after.0 before.1 after.1
TellsBytesOf (Err e) status before after = TellsRefused e status before after

-- It is written whether there was a value before, or the status is that of the error.
abbrev pub TellsHad : Result (Option Bytes) TreeError → ℕ → Bool → Bool → Type 0
TellsHad (Ok value) status before after = (status ≡ number.ok) × (after ≡ is_some value)
TellsHad (Err e) status before after = TellsRefused e status before after

-- The status says that the key had the old value, or another one, or is that of the error.
abbrev pub TellsCompared : Result (Result (Unit {0}) (Option Bytes)) TreeError → ℕ → Type 0
TellsCompared (Ok (Ok done)) status = status ≡ number.ok
TellsCompared (Ok (Err present)) status = status ≡ number.stale
TellsCompared (Err e) status = status ≡ number_of_tree_error e

-- ---- pairs in their order

-- the bound that a number and a key make, if the number names a kind of bound
abbrev pub named_bound : ℕ → Bytes → Option (Bound Bytes)
named_bound kind key =
    if kind == 0 then Some (Included key) else if kind == 1 then Some (Excluded key) else if kind == 2 then Some Unbounded else None

-- the side that a number and a key make, if the number names a side
abbrev pub named_side : ℕ → Bytes → Option Side
named_side side key =
    if side == 0 then Some (Above (Excluded key)) else if side == 1 then Some (Above (Included key))
    else if side == 2 then Some (Below (Excluded key)) else if side == 3 then Some (Below (Included key))
    else if side == 4 then Some (Above Unbounded) else if side == 5 then Some (Below Unbounded) else None

-- the nearest pair on a side
abbrev pub nearest : Side → Map → Option (Bytes × Bytes)
nearest (Above bound) m = first_of (behind bound m)
nearest (Below bound) m = last_of (before_bound bound m)

-- A pair is written, or the status says that its lengths don't fit.
abbrev pub TellsPair : Bytes × Bytes → ℕ → ℕ × Bytes → ℕ × Bytes → Type 0
TellsPair pair status before after =
    ((¬ IsShort pair) × (status ≡ number.corruption) × (after ≡ before)) ⊎ (IsShort pair × TellsBytes (pair_bytes pair) status after.0 before.1 after.1)

-- The pair is written, or the status says that there is none, or is that of the error.
abbrev pub TellsPairOf : Result (Option (Bytes × Bytes)) TreeError → ℕ → ℕ × Bytes → ℕ × Bytes → Type 0
TellsPairOf (Ok None) status before after = (status ≡ number.none) × (after ≡ before)
TellsPairOf (Ok (Some pair)) status before after = TellsPair pair status before after
TellsPairOf (Err e) status before after = TellsRefused e status before after

-- the key at which the other pairs begin, or no bytes
abbrev pub rest_in : Piece → Bytes
rest_in piece = unwrap_or piece.rest []

-- what is reported of a piece whose pairs take this many bytes
abbrev pub found_piece : ℕ → Piece → FoundPiece
found_piece bytes piece = record { count = length piece.pairs.items; pairs_len = bytes; rest_len = length (rest_in piece); more = is_some piece.rest }

-- the number of bytes that the buffer must have
abbrev pub room_for : FoundPiece → ℕ
room_for found = found.pairs_len + found.rest_len

-- The pairs are written, followed by the key at which the others begin, or the status says that their lengths don't fit.
abbrev pub TellsPiece : Piece → ℕ → FoundPiece × Bytes → FoundPiece × Bytes → Type 0
TellsPiece piece status before after =
    let bytes = flat_map pair_bytes piece.pairs.items in
    ((¬ AreWritable piece.pairs.items) × (status ≡ number.corruption) × (after ≡ before))
    ⊎ (AreWritable piece.pairs.items × (after.0 ≡ found_piece (length bytes) piece) × TellsBytes (bytes ++ rest_in piece) status (room_for after.0) before.1 after.1)

-- Only that key is written.
abbrev pub TellsCount : Piece → ℕ → FoundPiece × Bytes → FoundPiece × Bytes → Type 0
TellsCount piece status before after = (after.0 ≡ found_piece 0 piece) × TellsBytes (rest_in piece) status (room_for after.0) before.1 after.1

-- The same of a piece, or the status is that of the error.
abbrev pub TellsPieceOf : (Piece → ℕ → FoundPiece × Bytes → FoundPiece × Bytes → Type 0) → Result Piece TreeError → ℕ → FoundPiece × Bytes → FoundPiece × Bytes → Type 0
TellsPieceOf Tells (Ok piece) status before after = Tells piece status before after
TellsPieceOf Tells (Err e) status before after = TellsRefused e status before after

-- ---- what a call does

module _ {L : Type 0} (g : Ghosts L) (old new : Cache L) where
  -- a map is read, and the answer returned
  abbrev pub ReadsNamed : {T : Type 0} → Bytes → (Map → T → Type 0) → Result T TreeError → Type 0
  ReadsNamed name Is answer = Performs g (Reads answer (IsOfMap name Is)) old new × IfErr answer IsOfCache

  -- the value of a key
  abbrev pub GetsOfMap : Bytes → Bytes → ℕ → ℕ × Bytes → ℕ × Bytes → Type 0
  GetsOfMap name key status before after =
      (answer : Result (Option Bytes) TreeError) × ReadsNamed name (λ m value. value ≡ at_key m key) answer × TellsBytesOf answer status before after

  -- a key is set
  abbrev pub SetsOfMap : Bytes → Bytes → Bytes → ℕ → Bool → Bool → Type 0
  SetsOfMap name key value status before after =
      LacksMemory g old new status before after
      ⊎ ((answer : Result (Option Bytes) TreeError) × SetsIn g name key value answer old new × IfErr answer (IsOfPair key value) × TellsHad answer status before after)

  -- a key is removed
  abbrev pub TakesOfMap : Bytes → Bytes → ℕ → Bool → Bool → Type 0
  TakesOfMap name key status before after =
      (answer : Result (Option Bytes) TreeError) × TakesFrom g name key answer old new × IfErr answer (IsOfKey key) × TellsHad answer status before after

  -- the value of a key is swapped
  abbrev pub SwapsOfMap : Bytes → Bytes → Option Bytes → Option Bytes → ℕ → Type 0
  SwapsOfMap name key had value status =
      ((status ≡ number.memory) × (new ≡ old))
      ⊎ ((answer : Result (Result (Unit {0}) (Option Bytes)) TreeError) × SwapsIn g name key had value answer old new × IfErr answer (IsOfPair key (unwrap_or value [])) × TellsCompared answer status)

  -- a map is dropped
  abbrev pub DropsOfName : Bytes → ℕ → Bool → Bool → Type 0
  DropsOfName name status before after =
      (answer : Result Bool TreeError) × Performs g (DropsMap name answer) old new × IfErr answer IsOfCache × TellsAnswer answer status before after

  -- the first name after another one
  abbrev pub FindsName : Option Bytes → ℕ → ℕ × Bytes → ℕ × Bytes → Type 0
  FindsName after_name status before after =
      (answer : Result (Option Bytes) TreeError)
      × Performs g (Reads answer (λ pages name. (w : Named) → AreNamed pages w → name ≡ first_name after_name (names_of w.names))) old new
      × IfErr answer IsOfCache × TellsBytesOf answer status before after

  -- a number names no side, or no bound, and nothing is done
  abbrev pub NamesNone : {X : Type 0} → ℕ → X → X → Type 0
  NamesNone status before after = (status ≡ number.arguments) × (after ≡ before) × (new ≡ old)

  -- the nearest pair on a side
  abbrev pub ReadsNext : Bytes → ℕ → Bytes → ℕ → ℕ × Bytes → ℕ × Bytes → Type 0
  ReadsNext name side bound status before after =
      ((named_side side bound ≡ None) × NamesNone status before after)
      ⊎ LacksMemory g old new status before after
      ⊎ ((on : Side) × (named_side side bound ≡ Some on)
      × ((answer : Result (Option (Bytes × Bytes)) TreeError) × ReadsNamed name (λ m pair. pair ≡ nearest on m) answer × TellsPairOf answer status before after))

  -- the first pairs within two bounds
  abbrev pub ReadsPiece : Bytes → ℕ → Bytes → ℕ → Bytes → (Piece → ℕ → FoundPiece × Bytes → FoundPiece × Bytes → Type 0) → ℕ → FoundPiece × Bytes → FoundPiece × Bytes → Type 0
  ReadsPiece name from_kind from to_kind to Tells status before after =
      (((named_bound from_kind from ≡ None) ⊎ (named_bound to_kind to ≡ None)) × NamesNone status before after)
      ⊎ LacksMemory g old new status before after
      ⊎ ((first last : Bound Bytes) × (named_bound from_kind from ≡ Some first) × (named_bound to_kind to ≡ Some last)
      × ((answer : Result Piece TreeError) × ReadsNamed name (λ m piece. IsPieceOf first last m piece) answer × TellsPieceOf Tells answer status before after))
