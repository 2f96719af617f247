-- The pairs of a map next to a bound, and within two bounds.
use Rattle.std.specs.Prelude.{◌≡◌, Bool, true, not, List, [], ◌∷◌, ◌++◌, Option, None, Some, IfSome}
use Rattle.std.specs.List.{filter}
use Rattle.std.specs.declared.ops.Bound.{Bound}
use Rattle.std.specs.declared.ops.Bound.TheVariants.{Included, Excluded, Unbounded}
use Rattle.sled_base.specs.Order.{Bytes, IsBelow, is_below}
use Rattle.sled_search.specs.Map.{Map, or_else}
use Rattle.sled_search.specs.Ordered.{is_before, start_of}
use Rattle.sled_tree.specs.declared.neighbours.pieces.Piece.{Piece}

-- Whether a key is after a bound. An included key is both after its bound and before it.
abbrev pub is_behind : Bound Bytes → Bytes → Bool
is_behind (Included bound) key = not (is_below key bound)
is_behind (Excluded bound) key = is_below bound key
is_behind Unbounded key = true

-- the pairs after a bound, those before one, and those within two
abbrev pub behind : {V : Type 0} → Bound Bytes → List (Bytes × V) → List (Bytes × V)
behind bound pairs = filter (λ pair. is_behind bound pair.0) pairs

abbrev pub before : {V : Type 0} → Bound Bytes → List (Bytes × V) → List (Bytes × V)
before bound pairs = filter (λ pair. is_before bound pair.0) pairs

abbrev pub within : {V : Type 0} → Bound Bytes → Bound Bytes → List (Bytes × V) → List (Bytes × V)
within from to pairs = before to (behind from pairs)

-- the first item of a list, and the last
abbrev pub first_of : {X : Type 0} → List X → Option X
first_of [] = None
first_of (x ∷ xs) = Some x

abbrev pub last_of : {X : Type 0} → List X → Option X
last_of [] = None
last_of (x ∷ xs) = or_else (last_of xs) (Some x)

-- the pairs from a key on and before a bound, or none if there is no key
abbrev pub from_on : {V : Type 0} → Option Bytes → Bound Bytes → List (Bytes × V) → List (Bytes × V)
from_on (Some key) to pairs = within (Included key) to pairs
from_on None to pairs = []

-- A piece of what the map has within two bounds: the first pairs, and the key from which the others begin. It has no pair only if the map has none
-- within the bounds. The others begin above the lower bound, so a loop over the pieces ends.
pub record IsPieceOf (from to : Bound Bytes) (m : Map) (piece : Piece) : Type 0 where
  pub pairs : within from to m ≡ piece.pairs.items ++ from_on piece.rest to m
  pub some : piece.pairs.items ≡ [] → piece.rest ≡ None
  pub further : IfSome piece.rest (λ key. IsBelow (start_of from) key)
