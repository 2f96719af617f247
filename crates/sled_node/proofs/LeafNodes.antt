-- A leaf over all keys is well-formed where its pairs can be stored.
use Rattle.std.proofs.Common.{List, [], ◌∷◌, map, Option, None, Some, arith, refl}
use Rattle.std.specs.Option.{SomeIff}
use Rattle.std.specs.List.{AllByRecursion}
use Rattle.std.proofs.lemmas.List.{length-map}
use Rattle.sled_base.specs.Order.{Bytes, IsBelow, IsAtMost}
use Rattle.sled_node.specs.Node.{Item, Value, WholeNode, IsWellFormed, IsInRange, leaf_of}
use Rattle.sled_node.specs.Pairs.{IsWithinLimit, IsAscending, HasPairs}

abbrev items_of : List (Bytes × Bytes) → List (Bytes × Item)
items_of pairs = map (λ pair. (pair.0, Value pair.1)) pairs

all_items : (P : Bytes × Bytes → Type 0) (Q : Bytes × Item → Type 0) → ((pair : Bytes × Bytes) → P pair → Q (pair.0, Value pair.1)) → (pairs : List (Bytes × Bytes)) → AllByRecursion P pairs → AllByRecursion Q (items_of pairs)
all_items P Q so [] all = tt
all_items P Q so (pair ∷ pairs) all = (so pair all.0, all_items P Q so pairs all.1)

items_rise : (pairs : List (Bytes × Bytes)) → IsAscending pairs → IsAscending (items_of pairs)
items_rise [] ascending = tt
items_rise (pair ∷ pairs) ascending = (all_items (λ later. IsBelow pair.0 later.0) (λ later. IsBelow pair.0 later.0) (λ later below. below) pairs ascending.0, items_rise pairs ascending.1)

-- no key is below the empty one
above_empty : (key : Bytes) → IsAtMost [] key
above_empty [] = λ below. cc
above_empty (byte ∷ key) = λ below. cc

pub leaf_formed : (pairs : List (Bytes × Bytes)) → HasPairs IsWithinLimit pairs → IsWellFormed (leaf_of (items_of pairs))
leaf_formed pairs has = record {
  range = λ some. absurd (some refl);
  prefix_byte = omega arith;
  prefix_open = λ none. refl;
  prefix_common = refl;
  ascending = items_rise pairs has.ascending;
  in_range = all_items (λ pair. IsWithinLimit pair.0) (λ pair. IsInRange (leaf_of (items_of pairs)) pair.0) (λ pair fits. (above_empty pair.0, λ some. absurd (some refl))) pairs has.keys;
  few = simp length-map has.few;
  bounds = (omega arith, omega arith);
  keys = all_items (λ pair. IsWithinLimit pair.0) (λ pair. IsWithinLimit pair.0) (λ pair fits. fits) pairs has.keys;
  items = all_items (λ pair. IsWithinLimit pair.1) _ (λ pair fits. fits) pairs has.items;
  pages = (tt, tt);
}

-- so its parts make a node
pub leaf_found : (pairs : List (Bytes × Bytes)) (found : Option WholeNode) → HasPairs IsWithinLimit pairs → SomeIff found (IsWellFormed (leaf_of (items_of pairs))) (leaf_of (items_of pairs)) → SomeIff found (HasPairs IsWithinLimit pairs) (leaf_of (items_of pairs))
leaf_found pairs None has made = λ _. made (leaf_formed pairs has)
leaf_found pairs (Some node) has made = (has, made.1)
