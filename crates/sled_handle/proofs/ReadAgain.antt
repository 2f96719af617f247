-- What is written of a leaf is read as a leaf of the same pairs.
use Rattle.std.proofs.Common.{◌≡◌, false, List, [], ◌∷◌, ◌++◌, map, refl, sym, ap, subst, ◌∙◌, arith}
use Rattle.std.specs.List.{AllByRecursion, flat_map}
use Rattle.std.proofs.lemmas.List.{length-map}
use Rattle.sled_base.specs.Order.{Bytes, IsBelow}
use Rattle.sled_node.specs.Node.{Item, Value, Child, ItemFits, IsWellFormed, WholeNode, leaf_of}
use Rattle.sled_node.specs.Pairs.{IsAscending, IsWithinLimit}
use Rattle.sled_handle.specs.Pairs.{IsReadAgain, IsShort, item_bytes, pair_bytes, value_of}

abbrev plain : Bytes × Item → Bytes × Bytes
plain pair = (pair.0, value_of pair.1)

abbrev Fits : Bytes × Item → Type 0
Fits pair = ItemFits false pair.1

same_bytes : (pairs : List (Bytes × Item)) → flat_map item_bytes pairs ≡ flat_map pair_bytes (map plain pairs)
same_bytes [] = refl
same_bytes (pair ∷ pairs) = ap (λ bytes. item_bytes pair ++ bytes) (same_bytes pairs)

-- each item of a leaf is a value
value_again : (item : Item) → ItemFits false item → Value (value_of item) ≡ item
value_again (Value value) fits = refl
value_again (Child page) fits = absurd fits

same_pairs : (pairs : List (Bytes × Item)) → AllByRecursion Fits pairs → map (λ pair. (pair.0, Value pair.1)) (map plain pairs) ≡ pairs
same_pairs [] all = refl
same_pairs (pair ∷ pairs) all = ap (λ item. (pair.0, item) ∷ map (λ p. (p.0, Value p.1)) (map plain pairs)) (value_again pair.1 all.0) ∙ ap (λ rest. pair ∷ rest) (same_pairs pairs all.1)

all_plain : (P : Bytes × Item → Type 0) (Q : Bytes × Bytes → Type 0) → ((pair : Bytes × Item) → P pair → Q (plain pair)) → (pairs : List (Bytes × Item)) → AllByRecursion P pairs → AllByRecursion Q (map plain pairs)
all_plain P Q so [] all = tt
all_plain P Q so (pair ∷ pairs) all = (so pair all.0, all_plain P Q so pairs all.1)

rise : (pairs : List (Bytes × Item)) → IsAscending pairs → IsAscending (map plain pairs)
rise [] ascending = tt
rise (pair ∷ pairs) ascending = (all_plain (λ later. IsBelow pair.0 later.0) (λ later. IsBelow pair.0 later.0) (λ later below. below) pairs ascending.0, rise pairs ascending.1)

value_fits : (item : Item) → ItemFits false item → IsWithinLimit (value_of item)
value_fits (Value value) fits = fits
value_fits (Child page) fits = absurd fits

all_both : (pairs : List (Bytes × Item)) → AllByRecursion (λ pair. IsWithinLimit pair.0) pairs → AllByRecursion Fits pairs → AllByRecursion IsShort (map plain pairs)
all_both [] keys items = tt
all_both (pair ∷ pairs) keys items = let value = value_fits pair.1 items.0 in ((omega (arith, keys.0), omega (arith, value)), all_both pairs keys.1 items.1)

pub read_again : (node : WholeNode) → IsWellFormed node → IsReadAgain node
read_again node formed is_leaf =
    let items : AllByRecursion Fits node.pairs = subst (λ is_index. AllByRecursion (λ pair. ItemFits is_index pair.1) node.pairs) is_leaf formed.items in record {
      pairs = map plain node.pairs;
      encode = (all_both node.pairs formed.keys items, same_bytes node.pairs);
      fits = record {
        few = simp length-map formed.few;
        ascending = rise node.pairs formed.ascending;
        keys = all_plain (λ pair. IsWithinLimit pair.0) (λ pair. IsWithinLimit pair.0) (λ pair fits. fits) node.pairs formed.keys;
        items = all_plain Fits (λ pair. IsWithinLimit pair.1) (λ pair fits. value_fits pair.1 fits) node.pairs items;
      };
      leaf = ap leaf_of (sym (same_pairs node.pairs items));
    }
