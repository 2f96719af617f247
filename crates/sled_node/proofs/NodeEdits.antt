-- What an edit of the stored pairs is on whole keys.
use Rattle.std.proofs.Common.{◌≡◌, ◌↔◌, IsTrue, ◌≤◌, ◌^◌, ℕ, Bool, true, false, cond, List, [], ◌∷◌, ◌++◌, length, map, take, Option, refl, sym, ap, subst, ◌∙◌, arith}
use Rattle.std.specs.Ordering.{is_lt}
use Rattle.std.proofs.lemmas.List.{length-map, map-append, length-append}
use Rattle.sled_base.specs.Order.{Bytes, is_below}
use Rattle.sled_base.specs.OrderLaws.{under_one_front}
use Rattle.sled_node.specs.declared.node.data.Data.{Data}
use Rattle.sled_node.specs.declared.node.data.Data.TheVariants.{Leaf, Index}
use Rattle.sled_node.specs.declared.node.link.Link.TheVariants.{Set, Del}
use Rattle.sled_node.specs.Pairs.{IsWithinLimit, pairs_below, pairs_above, set_pair, del_pair}
use Rattle.sled_node.specs.Node.{Item, Value, WholeNode, whole, IsWellFormed, ItemFits, IsInRange}
use Rattle.sled_node.specs.Links.{AcceptsHere, applied}
use Rattle.sled_node.specs.Parts.{is_index, node_of, set_stored, del_stored, CanSet}
use Rattle.sled_node.proofs.Edits.{ascending_set, ascending_del, all_set, all_del, few_del}

module _ {V : Type 0} (front : Bytes) (make : V → Item) where
  -- a stored pair, with its whole key
  abbrev pub made : Bytes × V → Bytes × Item
  made pair = (front ++ pair.0, make pair.1)

  chosen_alike : (b c : Bool) (x : Bytes × V) (xs : List (Bytes × V)) (ys : List (Bytes × Item)) → b ≡ c → map made xs ≡ ys → map made (cond b (x ∷ xs) xs) ≡ cond c (made x ∷ ys) ys
  chosen_alike true true x xs ys same rest = ap (λ zs. made x ∷ zs) rest
  chosen_alike true false x xs ys same rest = absurd cc
  chosen_alike false true x xs ys same rest = absurd cc
  chosen_alike false false x xs ys same rest = rest

  pub below_under : (key : Bytes) (pairs : List (Bytes × V)) → map made (pairs_below key pairs) ≡ pairs_below (front ++ key) (map made pairs)
  below_under key [] = refl
  below_under key (pair ∷ pairs) = chosen_alike (is_below pair.0 key) (is_below (front ++ pair.0) (front ++ key)) pair (pairs_below key pairs) (pairs_below (front ++ key) (map made pairs)) (ap is_lt (sym (under_one_front front pair.0 key))) (below_under key pairs)

  pub above_under : (key : Bytes) (pairs : List (Bytes × V)) → map made (pairs_above key pairs) ≡ pairs_above (front ++ key) (map made pairs)
  above_under key [] = refl
  above_under key (pair ∷ pairs) = chosen_alike (is_below key pair.0) (is_below (front ++ key) (front ++ pair.0)) pair (pairs_above key pairs) (pairs_above (front ++ key) (map made pairs)) (ap is_lt (sym (under_one_front front key pair.0))) (above_under key pairs)

  pub set_under : (key : Bytes) (item : V) (pairs : List (Bytes × V)) → map made (set_pair key item pairs) ≡ set_pair (front ++ key) (make item) (map made pairs)
  set_under key item pairs =
      map-append made (pairs_below key pairs) ((key, item) ∷ pairs_above key pairs) ∙ ap (λ xs. xs ++ made (key, item) ∷ map made (pairs_above key pairs)) (below_under key pairs) ∙ ap (λ ys. pairs_below (front ++ key) (map made pairs) ++ made (key, item) ∷ ys) (above_under key pairs)

  pub del_under : (key : Bytes) (pairs : List (Bytes × V)) → map made (del_pair key pairs) ≡ del_pair (front ++ key) (map made pairs)
  del_under key pairs =
      map-append made (pairs_below key pairs) (pairs_above key pairs) ∙ ap (λ xs. xs ++ map made (pairs_above key pairs)) (below_under key pairs) ∙ ap (λ ys. pairs_below (front ++ key) (map made pairs) ++ ys) (above_under key pairs)

-- ---- a link on a well-formed node

pub well_formed_set : (n : WholeNode) (key value : Bytes) → IsWellFormed n → AcceptsHere n (Set key value) → IsWellFormed (applied (Set key value) n)
well_formed_set n key value formed (leaf, inside, key_fits, value_fits, few) = record {
  range = formed.range;
  prefix_byte = formed.prefix_byte;
  prefix_open = formed.prefix_open;
  prefix_common = formed.prefix_common;
  ascending = ascending_set (whole n key) n.pairs (Value value) formed.ascending;
  in_range = all_set (whole n key) n.pairs (λ pair. IsInRange n pair.0) (Value value) inside formed.in_range;
  few = few;
  bounds = formed.bounds;
  keys = all_set (whole n key) n.pairs (λ pair. IsWithinLimit pair.0) (Value value) key_fits formed.keys;
  items = all_set (whole n key) n.pairs (λ pair. ItemFits n.is_index pair.1) (Value value) (subst (λ b. ItemFits b (Value value)) (sym leaf) value_fits) formed.items;
  pages = formed.pages;
}

pub well_formed_del : (n : WholeNode) (key : Bytes) → IsWellFormed n → IsWellFormed (applied (Del key) n)
well_formed_del n key formed = record {
  range = formed.range;
  prefix_byte = formed.prefix_byte;
  prefix_open = formed.prefix_open;
  prefix_common = formed.prefix_common;
  ascending = ascending_del (whole n key) n.pairs formed.ascending;
  in_range = all_del (whole n key) n.pairs (λ pair. IsInRange n pair.0) formed.in_range;
  few = omega (arith, formed.few, few_del (whole n key) n.pairs, length-append (pairs_below (whole n key) n.pairs) (pairs_above (whole n key) n.pairs));
  bounds = formed.bounds;
  keys = all_del (whole n key) n.pairs (λ pair. IsWithinLimit pair.0) formed.keys;
  items = all_del (whole n key) n.pairs (λ pair. ItemFits n.is_index pair.1) formed.items;
  pages = formed.pages;
}

-- ---- what is kept

module _ (p : ℕ) (next child : Option ℕ) (capped : Bool) (lo hi : Bytes) where
  abbrev kept : Data → WholeNode
  kept contents = node_of p next child capped lo hi contents

  pub set_kept : (contents : Data) (key value : Bytes) → is_index contents ≡ false → kept (set_stored key value contents) ≡ applied (Set key value) (kept contents)
  set_kept (Leaf pairs) key value leaf = ap (λ ps. record (kept (Leaf pairs)) { pairs = ps }) (set_under (take p lo) (λ v. Value v) key value pairs)
  set_kept (Index pairs) key value leaf = absurd cc

  pub del_kept : (contents : Data) (key : Bytes) → is_index contents ≡ false → kept (del_stored key contents) ≡ applied (Del key) (kept contents)
  del_kept (Leaf pairs) key leaf = ap (λ ps. record (kept (Leaf pairs)) { pairs = ps }) (del_under (take p lo) (λ v. Value v) key pairs)
  del_kept (Index pairs) key leaf = absurd cc

  pub can_set_kept : (contents : Data) (key value : Bytes) → AcceptsHere (kept contents) (Set key value) → CanSet key value contents
  can_set_kept (Leaf pairs) key value (leaf, inside, key_fits, value_fits, few) =
      (omega (arith, key_fits, length-append (take p lo) key), value_fits, omega (arith, few, ap length (set_under (take p lo) (λ v. Value v) key value pairs), length-map (set_pair key value pairs) (made (take p lo) (λ v. Value v))))
  can_set_kept (Index pairs) key value (leaf, inside, key_fits, value_fits, few) = absurd cc

  -- there is room for a pair with whole keys where there is for one with stored keys, whatever the item
  room_alike : (pairs : List (Bytes × Bytes)) (key value : Bytes) → length (set_pair key [] pairs) ≡ length (set_pair (take p lo ++ key) (Value value) (kept (Leaf pairs)).pairs)
  room_alike pairs key value =
      length-append (pairs_below key pairs) ((key, []) ∷ pairs_above key pairs) ∙ sym (length-append (pairs_below key pairs) ((key, value) ∷ pairs_above key pairs)) ∙ sym (length-map (set_pair key value pairs) (made (take p lo) (λ v. Value v))) ∙ ap length (set_under (take p lo) (λ v. Value v) key value pairs)

  -- a leaf accepts a pair that fits where there is room
  pub accepts_with_room : (pairs : List (Bytes × Bytes)) (m : WholeNode) (key value : Bytes) (room : Bool) → kept (Leaf pairs) ≡ m → IsInRange m (whole m key) × IsWithinLimit (whole m key) × IsWithinLimit value → IsTrue room ↔ (length (set_pair key [] pairs) ≤ 2 ^ 24) → IsTrue room ↔ AcceptsHere m (Set key value)
  accepts_with_room pairs m key value room is (inside, key_fits, value_fits) tells =
      let alike : length (set_pair key [] pairs) ≡ length (set_pair (whole m key) (Value value) m.pairs) = room_alike pairs key value ∙ ap (λ n. length (set_pair (whole n key) (Value value) n.pairs)) is in
      (λ yes. (sym (ap (λ n. n.is_index) is), inside, key_fits, value_fits, subst (λ k. k ≤ 2 ^ 24) alike (tells.0 yes)), λ accepts. tells.1 (subst (λ k. k ≤ 2 ^ 24) (sym alike) accepts.4))
