-- The children of an index, by stored keys and by whole keys.
use Rattle.std.proofs.Common.{◌≡◌, ◌↔◌, IsTrue, ℕ, zero, suc, ◌+◌, ◌-◌, ◌<◌, ◌≤◌, ◌^◌, Bool, true, false, not, List, [], ◌∷◌, ◌++◌, length, get_or, map, take, drop, Option, None, inl, inr, refl, sym, ap, subst, ◌∙◌, arith}
use Rattle.std.specs.Prelude.{◌⊎◌}
use Rattle.std.specs.List.{AllByRecursion, AllWithin}
use Rattle.std.specs.List.Sorted.{IsPartitionedBy, IsPartitionPoint}
use Rattle.std.specs.Option.{option_map}
use Rattle.std.specs.declared.cmp.Ordering.{Ordering}
use Rattle.std.specs.declared.cmp.Ordering.TheVariants.{Less, Equal, Greater}
use Rattle.std.specs.Ordering.{is_lt}
use Rattle.std.proofs.lemmas.Bool.{cases_lt}
use Rattle.std.proofs.lemmas.List.{length-map, get_or-map, get_or_default, append_cancel_left, drop-map}
use Rattle.std.proofs.lemmas.Option.{slice_get-get_or, slice_get-map}
use Rattle.sled_base.specs.Order.{Bytes, bytes_cmp, is_below, IsBelow, IsAtMost}
use Rattle.sled_base.specs.OrderLaws.{under_one_front, below_trans}
use Rattle.sled_node.specs.declared.node.data.Data.{Data}
use Rattle.sled_node.specs.declared.node.data.Data.TheVariants.{Index}
use Rattle.sled_node.specs.Pairs.{IsWithinLimit, IsAscending, set_pair, HasPairs}
use Rattle.sled_node.specs.Node.{Item, Child, WholeNode, whole, IsInRange, IsWellFormed, ItemFits}
use Rattle.sled_node.specs.Parts.{node_of, HoldsData}
use Rattle.sled_node.specs.Inserts.{HasKey, inserted}
use Rattle.sled_node.specs.Children.{BeginsAtMost, HasChildFor, AcceptsChild, IsLeadingPair, with_child}
use Rattle.sled_base.proofs.Each.{all_at}
use Rattle.sled_node.proofs.Edits.{ascending_set, all_set}
use Rattle.sled_node.proofs.NodeEdits.{made, set_under}
use Rattle.sled_node.proofs.Places.{all_so}
use Rattle.sled_node.proofs.FromParts.{parts_formed}
use Rattle.sled_node.proofs.Inserts.{few_set}

-- ---- the last pair whose key isn't above

-- what holds from a place on holds of each element behind it
back_all : {X : Type 0} (P : X → Type 0) (xs : List X) (i : ℕ) → AllWithin P xs i (length xs) → AllByRecursion P (drop i xs)
back_all P [] zero h = tt
back_all P [] (suc i) h = tt
back_all P (x ∷ xs) zero h = (h 0 x (omega arith) (omega arith), back_all P xs zero (λ k d low high. h (suc k) d (omega arith) (omega arith)))
back_all P (x ∷ xs) (suc i) h = back_all P xs i (λ k d low high. h (suc k) d (omega arith) (omega arith))

test_passes : (o : Ordering) → (o ≡ Less → ⊥) → not (is_lt o) ≡ true
test_passes Less h = absurd (h refl)
test_passes Equal h = refl
test_passes Greater h = refl

test_fails : (o : Ordering) → not (is_lt o) ≡ false → o ≡ Less
test_fails Less h = refl
test_fails Equal h = absurd cc
test_fails Greater h = absurd cc

module _ {V : Type 0} (key : Bytes) where
  -- the test by which the pairs are parted
  abbrev pub is_at_most : Bytes × V → Bool
  is_at_most pair = not (is_below key pair.0)

  passed : (pair : Bytes × V) → is_at_most pair ≡ true → IsAtMost pair.0 key
  passed pair tested above = let below : is_below key pair.0 ≡ true = ap is_lt above in absurd cc

  passes : (pair : Bytes × V) → IsAtMost pair.0 key → is_at_most pair ≡ true
  passes pair at_most = test_passes (bytes_cmp key pair.0) at_most

  failed : (pair : Bytes × V) → is_at_most pair ≡ false → IsBelow key pair.0
  failed pair tested = test_fails (bytes_cmp key pair.0) tested

  -- of ascending pairs each is below those behind it
  ascending_between : (pairs : List (Bytes × V)) (i j : ℕ) (d : Bytes × V) → IsAscending pairs → i < j → j < length pairs → IsBelow (get_or pairs i d).0 (get_or pairs j d).0
  ascending_between [] i j d ascending less lt = absurd (omega arith)
  ascending_between (pair ∷ pairs) i zero d ascending less lt = absurd (omega arith)
  ascending_between (pair ∷ pairs) zero (suc j) d ascending less lt = all_at (λ later. IsBelow pair.0 later.0) pairs j d ascending.0 (omega arith)
  ascending_between (pair ∷ pairs) (suc i) (suc j) d ascending less lt = ascending_between pairs i j d ascending.1 (omega arith) (omega arith)

  -- so they are parted
  pub parted : (pairs : List (Bytes × V)) → IsAscending pairs → IsPartitionedBy is_at_most pairs
  parted pairs ascending i j d le lt tested =
      let last = passed (get_or pairs j d) tested in
      passes (get_or pairs i d) (λ above. elim (cases_lt i j) [
        | inl less ↦ last (below_trans key (get_or pairs i d).0 (get_or pairs j d).0 above (ascending_between pairs i j d ascending less lt))
        | inr same ↦ last (subst (λ k. IsBelow key (get_or pairs k d).0) (omega (arith, le, same)) above)
      ])

  -- where they part there is a pair before, if the first is no higher
  parts_behind : (pairs : List (Bytes × V)) (i : ℕ) → BeginsAtMost pairs key → IsPartitionPoint (λ pair. is_at_most pair ≡ true) (λ pair. is_at_most pair ≡ false) pairs i → 1 ≤ i
  parts_behind [] i begins point = absurd begins
  parts_behind (pair ∷ pairs) zero begins point = absurd (begins (failed pair (point.1 0 pair (omega arith) (omega arith))))
  parts_behind (pair ∷ pairs) (suc i) begins point = omega arith

  -- the place before that where they part
  module _ (pairs : List (Bytes × V)) (begins : BeginsAtMost pairs key) (i : ℕ) (within : i ≤ length pairs) (point : IsPartitionPoint (λ pair. is_at_most pair ≡ true) (λ pair. is_at_most pair ≡ false) pairs i) where
    pub some_at_most : 1 ≤ i
    some_at_most = parts_behind pairs i begins point

    pub last_found : (d : Bytes × V) → IsLeadingPair pairs key (i - 1) (get_or pairs (i - 1) d).1
    last_found d = record {
      found = (get_or pairs (i - 1) d).0;
      here = slice_get-get_or pairs (i - 1) d (omega (arith, some_at_most, within));
      at_most = passed (get_or pairs (i - 1) d) (point.0 (i - 1) d (omega arith) (omega (arith, some_at_most)));
      behind = let next : i ≡ i - 1 + 1 = omega (arith, some_at_most) in subst (λ k. AllByRecursion (λ later. IsBelow key later.0) (drop k pairs)) next (back_all (λ later. IsBelow key later.0) pairs i (λ k d low high. failed (get_or pairs k d) (point.1 k d low high)));
    }

-- ---- whole keys

all_map : {X Y : Type 0} {P : X → Type 0} (Q : Y → Type 0) (f : X → Y) → ((x : X) → P x → Q (f x)) → (xs : List X) → AllByRecursion P xs → AllByRecursion Q (map f xs)
all_map Q f so [] all = tt
all_map Q f so (x ∷ xs) all = (so x all.0, all_map Q f so xs all.1)

module _ (front : Bytes) (pairs : List (Bytes × ℕ)) (stored : Bytes) where
  abbrev child_of : Bytes × ℕ → Bytes × Item
  child_of = made front (λ page. Child page)

  -- whole keys have one of them where stored keys do
  pub has_whole : HasKey pairs stored → HasKey (map child_of pairs) (front ++ stored)
  has_whole (k, pair, lt, is, same) = (k, child_of pair, omega (arith, lt, length-map pairs child_of), get_or-map child_of pairs k pair (child_of pair) lt ∙ ap child_of is, ap (λ key. front ++ key) same)

  pub has_stored : HasKey (map child_of pairs) (front ++ stored) → HasKey pairs stored
  has_stored (k, pair, lt, is, same) =
      let short : k < length pairs = omega (arith, lt, length-map pairs child_of) in
      let d : Bytes × ℕ = ([], 0) in
      let at : child_of (get_or pairs k d) ≡ pair = sym (get_or-map child_of pairs k d pair short) ∙ is in
      let whole : front ++ (get_or pairs k d).0 ≡ front ++ stored = ap (λ p. p.0) at ∙ same in
      (k, get_or pairs k d, short, get_or_default pairs k (get_or pairs k d) d short, append_cancel_left front (get_or pairs k d).0 stored whole)

  -- the same pair is the last
  pub last_under : (i page : ℕ) → IsLeadingPair pairs stored i page → IsLeadingPair (map child_of pairs) (front ++ stored) i (Child page)
  last_under i page last = record {
    found = front ++ last.found;
    here = slice_get-map child_of pairs i ∙ ap (option_map child_of) last.here;
    at_most = λ above. last.at_most (sym (under_one_front front stored last.found) ∙ above);
    behind = subst (AllByRecursion (λ later. IsBelow (front ++ stored) later.0)) (sym (drop-map child_of (i + 1) pairs)) (all_map (λ later. IsBelow (front ++ stored) later.0) child_of (λ later above. under_one_front front stored later.0 ∙ above) (drop (i + 1) pairs) last.behind);
  }

-- they begin no higher where stored keys do
pub begins_under : (front : Bytes) (pairs : List (Bytes × ℕ)) (stored : Bytes) → BeginsAtMost pairs stored ↔ BeginsAtMost (map (made front (λ page. Child page)) pairs) (front ++ stored)
begins_under front [] stored = (λ no. no, λ no. no)
begins_under front (pair ∷ pairs) stored = (λ at_most above. at_most (sym (under_one_front front stored pair.0) ∙ above), λ at_most above. at_most (under_one_front front stored pair.0 ∙ above))

-- an index that holds these stored pairs, and a stored key of it with its whole key
module _ (n : WholeNode) (pairs : List (Bytes × ℕ)) (holds : HoldsData n (Index pairs)) (stored key : Bytes) (is : whole n stored ≡ key) where
  abbrev front : Bytes
  front = take n.prefix_len n.lo

  begins_alike : BeginsAtMost pairs stored ↔ BeginsAtMost n.pairs key
  begins_alike =
      let alike = begins_under front pairs stored in
      (λ begins. subst (λ k. BeginsAtMost n.pairs k) is (subst (λ ps. BeginsAtMost ps (front ++ stored)) (sym holds.pairs) (alike.0 begins)), λ begins. alike.1 (subst (λ ps. BeginsAtMost ps (front ++ stored)) holds.pairs (subst (λ k. BeginsAtMost n.pairs k) (sym is) begins)))

  pub leads_where_begins : (answer : Bool) → IsInRange n key → IsTrue answer ↔ BeginsAtMost pairs stored → IsTrue answer ↔ HasChildFor n key
  leads_where_begins answer inside tells = (λ so. (holds.kind, inside, begins_alike.0 (tells.0 so)), λ leads. tells.1 (begins_alike.1 leads.2))

  pub begins_stored : HasChildFor n key → BeginsAtMost pairs stored
  begins_stored leads = begins_alike.1 leads.2

  pub last_whole : (i page : ℕ) → IsLeadingPair pairs stored i page → IsLeadingPair n.pairs key i (Child page)
  last_whole i page last = subst (λ k. IsLeadingPair n.pairs k i (Child page)) is (subst (λ ps. IsLeadingPair ps (front ++ stored) i (Child page)) (sym holds.pairs) (last_under front pairs stored i page last))

  has_key : HasKey pairs stored → HasKey n.pairs key
  has_key there = subst (HasKey n.pairs) is (subst (λ ps. HasKey ps (front ++ stored)) (sym holds.pairs) (has_whole front pairs stored there))

  -- and stored keys have it where whole keys do
  pub has_key_stored : HasKey n.pairs key → HasKey pairs stored
  has_key_stored there = has_stored front pairs stored (subst (λ ps. HasKey ps (front ++ stored)) holds.pairs (subst (HasKey n.pairs) (sym is) there))

  pub room_stored : (length n.pairs < 2 ^ 24) ⊎ HasKey n.pairs key → (length pairs < 2 ^ 24) ⊎ HasKey pairs stored
  room_stored (inl few) = inl (omega (arith, few, ap length holds.pairs, length-map pairs (made front (λ page. Child page))))
  room_stored (inr there) = inr (has_key_stored there)

  room_whole : (length pairs < 2 ^ 24) ⊎ HasKey pairs stored → (length n.pairs < 2 ^ 24) ⊎ HasKey n.pairs key
  room_whole (inl few) = inl (omega (arith, few, ap length holds.pairs, length-map pairs (made front (λ page. Child page))))
  room_whole (inr there) = inr (has_key there)

  -- so the node accepts a child at the key where the stored keys have room for it
  pub accepts_with_room : (answer : Bool) → IsInRange n key → IsWithinLimit key → IsTrue answer ↔ ((length pairs < 2 ^ 24) ⊎ HasKey pairs stored) → IsTrue answer ↔ AcceptsChild n key
  accepts_with_room answer inside short tells = (λ so. record { index = holds.kind; range = inside; limit = short; room = room_whole (tells.0 so) }, λ accepts. tells.1 (room_stored accepts.room))

  pub missing_alike : (is_new : Bool) → IsTrue is_new ↔ (HasKey pairs stored → ⊥) → IsTrue is_new ↔ (HasKey n.pairs key → ⊥)
  missing_alike is_new tells = (λ so there. tells.0 so (has_key_stored there), λ missing. tells.1 (λ there. missing (has_key there)))

-- the node of an index holds its pairs
pub holds_index : (p : ℕ) (next child : Option ℕ) (capped : Bool) (lo hi : Bytes) (contents : Data) (pairs : List (Bytes × ℕ)) (n : WholeNode) → contents ≡ Index pairs → node_of p next child capped lo hi contents ≡ n → HoldsData n (Index pairs)
holds_index p next child capped lo hi contents pairs n is view =
    subst (λ m. HoldsData m (Index pairs)) view (subst (λ parts. HoldsData (node_of p next child capped lo hi parts) (Index pairs)) (sym is) (record { kind = refl; pairs = refl }))

-- ---- an index over all keys

not_below_empty : (key : Bytes) → IsBelow key [] → ⊥
not_below_empty [] lt = absurd cc
not_below_empty (x ∷ key) lt = absurd cc

pub index_formed : (pairs : List (Bytes × ℕ)) → HasPairs (λ page. page < 2 ^ 64) pairs → IsWellFormed (node_of 0 None None false [] [] (Index pairs))
index_formed pairs has =
    parts_formed 0 None None false [] [] (omega arith)
    (record { range = λ some. absurd (some refl); prefix_open = λ none. refl; prefix_common = refl; bounds = (omega arith, omega arith) })
    (tt, tt) (Index pairs) has (all_so (λ pair short. (omega (arith, short), λ lt. not_below_empty pair.0 lt, λ some. absurd (some refl))) pairs has.keys)

-- ---- a child more

well_formed_child : (n : WholeNode) (key : Bytes) (page : ℕ) → IsWellFormed n → n.is_index ≡ true → IsInRange n key → IsWithinLimit key → page < 2 ^ 64 → length (set_pair key (Child page) n.pairs) ≤ 2 ^ 24 → IsWellFormed (with_child key page n)
well_formed_child n key page formed index inside key_fits page_fits few = record {
  range = formed.range;
  prefix_byte = formed.prefix_byte;
  prefix_open = formed.prefix_open;
  prefix_common = formed.prefix_common;
  ascending = ascending_set key n.pairs (Child page) formed.ascending;
  in_range = all_set key n.pairs (λ pair. IsInRange n pair.0) (Child page) inside formed.in_range;
  few = few;
  bounds = formed.bounds;
  keys = all_set key n.pairs (λ pair. IsWithinLimit pair.0) (Child page) key_fits formed.keys;
  items = all_set key n.pairs (λ pair. ItemFits n.is_index pair.1) (Child page) (subst (λ b. ItemFits b (Child page)) (sym index) page_fits) formed.items;
  pages = formed.pages;
}

-- the index stays well-formed, whether the key was there or not
pub well_formed_inserted : (is_new : Bool) (n : WholeNode) (key : Bytes) (page : ℕ) → IsWellFormed n → n.is_index ≡ true → IsInRange n key → IsWithinLimit key → page < 2 ^ 64 → (length n.pairs < 2 ^ 24) ⊎ HasKey n.pairs key → IsTrue is_new ↔ (HasKey n.pairs key → ⊥) → IsWellFormed (inserted is_new (with_child key page n) n)
well_formed_inserted true n key page formed index inside key_fits page_fits room tells = well_formed_child n key page formed index inside key_fits page_fits (few_set key n.pairs (Child page) (tells.0 refl) room)
well_formed_inserted false n key page formed index inside key_fits page_fits room tells = formed

module _ (p : ℕ) (next child : Option ℕ) (capped : Bool) (lo hi : Bytes) where
  abbrev index_with : List (Bytes × ℕ) → WholeNode
  index_with pairs = node_of p next child capped lo hi (Index pairs)

  kept_with : (pairs : List (Bytes × ℕ)) (is_new : Bool) (stored key : Bytes) (page : ℕ) → take p lo ++ stored ≡ key → index_with (inserted is_new (set_pair stored page pairs) pairs) ≡ inserted is_new (with_child key page (index_with pairs)) (index_with pairs)
  kept_with pairs true stored key page is =
      ap (λ ps. record (index_with pairs) { pairs = ps }) (set_under (take p lo) (λ page. Child page) stored page pairs ∙ ap (λ k. set_pair k (Child page) (index_with pairs).pairs) is)
  kept_with pairs false stored key page is = refl

  -- what was put in among stored keys was among whole keys
  pub inserted_kept : (contents : Data) (pairs : List (Bytes × ℕ)) (n : WholeNode) (is_new : Bool) (stored key : Bytes) (page : ℕ) → contents ≡ Index pairs → node_of p next child capped lo hi contents ≡ n → whole n stored ≡ key → index_with (inserted is_new (set_pair stored page pairs) pairs) ≡ inserted is_new (with_child key page n) n
  inserted_kept contents pairs n is_new stored key page is view =
      subst (λ m. whole m stored ≡ key → index_with (inserted is_new (set_pair stored page pairs) pairs) ≡ inserted is_new (with_child key page m) m) (ap (node_of p next child capped lo hi) (sym is) ∙ view) (kept_with pairs is_new stored key page)
