-- The pairs of a leaf, whose strings are all stored keys and then all values.
use Rattle.std.proofs.Common.{◌≡◌, ℕ, suc, ◌+◌, ◌-◌, ◌/◌, ◌<◌, ◌≤◌, List, [], ◌∷◌, ◌++◌, Some, length, get_or, map, take, drop, refl, sym, ap, subst, ◌∙◌, append_assoc, arith}
use Rattle.std.proofs.lemmas.List.{length-append, length-map, length-take-le, take_at, drop_at, take-append-drop, drop_more, length-drop, map-append, length-take, take_all, map_more, get_or-drop, get_or-take, get_or_append_left, get_or-append-add, get_or-map}
use Rattle.std.proofs.lemmas.Option.{get_or_from_slice_get, slice_get_read, slice_get_within}
use Rattle.std.proofs.Math.Seq.{drop-append-add}
use Rattle.std.specs.List.{flat_map, AllByRecursion, HoldsAt, slice_get}
use Rattle.sled_base.specs.Payloads.Numbers.{written_u64}
use Rattle.sled_base.specs.Payloads.ByteStrings.{written_bytes}
use Rattle.std.specs.Prelude.{Result, Ok, Err, IfOk, IfErr, OnOk, OnErr, is_ok, Bool, true, false, IsTrue, ◌↔◌}
use Rattle.std.specs.Bool.{Decides}
use Rattle.sled_base.specs.Order.{Bytes}
use Rattle.sled_base.specs.Strings.{with_at, without_at}
use Rattle.sled_node.specs.Payloads.Pairs.{keys_of, items_of}
use Rattle.sled_node.specs.Pairs.{IsWithinLimit, IsAscending, HasPairs, StandsAt, IsGap, pairs_below, pairs_above, set_pair, del_pair}
use Rattle.sled_node.specs.LeafStrings.{pairs_of, paired, IsLeaf}
use Rattle.sled_node.specs.Payloads.PairLaws.{all_keys, all_items}
use Rattle.sled_node.specs.Restoring.{restored}
use Rattle.sled_base.proofs.Each.{all_at}
use Rattle.sled_node.proofs.Edits.{all_append}
use Rattle.sled_node.proofs.Restoring.{all_parts}
use Rattle.sled_node.proofs.Places.{stands}

abbrev Pairs : Type 0
Pairs = List (Bytes × Bytes)

abbrev strings_of : Pairs → List Bytes
strings_of pairs = keys_of pairs ++ items_of pairs

pub pairs_back : (pairs : Pairs) → pairs_of (keys_of pairs) (items_of pairs) ≡ pairs
pairs_back [] = refl
pairs_back (pair ∷ pairs) = ap (λ rest. pair ∷ rest) (pairs_back pairs)

module _ (pairs : Pairs) where
  pub many_keys : length (keys_of pairs) ≡ length pairs
  many_keys = length-map pairs (λ pair. pair.0)

  pub many_items : length (items_of pairs) ≡ length pairs
  many_items = length-map pairs (λ pair. pair.1)

  pub many_both : length (keys_of pairs ++ items_of pairs) ≡ length pairs + length pairs
  many_both = omega (arith, length-append (keys_of pairs) (items_of pairs), many_keys, many_items)

  -- strings that are these keys and then these values have these pairs
  pub paired_is : paired (keys_of pairs ++ items_of pairs) ≡ pairs
  paired_is =
      let half : length (keys_of pairs ++ items_of pairs) / 2 ≡ length pairs = omega (arith, many_both) in
      let first : take (length (keys_of pairs ++ items_of pairs) / 2) (keys_of pairs ++ items_of pairs) ≡ keys_of pairs = ap (λ n. take n (keys_of pairs ++ items_of pairs)) half ∙ take_at (keys_of pairs) (items_of pairs) (length pairs) many_keys in
      let second : drop (length (keys_of pairs ++ items_of pairs) / 2) (keys_of pairs ++ items_of pairs) ≡ items_of pairs = ap (λ n. drop n (keys_of pairs ++ items_of pairs)) half ∙ drop_at (keys_of pairs) (items_of pairs) (length pairs) many_keys in
      (λ i. pairs_of (first i) (second i)) ∙ pairs_back pairs

module _ (pairs : Pairs) (strings : List Bytes) (are : strings ≡ keys_of pairs ++ items_of pairs) where
  -- these strings are a leaf's, and its pairs are these
  pub paired_so : paired strings ≡ pairs
  paired_so = ap paired are ∙ paired_is pairs

  pub is_leaf : HasPairs IsWithinLimit pairs → IsLeaf strings
  is_leaf has = record {
    whole = ap (λ ps. keys_of ps ++ items_of ps) paired_so ∙ sym are;
    stored = subst (HasPairs IsWithinLimit) (sym paired_so) has;
  }

  pub half_is : length strings / 2 ≡ length pairs
  half_is = omega (arith, ap length are, many_both pairs)

  pub keys_first : take (length pairs) strings ≡ keys_of pairs
  keys_first = ap (take (length pairs)) are ∙ take_at (keys_of pairs) (items_of pairs) (length pairs) (many_keys pairs)

  -- the key and the value of a pair
  pub key_there : (i : ℕ) (d : Bytes) (e : Bytes × Bytes) → i < length pairs → get_or strings i d ≡ (get_or pairs i e).0
  key_there i d e lt = ap (λ ss. get_or ss i d) are ∙ get_or_append_left (keys_of pairs) (items_of pairs) d i (omega (arith, lt, many_keys pairs)) ∙ get_or-map (λ pair. pair.0) pairs i e d lt

  -- the key that was found at a place
  pub key_found : (i : ℕ) (key : Bytes) → i < length pairs → slice_get strings i ≡ Some key → (e : Bytes × Bytes) → (get_or pairs i e).0 ≡ key
  key_found i key lt is e = sym (key_there i key e lt) ∙ get_or_from_slice_get strings i key key is

  pub item_there : (i : ℕ) (d : Bytes) (e : Bytes × Bytes) → i < length pairs → get_or strings (length pairs + i) d ≡ (get_or pairs i e).1
  item_there i d e lt =
      (λ k. get_or (are k) (sym (many_keys pairs) k + i) d) ∙ get_or-append-add (keys_of pairs) (items_of pairs) i d ∙ get_or-map (λ pair. pair.1) pairs i e d lt

  pub pair_there : (i : ℕ) (key value : Bytes) → i < length pairs → slice_get strings i ≡ Some key → slice_get strings (length pairs + i) ≡ Some value → slice_get pairs i ≡ Some (key, value)
  pair_there i key value lt first second =
      let one : key ≡ (get_or pairs i (key, value)).0 = sym (get_or_from_slice_get strings i key key first) ∙ key_there i key (key, value) lt in
      let two : value ≡ (get_or pairs i (key, value)).1 = sym (get_or_from_slice_get strings (length pairs + i) value value second) ∙ item_there i value (key, value) lt in
      slice_get_read pairs _ i (key, value) refl lt (λ k. (one k, two k))

-- the strings of a leaf with these pairs
pub leaf_strings : (strings : List Bytes) (pairs : Pairs) → IsLeaf strings → paired strings ≡ pairs → strings ≡ keys_of pairs ++ items_of pairs
leaf_strings strings pairs leaf is = sym leaf.whole ∙ ap (λ ps. keys_of ps ++ items_of ps) is

pub leaf_stored : (strings : List Bytes) (pairs : Pairs) → IsLeaf strings → paired strings ≡ pairs → HasPairs IsWithinLimit pairs
leaf_stored strings pairs leaf is = subst (HasPairs IsWithinLimit) is leaf.stored

-- two tests of what is the same are one
pub same_tests : {P Q : Type 0} (a b : Bool) → IsTrue a ↔ P → Decides b Q → (P → Q) → (Q → P) → a ≡ b
same_tests true true one two so back = refl
same_tests true false one two so back = let yes = two.1 (so (one.0 refl)) in absurd cc
same_tests false true one two so back = let yes = one.1 (back (two.0 refl)) in absurd cc
same_tests false false one two so back = refl

-- keys and items of parts
keys_both : (xs ys : Pairs) → keys_of (xs ++ ys) ≡ keys_of xs ++ keys_of ys
keys_both = map-append (λ pair. pair.0)

items_both : (xs ys : Pairs) → items_of (xs ++ ys) ≡ items_of xs ++ items_of ys
items_both = map-append (λ pair. pair.1)

-- ---- edits

-- strings that begin with these have others behind the place where these end
module _ (front : List Bytes) {place : ℕ} (many : length front ≡ place) where
  before_there : {all : List Bytes} (back : List Bytes) → all ≡ front ++ back → take place all ≡ front
  before_there back is = ap (take place) is ∙ take_at front back place many

  behind_there : {all : List Bytes} (old : Bytes) (back : List Bytes) → all ≡ front ++ old ∷ back → drop (place + 1) all ≡ back
  behind_there old back is =
      ap (drop (place + 1)) is ∙ ap (λ n. drop (n + 1) (front ++ old ∷ back)) (sym many) ∙ drop-append-add front (old ∷ back) 1

  with_there : {all : List Bytes} (new : Bytes) (back : List Bytes) → all ≡ front ++ back → with_at place new all ≡ front ++ new ∷ back
  with_there new back is =
      let rest = ap (drop place) is ∙ drop_at front back place many in
      λ i. before_there back is i ++ new ∷ rest i

  without_there : {all : List Bytes} (old : Bytes) (back : List Bytes) → all ≡ front ++ old ∷ back → without_at place all ≡ front ++ back
  without_there old back is = λ i. before_there (old ∷ back) is i ++ behind_there old back is i

  set_there : {all : List Bytes} (old new : Bytes) (back : List Bytes) → all ≡ front ++ old ∷ back → take place all ++ new ∷ drop (place + 1) all ≡ front ++ new ∷ back
  set_there old new back is = λ i. before_there (old ∷ back) is i ++ new ∷ behind_there old back is i

three : (a b c d : List Bytes) → (a ++ (b ++ c)) ++ d ≡ a ++ (b ++ (c ++ d))
three a b c d = simp append_assoc

module _ (front back : Pairs) where
  -- what stands where in the strings of the pairs of both, and in those with a pair between them
  split_of : strings_of (front ++ back) ≡ keys_of front ++ (keys_of back ++ (items_of front ++ items_of back))
  split_of =
      (λ i. keys_both front back i ++ items_both front back i) ∙ append_assoc (keys_of front) (keys_of back) (items_of front ++ items_of back)

  split_at : (pair : Bytes × Bytes) → strings_of (front ++ pair ∷ back) ≡ keys_of front ++ pair.0 ∷ (keys_of back ++ (items_of front ++ pair.1 ∷ items_of back))
  split_at pair =
      (λ i. keys_both front (pair ∷ back) i ++ items_both front (pair ∷ back) i) ∙ append_assoc (keys_of front) (pair.0 ∷ keys_of back) (items_of front ++ pair.1 ∷ items_of back)

  module _ (strings : List Bytes) (place count : ℕ) (place_is : place ≡ length front) where
    in_keys : length (keys_of front) ≡ place
    in_keys = many_keys front ∙ sym place_is

    in_values : (between : List Bytes) → count ≡ length front + length (between ++ keys_of back) → length (keys_of front ++ ((between ++ keys_of back) ++ items_of front)) ≡ count + place
    in_values between count_is =
        omega (arith, place_is, count_is, many_keys front, many_items front, length-append (keys_of front) ((between ++ keys_of back) ++ items_of front), length-append (between ++ keys_of back) (items_of front))

    -- a value put in, and then its key
    put_pair : (key value : Bytes) → strings ≡ strings_of (front ++ back) → count ≡ length (front ++ back) → with_at place key (with_at (count + place) value strings) ≡ strings_of (front ++ (key, value) ∷ back)
    put_pair key value is count_is =
        let ahead = keys_of front ++ (keys_of back ++ items_of front) in
        let many : length ahead ≡ count + place = in_values [] (omega (arith, count_is, length-append front back, many_keys back)) in
        let longer = with_there ahead many value (items_of back) (is ∙ split_of ∙ sym (three (keys_of front) (keys_of back) (items_of front) (items_of back))) ∙ three (keys_of front) (keys_of back) (items_of front) (value ∷ items_of back) in
        with_there (keys_of front) in_keys key (keys_of back ++ (items_of front ++ value ∷ items_of back)) longer ∙ sym (split_at (key, value))

    module _ (old : Bytes × Bytes) (is : strings ≡ strings_of (front ++ old ∷ back)) (count_is : count ≡ length (front ++ old ∷ back)) where
      abbrev ahead : List Bytes
      ahead = keys_of front ++ ((old.0 ∷ keys_of back) ++ items_of front)

      many : length ahead ≡ count + place
      many = in_values (old.0 ∷ []) (omega (arith, count_is, length-append front (old ∷ back), many_keys back))

      split : strings ≡ ahead ++ old.1 ∷ items_of back
      split = is ∙ split_at old ∙ sym (three (keys_of front) (old.0 ∷ keys_of back) (items_of front) (old.1 ∷ items_of back))

      -- a value in the place of another
      put_value : (value : Bytes) → take (count + place) strings ++ value ∷ drop (count + place + 1) strings ≡ strings_of (front ++ (old.0, value) ∷ back)
      put_value value =
          set_there ahead many old.1 value (items_of back) split ∙ three (keys_of front) (old.0 ∷ keys_of back) (items_of front) (value ∷ items_of back) ∙ sym (split_at (old.0, value))

      -- a value taken out, and then its key
      take_pair : without_at place (without_at (count + place) strings) ≡ strings_of (front ++ back)
      take_pair =
          let shorter = without_there ahead many old.1 (items_of back) split ∙ three (keys_of front) (old.0 ∷ keys_of back) (items_of front) (items_of back) in
          without_there (keys_of front) in_keys old.0 (keys_of back ++ (items_of front ++ items_of back)) shorter ∙ sym split_of

-- ---- an edit at the place of a key

module _ (pairs : Pairs) (strings : List Bytes) (are : strings ≡ keys_of pairs ++ items_of pairs) (key : Bytes) (at count : ℕ) (count_is : count ≡ length pairs) where
  abbrev none : Bytes × Bytes
  none = ([], [])

  -- the pairs before the place of a pair, that pair, and the pairs behind it
  parts_at : at < length pairs → pairs ≡ take at pairs ++ get_or pairs at none ∷ drop (at + 1) pairs
  parts_at lt = sym (take-append-drop at pairs) ∙ ap (λ rest. take at pairs ++ rest) (drop_more pairs at none lt)

  many_before : at ≤ length pairs → at ≡ length (take at pairs)
  many_before le = sym (length-take-le at pairs le)

  pub value_put : (value : Bytes) → StandsAt pairs key at → HoldsAt (λ pair. pair.0 ≡ key) pairs at → take (count + at) strings ++ value ∷ drop (count + at + 1) strings ≡ keys_of (set_pair key value pairs) ++ items_of (set_pair key value pairs)
  value_put value stands same =
      let parts = parts_at stands.within in
      put_value (take at pairs) (drop (at + 1) pairs) strings at count (many_before (omega (arith, stands.within))) (get_or pairs at none) (are ∙ ap (λ ps. strings_of ps) parts) (count_is ∙ ap length parts) value ∙ (λ i. strings_of (stands.before i ++ (same none i, value) ∷ stands.after i))

  pub pair_put : (value : Bytes) → IsGap pairs key at → with_at at key (with_at (count + at) value strings) ≡ keys_of (set_pair key value pairs) ++ items_of (set_pair key value pairs)
  pair_put value gap =
      let parts : pairs ≡ take at pairs ++ drop at pairs = sym (take-append-drop at pairs) in
      put_pair (take at pairs) (drop at pairs) strings at count (many_before gap.within) key value (are ∙ ap (λ ps. strings_of ps) parts) (count_is ∙ ap length parts) ∙ (λ i. strings_of (gap.before i ++ (key, value) ∷ gap.after i))

  pub pair_taken : StandsAt pairs key at → without_at at (without_at (count + at) strings) ≡ keys_of (del_pair key pairs) ++ items_of (del_pair key pairs)
  pair_taken stands =
      let parts = parts_at stands.within in
      take_pair (take at pairs) (drop (at + 1) pairs) strings at count (many_before (omega (arith, stands.within))) (get_or pairs at none) (are ∙ ap (λ ps. strings_of ps) parts) (count_is ∙ ap length parts) ∙ (λ i. strings_of (stands.before i ++ stands.after i))

-- how many pairs there are then
module _ (key value : Bytes) (pairs : Pairs) (i : ℕ) where
  many_parts : (front back : Pairs) (n m : ℕ) → front ≡ pairs_below key pairs → back ≡ pairs_above key pairs → length front ≡ n → length back ≡ m → length (set_pair key value pairs) ≡ n + suc m
  many_parts front back n m before after first last =
      omega (arith, length-append (pairs_below key pairs) ((key, value) ∷ pairs_above key pairs), ap length before, ap length after, first, last)

  many_there : StandsAt pairs key i → length (set_pair key value pairs) ≡ length pairs
  many_there stands =
      let all = many_parts (take i pairs) (drop (i + 1) pairs) i (length pairs - (i + 1)) stands.before stands.after (length-take-le i pairs (omega (arith, stands.within))) (length-drop (i + 1) pairs) in
      omega (arith, all, stands.within)

  many_more : IsGap pairs key i → length (set_pair key value pairs) ≡ length pairs + 1
  many_more gap =
      let all = many_parts (take i pairs) (drop i pairs) i (length pairs - i) gap.before gap.after (length-take-le i pairs gap.within) (length-drop i pairs) in
      omega (arith, all, gap.within)

-- where a leaf is full, there is room just for a key that is there
pub room_so : (key value : Bytes) (pairs : Pairs) (limit : ℕ) (r : Result ℕ ℕ) → length pairs ≡ limit → IfOk r (StandsAt pairs key) → IfErr r (IsGap pairs key) → IsTrue (is_ok r) ↔ (length (set_pair key value pairs) ≤ limit)
room_so key value pairs limit (Ok i) full there missing = (λ yes. omega (arith, full, many_there key value pairs i there), λ le. refl)
room_so key value pairs limit (Err i) full there missing = (λ yes. absurd cc, λ le. absurd (omega (arith, full, le, many_more key value pairs i missing)))

-- where it was made, the strings are those of other pairs; where it was refused, they are as before
module _ {T E : Type 0} (strings new : List Bytes) (after : Pairs) where
  pub leaf_after : (r : Result T E) → IsLeaf strings → HasPairs IsWithinLimit after → OnOk r (new ≡ keys_of after ++ items_of after) → OnErr r (new ≡ strings) → IsLeaf new
  leaf_after (Ok x) leaf has ok err = is_leaf after new ok has
  leaf_after (Err e) leaf has ok err = subst IsLeaf (sym err) leaf

  pub pairs_after : (r : Result T E) → OnOk r (new ≡ keys_of after ++ items_of after) → OnOk r (paired new ≡ after)
  pairs_after (Ok x) ok = paired_so after new ok
  pairs_after (Err e) ok = tt

  pub on_ok_is : (r : Result T E) (made : List Bytes) → made ≡ keys_of after ++ items_of after → OnOk r (new ≡ made) → OnOk r (new ≡ keys_of after ++ items_of after)
  on_ok_is (Ok x) made is ok = ok ∙ is
  on_ok_is (Err e) made is ok = tt

-- ---- pairs from one place to another

keys_restored : (front : Bytes) (skipped : ℕ) (pairs : Pairs) → keys_of (restored front skipped pairs) ≡ map (λ pair. drop skipped (front ++ pair.0)) pairs
keys_restored front skipped [] = refl
keys_restored front skipped (pair ∷ pairs) = ap (λ rest. drop skipped (front ++ pair.0) ∷ rest) (keys_restored front skipped pairs)

module _ (pairs : Pairs) (from i : ℕ) (key value : Bytes) (order : from ≤ i) (there : slice_get pairs i ≡ Some (key, value)) where
  within_pairs : i < length pairs
  within_pairs = slice_get_within pairs i (key, value) there

  in_rest : i - from < length (drop from pairs)
  in_rest = omega (arith, within_pairs, length-drop from pairs)

  here_in_rest : (d : Bytes × Bytes) → get_or (drop from pairs) (i - from) d ≡ (key, value)
  here_in_rest d =
      let place : from + (i - from) ≡ i = omega arith in
      get_or-drop from pairs (i - from) d ∙ ap (λ n. get_or pairs n d) place ∙ get_or_from_slice_get pairs i (key, value) d there

  -- one pair more
  map_on : (f : Bytes × Bytes → Bytes) → map f (take (i + 1 - from) (drop from pairs)) ≡ map f (take (i - from) (drop from pairs)) ++ f (key, value) ∷ []
  map_on f =
      let next : i + 1 - from ≡ i - from + 1 = omega arith in
      ap (λ n. map f (take n (drop from pairs))) next ∙ map_more f (drop from pairs) (i - from) (key, value) in_rest ∙ ap (λ p. map f (take (i - from) (drop from pairs)) ++ f p ∷ []) (here_in_rest (key, value))

  pub items_on : items_of (take (i + 1 - from) (drop from pairs)) ≡ items_of (take (i - from) (drop from pairs)) ++ value ∷ []
  items_on = map_on (λ pair. pair.1)

  module _ (front : Bytes) (skipped : ℕ) where
    pub keys_on : keys_of (restored front skipped (take (i + 1 - from) (drop from pairs))) ≡ keys_of (restored front skipped (take (i - from) (drop from pairs))) ++ drop skipped (front ++ key) ∷ []
    keys_on = keys_restored front skipped (take (i + 1 - from) (drop from pairs)) ∙ map_on (λ pair. drop skipped (front ++ pair.0)) ∙ ap (λ ks. ks ++ drop skipped (front ++ key) ∷ []) (sym (keys_restored front skipped (take (i - from) (drop from pairs))))

    -- a key of theirs is as short as all are
    pub key_short : (to : ℕ) → i < to → AllByRecursion (λ pair. IsWithinLimit pair.0) (restored front skipped (take (to - from) (drop from pairs))) → IsWithinLimit (drop skipped (front ++ key))
    key_short to before all =
        let some = take (to - from) (drop from pairs) in
        let store : Bytes × Bytes → Bytes × Bytes = λ pair. (drop skipped (front ++ pair.0), pair.1) in
        let within : i - from < length some = omega (arith, in_rest, length-take (to - from) (drop from pairs)) in
        let is : get_or some (i - from) (key, value) ≡ (key, value) = get_or-take (to - from) (drop from pairs) (i - from) (key, value) (omega arith) ∙ here_in_rest (key, value) in
        let same : get_or (restored front skipped some) (i - from) (key, value) ≡ store (key, value) = get_or-map store some (i - from) (key, value) (key, value) within ∙ ap store is in
        subst (λ p. IsWithinLimit p.0) same (all_at (λ pair. IsWithinLimit pair.0) (restored front skipped some) (i - from) (key, value) all (omega (arith, within, length-map some store)))

-- ---- what holds of each string

pub short_keys : (pairs : Pairs) → AllByRecursion IsWithinLimit (keys_of pairs) → AllByRecursion (λ pair. IsWithinLimit pair.0) pairs
short_keys [] all = tt
short_keys (pair ∷ pairs) all = (all.0, short_keys pairs all.1)

pub short_items : (pairs : Pairs) → AllByRecursion IsWithinLimit (items_of pairs) → AllByRecursion (λ pair. IsWithinLimit pair.1) pairs
short_items [] all = tt
short_items (pair ∷ pairs) all = (all.0, short_items pairs all.1)

module _ (strings : List Bytes) (pairs : Pairs) (are : strings ≡ keys_of pairs ++ items_of pairs) where
  pub short_parts : AllByRecursion IsWithinLimit strings → AllByRecursion (λ pair. IsWithinLimit pair.0) pairs × AllByRecursion (λ pair. IsWithinLimit pair.1) pairs
  short_parts all =
      let both = all_parts IsWithinLimit (keys_of pairs) (items_of pairs) (subst (AllByRecursion IsWithinLimit) are all) in
      (short_keys pairs both.0, short_items pairs both.1)

  pub short_both : AllByRecursion (λ pair. IsWithinLimit pair.0) pairs → AllByRecursion (λ pair. IsWithinLimit pair.1) pairs → AllByRecursion IsWithinLimit strings
  short_both keys items =
      subst (AllByRecursion IsWithinLimit) (sym are) (all_append IsWithinLimit (keys_of pairs) (items_of pairs) (all_keys (λ key short. short) pairs keys) (all_items (λ item short. short) pairs items))

-- none is longer than all of them are as they are written
pub short_together : (strings : List Bytes) → length (flat_map written_bytes strings) ≤ 2147483647 → AllByRecursion IsWithinLimit strings
short_together [] few = tt
short_together (string ∷ strings) few =
    let all = length-append (written_bytes string) (flat_map written_bytes strings) in
    let one = length-append (written_u64 (length string)) string in
    (omega (arith, few, all, one), short_together strings (omega (arith, few, all)))

-- one pair rises
pub one_rises : (pairs : Pairs) → IsAscending (take 1 pairs)
one_rises [] = tt
one_rises (pair ∷ pairs) = (tt, tt)

-- ---- what is made of pairs that are given

pub items_restored : (front : Bytes) (skipped : ℕ) (pairs : Pairs) → items_of (restored front skipped pairs) ≡ items_of pairs
items_restored front skipped [] = refl
items_restored front skipped (pair ∷ pairs) = ap (λ rest. pair.1 ∷ rest) (items_restored front skipped pairs)

-- all of the pairs
pub all_taken : (pairs : Pairs) (n : ℕ) → n ≡ length pairs → take (n - 0) pairs ≡ pairs
all_taken pairs n is = let same : n - 0 ≡ length pairs = omega arith in ap (λ k. take k pairs) same ∙ take_all (length pairs) pairs (omega arith)

-- the keys of both, and then the values of both
pub joined_strings : (front right_front : Bytes) (skipped : ℕ) (left right : Pairs)
    → (((keys_of (restored front skipped left)) ++ keys_of (restored right_front skipped right)) ++ items_of left) ++ items_of right
    ≡ keys_of (restored front skipped left ++ restored right_front skipped right) ++ items_of (restored front skipped left ++ restored right_front skipped right)
joined_strings front right_front skipped left right =
    let xs = restored front skipped left in
    let ys = restored right_front skipped right in
    append_assoc (keys_of xs ++ keys_of ys) (items_of left) (items_of right) ∙ (λ i. sym (keys_both xs ys) i ++ (sym (items_restored front skipped left) i ++ sym (items_restored right_front skipped right) i)) ∙ ap (λ items. keys_of (xs ++ ys) ++ items) (sym (items_both xs ys))
