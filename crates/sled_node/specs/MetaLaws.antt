-- The laws of the root map.
use Rattle.std.specs.Prelude.{◌≡◌, ◌≢◌, ℕ, Bool, true, false, [], ◌∷◌, ◌++◌, filter, Option, Some, None, unwrap_or, refl}
use Rattle.std.proofs.Common.{cond, sym, ap, subst, ◌∙◌, append_assoc}
use Rattle.std.proofs.lemmas.List.{append-nil}
use Rattle.std.specs.List.{AllByRecursion}
use Rattle.std.specs.declared.cmp.Ordering.{Ordering}
use Rattle.std.specs.declared.cmp.Ordering.TheVariants.{Less, Equal, Greater}
use Rattle.std.specs.Ordering.{is_lt, is_eq, ordering_reverse}
use Rattle.std.specs.Cmp.Lexicographic.{nat_list_cmp_total}
use Rattle.std.proofs.lemmas.Cmp.{tied_itself}
use Rattle.sled_base.specs.Order.{Bytes, bytes_cmp, is_below, IsBelow}
use Rattle.sled_base.specs.OrderLaws.{below_is_above, above_is_below, below_trans, equal_is_same, reversed}
use Rattle.sled_node.specs.Pairs.{IsAscending, pairs_below, pairs_above}
use Rattle.sled_node.specs.Meta.{Roots, is_name, root_of, with_root, without_root, with_roots}

module _ (name : Bytes) where
  -- if all names are below, all of them come before the name
  all_before : (roots : Roots) → AllByRecursion (λ pair. IsBelow pair.0 name) roots → (pairs_below name roots ≡ roots) × (pairs_above name roots ≡ [])
  all_before [] below = (refl, refl)
  all_before (pair ∷ roots) below =
      let others = all_before roots below.1 in
      let here : is_below pair.0 name ≡ true = ap is_lt below.0 in
      let there : is_below name pair.0 ≡ false = ap is_lt (below_is_above pair.0 name below.0) in
      (rw here (ap (λ rest. pair ∷ rest) others.0), rw there others.1)

  -- so that a name above all others comes last
  comes_last : (root : ℕ) (roots : Roots) → AllByRecursion (λ pair. IsBelow pair.0 name) roots → with_root name root roots ≡ roots ++ (name, root) ∷ []
  comes_last root roots below =
      let both = all_before roots below in
      ap (λ front. front ++ (name, root) ∷ pairs_above name roots) both.0 ∙ ap (λ back. roots ++ (name, root) ∷ back) both.1

  -- if all names are above, all of them come after the name
  all_after : (roots : Roots) → AllByRecursion (λ pair. IsBelow name pair.0) roots → (pairs_below name roots ≡ []) × (pairs_above name roots ≡ roots)
  all_after [] above = (refl, refl)
  all_after (pair ∷ roots) above =
      let others = all_after roots above.1 in
      let here : is_below name pair.0 ≡ true = ap is_lt above.0 in
      let there : is_below pair.0 name ≡ false = ap is_lt (below_is_above name pair.0 above.0) in
      (rw there others.0, rw here (ap (λ rest. pair ∷ rest) others.1))

-- among ascending names each is above those before it
all_behind : (P : Bytes × ℕ → Type 0) (front : Roots) (pair : Bytes × ℕ) (back : Roots) → AllByRecursion P (front ++ pair ∷ back) → P pair
all_behind P [] pair back all = all.0
all_behind P (x ∷ front) pair back all = all_behind P front pair back all.1

before_it : (front : Roots) (pair : Bytes × ℕ) (back : Roots) → IsAscending (front ++ pair ∷ back) → AllByRecursion (λ earlier. IsBelow earlier.0 pair.0) front
before_it [] pair back ascending = tt
before_it (x ∷ front) pair back ascending = (all_behind (λ later. IsBelow x.0 later.0) front pair back ascending.0, before_it front pair back ascending.1)

put_behind : (front pairs : Roots) → IsAscending (front ++ pairs) → with_roots pairs front ≡ front ++ pairs
put_behind front [] ascending = sym (append-nil front)
put_behind front (pair ∷ pairs) ascending =
    let last = comes_last pair.0 pair.1 front (before_it front pair pairs ascending) in
    let regrouped = append_assoc front (pair ∷ []) pairs in
    ap (with_roots pairs) last ∙ put_behind (front ++ pair ∷ []) pairs (subst IsAscending (sym regrouped) ascending) ∙ regrouped

-- setting ascending pairs in the empty map, in their order, results in these pairs
pub put_in_order : (pairs : Roots) → IsAscending pairs → with_roots pairs [] ≡ pairs
put_in_order pairs ascending = put_behind [] pairs ascending

-- ---- what reading a name returns after it was set or removed

-- the root that the first names have, or else that of the others
abbrev or_else : Option ℕ → Option ℕ → Option ℕ
or_else (Some root) other = Some root
or_else None other = other

or_none : (found : Option ℕ) → or_else found None ≡ found
or_none (Some root) = refl
or_none None = refl

module _ (name : Bytes) where
  one_of : (b : Bool) (root : ℕ) (found other : Option ℕ) → cond b (Some root) (or_else found other) ≡ or_else (cond b (Some root) found) other
  one_of true root found other = refl
  one_of false root found other = refl

  read_in_turn : (front back : Roots) → root_of name (front ++ back) ≡ or_else (root_of name front) (root_of name back)
  read_in_turn [] back = refl
  read_in_turn (pair ∷ front) back =
      ap (cond (is_name name pair.0) (Some pair.1)) (read_in_turn front back) ∙ one_of (is_name name pair.0) pair.1 (root_of name front) (root_of name back)

  -- names that a predicate picks
  module _ (picks : Bytes → Bool) where
    abbrev picked : Roots → Roots
    picked roots = filter (λ pair. picks pair.0) roots

    dropped_one : (o : Ordering) (b : Bool) (root : ℕ) (pair : Bytes × ℕ) (roots : Roots) → (o ≡ Equal → b ≡ false) → bytes_cmp name pair.0 ≡ o → root_of name roots ≡ None → root_of name (cond b (pair ∷ roots) roots) ≡ None
    dropped_one o false root pair roots drops is missing = missing
    dropped_one Less true root pair roots drops is missing = ap (λ o. cond (is_eq o) (Some pair.1) (root_of name roots)) is ∙ missing
    dropped_one Greater true root pair roots drops is missing = ap (λ o. cond (is_eq o) (Some pair.1) (root_of name roots)) is ∙ missing
    dropped_one Equal true root pair roots drops is missing = absurd (let e = drops refl in cc)

    pub dropped : picks name ≡ false → (roots : Roots) → root_of name (picked roots) ≡ None
    dropped drops [] = refl
    dropped drops (pair ∷ roots) =
        dropped_one (bytes_cmp name pair.0) (picks pair.0) pair.1 pair (picked roots) (λ same. sym (ap picks (equal_is_same name pair.0 same)) ∙ drops) refl (dropped drops roots)

    kept_one : (o : Ordering) (b : Bool) (pair : Bytes × ℕ) (some all : Roots) → (o ≡ Equal → b ≡ true) → bytes_cmp name pair.0 ≡ o → root_of name some ≡ root_of name all → root_of name (cond b (pair ∷ some) some) ≡ root_of name (pair ∷ all)
    kept_one o true pair some all keeps is same = ap (cond (is_name name pair.0) (Some pair.1)) same
    kept_one Less false pair some all keeps is same = same ∙ sym (ap (λ o. cond (is_eq o) (Some pair.1) (root_of name all)) is)
    kept_one Greater false pair some all keeps is same = same ∙ sym (ap (λ o. cond (is_eq o) (Some pair.1) (root_of name all)) is)
    kept_one Equal false pair some all keeps is same = absurd (let e = keeps refl in cc)

    pub kept : picks name ≡ true → (roots : Roots) → root_of name (picked roots) ≡ root_of name roots
    kept keeps [] = refl
    kept keeps (pair ∷ roots) =
        kept_one (bytes_cmp name pair.0) (picks pair.0) pair (picked roots) roots (λ same. sym (ap picks (equal_is_same name pair.0 same)) ∙ keeps) refl (kept keeps roots)

  not_below_itself : is_below name name ≡ false
  not_below_itself = ap is_lt (tied_itself nat_list_cmp_total name)

  below_missing : (roots : Roots) → root_of name (pairs_below name roots) ≡ None
  below_missing roots = dropped (λ other. is_below other name) not_below_itself roots

  above_missing : (roots : Roots) → root_of name (pairs_above name roots) ≡ None
  above_missing roots = dropped (λ other. is_below name other) not_below_itself roots

  -- reading a name that was set returns its root
  pub reads_back : (root : ℕ) (roots : Roots) → root_of name (with_root name root roots) ≡ Some root
  reads_back root roots =
      read_in_turn (pairs_below name roots) ((name, root) ∷ pairs_above name roots)
      ∙ ap (λ found. or_else found (root_of name ((name, root) ∷ pairs_above name roots))) (below_missing roots)
      ∙ ap (λ o. cond (is_eq o) (Some root) (root_of name (pairs_above name roots))) (tied_itself nat_list_cmp_total name)

  -- reading a removed name returns None
  pub reads_none : (roots : Roots) → root_of name (without_root name roots) ≡ None
  reads_none roots =
      read_in_turn (pairs_below name roots) (pairs_above name roots) ∙ ap (λ found. or_else found (root_of name (pairs_above name roots))) (below_missing roots) ∙ above_missing roots

-- reading another name returns what it did before
module _ (name other : Bytes) (roots : Roots) where
  abbrev lows : Roots
  lows = pairs_below name roots

  abbrev highs : Roots
  highs = pairs_above name roots

  -- among the names below and those above
  aside : (o : Ordering) → bytes_cmp other name ≡ o → other ≢ name → or_else (root_of other lows) (root_of other highs) ≡ root_of other roots
  aside Less is apart =
      let high : is_below name other ≡ false = ap is_lt (below_is_above other name is) in
      ap (or_else (root_of other lows)) (dropped other (λ k. is_below name k) high roots) ∙ or_none (root_of other lows) ∙ kept other (λ k. is_below k name) (ap is_lt is) roots
  aside Equal is apart = absurd (apart (equal_is_same other name is))
  aside Greater is apart =
      let low : is_below other name ≡ false = ap is_lt is in
      let high : is_below name other ≡ true = ap is_lt (reversed name other ∙ ap ordering_reverse is) in
      ap (λ found. or_else found (root_of other highs)) (dropped other (λ k. is_below k name) low roots) ∙ kept other (λ k. is_below name k) high roots

  not_name : (o : Ordering) → bytes_cmp other name ≡ o → other ≢ name → is_name other name ≡ false
  not_name Less is apart = ap is_eq is
  not_name Equal is apart = absurd (apart (equal_is_same other name is))
  not_name Greater is apart = ap is_eq is

  pub stays_where_set : (root : ℕ) → other ≢ name → root_of other (with_root name root roots) ≡ root_of other roots
  stays_where_set root apart =
      read_in_turn other lows ((name, root) ∷ highs)
      ∙ ap (λ b. or_else (root_of other lows) (cond b (Some root) (root_of other highs))) (not_name (bytes_cmp other name) refl apart)
      ∙ aside (bytes_cmp other name) refl apart

  pub stays_where_taken_out : other ≢ name → root_of other (without_root name roots) ≡ root_of other roots
  stays_where_taken_out apart = read_in_turn other lows highs ∙ aside (bytes_cmp other name) refl apart

-- ---- a name that was set and is removed again

module _ (name : Bytes) (root : ℕ) where
  above_all : (pair : Bytes × ℕ) (roots : Roots) → IsBelow name pair.0 → AllByRecursion (λ later. IsBelow pair.0 later.0) roots → AllByRecursion (λ later. IsBelow name later.0) roots
  above_all pair [] lt all = tt
  above_all pair (x ∷ roots) lt all = (below_trans name pair.0 x.0 lt all.0, above_all pair roots lt all.1)

  -- before names that are above it
  back_before : (roots : Roots) → AllByRecursion (λ later. IsBelow name later.0) roots → without_root name (with_root name root roots) ≡ roots
  back_before roots above =
      let parts = all_after name roots above in
      let itself = not_below_itself name in
      let put : with_root name root roots ≡ (name, root) ∷ roots = ap (λ front. front ++ (name, root) ∷ pairs_above name roots) parts.0 ∙ ap (λ back. (name, root) ∷ back) parts.1 in
      ap (without_root name) put ∙ rw itself (ap (λ front. front ++ pairs_above name roots) parts.0 ∙ parts.1)

  -- after a name that is below it
  behind_one : (pair : Bytes × ℕ) (roots : Roots) → IsBelow pair.0 name → (pairs_below name (pair ∷ roots) ≡ pair ∷ pairs_below name roots) × (pairs_above name (pair ∷ roots) ≡ pairs_above name roots)
  behind_one pair roots lt =
      let here : is_below pair.0 name ≡ true = ap is_lt lt in
      let there : is_below name pair.0 ≡ false = ap is_lt (below_is_above pair.0 name lt) in
      (rw here refl, rw there refl)

  back_one : (pair : Bytes × ℕ) (roots : Roots) → IsAscending (pair ∷ roots) → root_of name (pair ∷ roots) ≡ None → (root_of name roots ≡ None → without_root name (with_root name root roots) ≡ roots)
      → (o : Ordering) → bytes_cmp name pair.0 ≡ o → without_root name (with_root name root (pair ∷ roots)) ≡ pair ∷ roots
  back_one pair roots ascending missing others Less is = back_before (pair ∷ roots) (is, above_all pair roots is ascending.0)
  back_one pair roots ascending missing others Equal is = absurd (let none = rw is at missing in cc)
  back_one pair roots ascending missing others Greater is =
      let lt = above_is_below name pair.0 is in
      let parts = behind_one pair roots lt in
      let put : with_root name root (pair ∷ roots) ≡ pair ∷ with_root name root roots =
      ap (λ front. front ++ (name, root) ∷ pairs_above name (pair ∷ roots)) parts.0 ∙ ap (λ back. pair ∷ pairs_below name roots ++ (name, root) ∷ back) parts.1 in
      let taken = behind_one pair (with_root name root roots) lt in
      ap (without_root name) put
      ∙ ap (λ front. front ++ pairs_above name (pair ∷ with_root name root roots)) taken.0 ∙ ap (λ back. pair ∷ pairs_below name (with_root name root roots) ++ back) taken.1
      ∙ ap (λ rest. pair ∷ rest) (others (rw is at missing))

  -- setting and removing a missing name leaves the map as it was
  pub taken_back : (roots : Roots) → IsAscending roots → root_of name roots ≡ None → without_root name (with_root name root roots) ≡ roots
  taken_back [] ascending missing = back_before [] tt
  taken_back (pair ∷ roots) ascending missing = back_one pair roots ascending missing (λ none. taken_back roots ascending.1 none) (bytes_cmp name pair.0) refl

-- ---- a name that was set to another root and is set to its former root again

module _ (name : Bytes) (root former : ℕ) where
  -- before names that are above it
  set_first : (some other : ℕ) (roots : Roots) → AllByRecursion (λ later. IsBelow name later.0) roots → with_root name other ((name, some) ∷ roots) ≡ (name, other) ∷ roots
  set_first some other roots above =
      let parts = all_after name roots above in
      let itself = not_below_itself name in
      rw itself (ap (λ front. front ++ (name, other) ∷ pairs_above name roots) parts.0 ∙ ap (λ back. (name, other) ∷ back) parts.1)

  -- after a name that is below it
  set_behind : (some : ℕ) (pair : Bytes × ℕ) (roots : Roots) → IsBelow pair.0 name → with_root name some (pair ∷ roots) ≡ pair ∷ with_root name some roots
  set_behind some pair roots lt =
      let parts = behind_one name some pair roots lt in
      ap (λ front. front ++ (name, some) ∷ pairs_above name (pair ∷ roots)) parts.0 ∙ ap (λ back. pair ∷ pairs_below name roots ++ (name, some) ∷ back) parts.1

  given_one : (pair : Bytes × ℕ) (roots : Roots) → IsAscending (pair ∷ roots) → (root_of name roots ≡ Some former → with_root name former (with_root name root roots) ≡ roots)
      → (o : Ordering) → bytes_cmp name pair.0 ≡ o → cond (is_eq o) (Some pair.1) (root_of name roots) ≡ Some former → with_root name former (with_root name root (pair ∷ roots)) ≡ pair ∷ roots
  given_one pair roots ascending others Less is there =
      let above = (all_after name roots (above_all name root pair roots is ascending.0)).1 in
      let none = subst (λ some. root_of name some ≡ None) above (above_missing name roots) in
      absurd (let e = sym none ∙ there in cc)
  given_one pair roots ascending others Equal is there =
      let same = equal_is_same name pair.0 is in
      let above = subst (λ k. AllByRecursion (λ later. IsBelow k later.0) roots) (sym same) ascending.0 in
      let its : pair.1 ≡ former = ap (λ found. unwrap_or found 0) there in
      ap (λ k. with_root name former (with_root name root ((k, pair.1) ∷ roots))) (sym same)
      ∙ ap (with_root name former) (set_first pair.1 root roots above) ∙ set_first root former roots above ∙ (λ i. (same i, sym its i) ∷ roots)
  given_one pair roots ascending others Greater is there =
      let lt = above_is_below name pair.0 is in
      ap (with_root name former) (set_behind root pair roots lt) ∙ set_behind former pair (with_root name root roots) lt ∙ ap (λ rest. pair ∷ rest) (others there)

  -- setting the former root again leaves the map as it was
  pub given_back : (roots : Roots) → IsAscending roots → root_of name roots ≡ Some former → with_root name former (with_root name root roots) ≡ roots
  given_back [] ascending there = absurd cc
  given_back (pair ∷ roots) ascending there = given_one pair roots ascending (given_back roots ascending.1) (bytes_cmp name pair.0) refl there
