-- The entries of std's map are a root map: its look-ups, edits, copies and comparisons are those of names.
use Rattle.std.proofs.Common.{◌≡◌, ℕ, ◌+◌, Bool, true, false, cond, List, [], ◌∷◌, ◌++◌, length, Some, None, refl, sym, ap, subst, ◌∙◌}
use Rattle.std.specs.Prelude.{◌&&◌, not, filter, nat_eq}
use Rattle.std.specs.BTreeMap.{is_at, insert_entry}
use Rattle.std.specs.BTreeMap.Range.{entries_between}
use Rattle.std.specs.Cmp.Derive.Mapped.{pointwise-map}
use Rattle.std.specs.Cmp.Lexicographic.{pointwise, nat_list_cmp_total}
use Rattle.std.specs.Global.{Vec}
use Rattle.std.specs.List.{AllByRecursion, AllZip, sum_by}
use Rattle.std.specs.Map.{lookup, remove_entry, set_value}
use Rattle.std.specs.Ordering.{is_lt, is_le, is_eq, match_ordering, ordering_reverse}
use Rattle.std.specs.Vec.{vec_len}
use Rattle.std.specs.declared.cmp.Ordering.{Ordering}
use Rattle.std.specs.declared.cmp.Ordering.TheVariants.{Less, Equal, Greater}
use Rattle.std.specs.declared.ops.Bound.TheVariants.{Excluded, Unbounded}
use Rattle.std.proofs.lemmas.Cmp.{tied_itself}
use Rattle.sled_base.specs.Order.{Bytes, bytes_cmp, is_below, IsBelow}
use Rattle.sled_base.specs.OrderLaws.{equal_is_same, below_is_above, above_is_below, below_trans, reversed}
use Rattle.sled_node.specs.Equality.{same_pairs}
use Rattle.sled_node.specs.Pairs.{IsAscending, pairs_below, pairs_above}
use Rattle.sled_node.specs.Meta.{Roots, named, is_name, root_of, with_root, without_root}
use Rattle.sled_node.specs.MetaLaws.{dropped}
use Rattle.sled_node.proofs.Places.{all_so, all_above}

abbrev pub Entries : Type 0
Entries = List (Vec ℕ × ℕ)

-- the order of the names
abbrev pub names_cmp : Vec ℕ → Vec ℕ → Ordering
names_cmp a b = bytes_cmp a.items b.items

-- ---- one name

pub looked_up : (name : Bytes) (entries : Entries) → lookup (is_at (λ key. bytes_cmp name key.items)) entries ≡ root_of name (named entries)
looked_up name [] = refl
looked_up name (entry ∷ entries) = ap (cond (is_name name entry.0.items) (Some entry.1)) (looked_up name entries)

-- ---- edits of ascending names

module _ (name : Bytes) where
  module _ (pair : Bytes × ℕ) (roots : Roots) (ascending : IsAscending (pair ∷ roots)) where
    -- the first name is above, and so all of them
    above_first : IsBelow name pair.0 → (pairs_below name (pair ∷ roots) ≡ []) × (pairs_above name (pair ∷ roots) ≡ pair ∷ roots)
    above_first lt = all_above name (pair ∷ roots) (lt, all_so (λ later more. below_trans name pair.0 later.0 lt more) roots ascending.0)

    above_others : IsBelow name pair.0 → (pairs_below name roots ≡ []) × (pairs_above name roots ≡ roots)
    above_others lt = all_above name roots (all_so (λ later more. below_trans name pair.0 later.0 lt more) roots ascending.0)

    -- the first name is that one, and so the others are above
    at_first : name ≡ pair.0 → (pairs_below name (pair ∷ roots) ≡ []) × (pairs_above name (pair ∷ roots) ≡ roots)
    at_first same =
        let others = all_above name roots (subst (λ k. AllByRecursion (λ later. IsBelow k later.0) roots) (sym same) ascending.0) in
        let here : is_below name pair.0 ≡ false = ap (is_below name) (sym same) ∙ ap is_lt (tied_itself nat_list_cmp_total name) in
        let there : is_below pair.0 name ≡ false = ap (λ k. is_below k name) (sym same) ∙ ap is_lt (tied_itself nat_list_cmp_total name) in
        (rw there others.0, rw here others.1)

    -- the first name is below, and stays
    below_first : IsBelow pair.0 name → (pairs_below name (pair ∷ roots) ≡ pair ∷ pairs_below name roots) × (pairs_above name (pair ∷ roots) ≡ pairs_above name roots)
    below_first lt =
        let here : is_below pair.0 name ≡ true = ap is_lt lt in
        let there : is_below name pair.0 ≡ false = ap is_lt (below_is_above pair.0 name lt) in
        (rw here refl, rw there refl)

-- an entry that is put in is the name set
module _ (key : Vec ℕ) (page : ℕ) where
  put_first : (entry : Vec ℕ × ℕ) (entries : Entries) → IsAscending (named (entry ∷ entries)) → named (insert_entry names_cmp entries key page) ≡ with_root key.items page (named entries) → (o : Ordering) → names_cmp key entry.0 ≡ o
      → named (match_ordering o ((key, page) ∷ entry ∷ entries) ((entry.0, page) ∷ entries) (entry ∷ insert_entry names_cmp entries key page)) ≡ with_root key.items page (named (entry ∷ entries))
  put_first entry entries ascending others Less is =
      let name = key.items in
      let pair : Bytes × ℕ = (entry.0.items, entry.1) in
      let roots = named entries in
      let parts = above_first name pair roots ascending is in
      sym (ap (λ front. front ++ (name, page) ∷ pairs_above name (pair ∷ roots)) parts.0 ∙ ap (λ back. (name, page) ∷ back) parts.1)
  put_first entry entries ascending others Equal is =
      let name = key.items in
      let pair : Bytes × ℕ = (entry.0.items, entry.1) in
      let roots = named entries in
      let same = equal_is_same name pair.0 is in
      let parts = at_first name pair roots ascending same in
      ap (λ k. (k, page) ∷ roots) (sym same) ∙ sym (ap (λ front. front ++ (name, page) ∷ pairs_above name (pair ∷ roots)) parts.0 ∙ ap (λ back. (name, page) ∷ back) parts.1)
  put_first entry entries ascending others Greater is =
      let name = key.items in
      let pair : Bytes × ℕ = (entry.0.items, entry.1) in
      let roots = named entries in
      let parts = below_first name pair roots ascending (above_is_below name pair.0 is) in
      ap (λ rest. pair ∷ rest) others ∙ sym (ap (λ front. front ++ (name, page) ∷ pairs_above name (pair ∷ roots)) parts.0 ∙ ap (λ back. pair ∷ pairs_below name roots ++ (name, page) ∷ back) parts.1)

  pub put_in : (entries : Entries) → IsAscending (named entries) → named (insert_entry names_cmp entries key page) ≡ with_root key.items page (named entries)
  put_in [] ascending = refl
  put_in (entry ∷ entries) ascending = put_first entry entries ascending (put_in entries ascending.1) (names_cmp key entry.0) refl

-- an entry that is taken out is the name taken out
module _ (name : Bytes) where
  abbrev without_entry : Entries → Entries
  without_entry entries = remove_entry (is_at (λ key. bytes_cmp name key.items)) entries

  take_first : (entry : Vec ℕ × ℕ) (entries : Entries) → IsAscending (named (entry ∷ entries)) → named (without_entry entries) ≡ without_root name (named entries) → (o : Ordering) → bytes_cmp name entry.0.items ≡ o
      → named (cond (is_eq o) entries (entry ∷ without_entry entries)) ≡ without_root name (named (entry ∷ entries))
  take_first entry entries ascending taken Less is =
      let pair : Bytes × ℕ = (entry.0.items, entry.1) in
      let roots = named entries in
      let parts = above_first name pair roots ascending is in
      let others = above_others name pair roots ascending is in
      let stay : without_root name roots ≡ roots = ap (λ front. front ++ pairs_above name roots) others.0 ∙ others.1 in
      ap (λ rest. pair ∷ rest) (taken ∙ stay) ∙ sym (ap (λ front. front ++ pairs_above name (pair ∷ roots)) parts.0 ∙ parts.1)
  take_first entry entries ascending taken Equal is =
      let pair : Bytes × ℕ = (entry.0.items, entry.1) in
      let roots = named entries in
      let parts = at_first name pair roots ascending (equal_is_same name pair.0 is) in
      sym (ap (λ front. front ++ pairs_above name (pair ∷ roots)) parts.0 ∙ parts.1)
  take_first entry entries ascending taken Greater is =
      let pair : Bytes × ℕ = (entry.0.items, entry.1) in
      let roots = named entries in
      let parts = below_first name pair roots ascending (above_is_below name pair.0 is) in
      ap (λ rest. pair ∷ rest) taken ∙ sym (ap (λ front. front ++ pairs_above name (pair ∷ roots)) parts.0 ∙ ap (λ back. pair ∷ pairs_below name roots ++ back) parts.1)

  pub taken_out : (entries : Entries) → IsAscending (named entries) → named (without_entry entries) ≡ without_root name (named entries)
  taken_out [] ascending = refl
  taken_out (entry ∷ entries) ascending = take_first entry entries ascending (taken_out entries ascending.1) (bytes_cmp name entry.0.items) refl

-- another page of a name that is there is the name set
module _ (name : Bytes) (page former : ℕ) where
  abbrev with_page : Entries → Entries
  with_page entries = set_value (is_at (λ key. bytes_cmp name key.items)) entries page

  -- a name that is below all is missing
  none_above : (roots : Roots) → pairs_above name roots ≡ roots → root_of name roots ≡ None
  none_above roots above = subst (λ some. root_of name some ≡ None) above (dropped name (λ other. is_below name other) (ap is_lt (tied_itself nat_list_cmp_total name)) roots)

  page_first : (entry : Vec ℕ × ℕ) (entries : Entries) → IsAscending (named (entry ∷ entries)) → (root_of name (named entries) ≡ Some former → named (with_page entries) ≡ with_root name page (named entries)) → (o : Ordering) → bytes_cmp name entry.0.items ≡ o
      → cond (is_eq o) (Some entry.1) (root_of name (named entries)) ≡ Some former → named (cond (is_eq o) ((entry.0, page) ∷ entries) (entry ∷ with_page entries)) ≡ with_root name page (named (entry ∷ entries))
  page_first entry entries ascending others Less is there =
      let none = none_above (named entries) (above_others name (entry.0.items, entry.1) (named entries) ascending is).1 in
      absurd (let e = sym none ∙ there in cc)
  page_first entry entries ascending others Equal is there =
      let pair : Bytes × ℕ = (entry.0.items, entry.1) in
      let roots = named entries in
      let same = equal_is_same name pair.0 is in
      let parts = at_first name pair roots ascending same in
      ap (λ k. (k, page) ∷ roots) (sym same) ∙ sym (ap (λ front. front ++ (name, page) ∷ pairs_above name (pair ∷ roots)) parts.0 ∙ ap (λ back. (name, page) ∷ back) parts.1)
  page_first entry entries ascending others Greater is there =
      let pair : Bytes × ℕ = (entry.0.items, entry.1) in
      let roots = named entries in
      let parts = below_first name pair roots ascending (above_is_below name pair.0 is) in
      ap (λ rest. pair ∷ rest) (others there) ∙ sym (ap (λ front. front ++ (name, page) ∷ pairs_above name (pair ∷ roots)) parts.0 ∙ ap (λ back. pair ∷ pairs_below name roots ++ (name, page) ∷ back) parts.1)

  pub page_put : (entries : Entries) → IsAscending (named entries) → root_of name (named entries) ≡ Some former → named (with_page entries) ≡ with_root name page (named entries)
  page_put [] ascending there = absurd cc
  page_put (entry ∷ entries) ascending there = page_first entry entries ascending (page_put entries ascending.1) (bytes_cmp name entry.0.items) refl there

-- ---- parts of the map

-- entries that are picked by what their names are
module _ (picks : Vec ℕ → Bool) (test : Bytes → Bool) (same : (key : Vec ℕ) → picks key ≡ test key.items) where
  one_picked : (b : Bool) (entry : Vec ℕ × ℕ) (entries : Entries) → named (cond b (entry ∷ entries) entries) ≡ cond b ((entry.0.items, entry.1) ∷ named entries) (named entries)
  one_picked true entry entries = refl
  one_picked false entry entries = refl

  picked : (entries : Entries) → named (filter (λ entry. picks entry.0) entries) ≡ filter (λ pair. test pair.0) (named entries)
  picked [] = refl
  picked (entry ∷ entries) =
      let pair : Bytes × ℕ = (entry.0.items, entry.1) in
      let some = filter (λ entry. picks entry.0) entries in
      one_picked (picks entry.0) entry some ∙ ap (λ b. cond b (pair ∷ named some) (named some)) (same entry.0) ∙ ap (λ rest. cond (test pair.0) (pair ∷ rest) rest) (picked entries)

below_so : (o : Ordering) → (true && not (is_le o)) ≡ is_lt (ordering_reverse o)
below_so Less = refl
below_so Equal = refl
below_so Greater = refl

above_so : (o : Ordering) → (is_lt o && true) ≡ is_lt o
above_so Less = refl
above_so Equal = refl
above_so Greater = refl

-- all of them
pub all_between : (entries : Entries) → named (entries_between names_cmp Unbounded Unbounded entries) ≡ named entries
all_between [] = refl
all_between (entry ∷ entries) = ap (λ rest. (entry.0.items, entry.1) ∷ rest) (all_between entries)

-- those below a name, and those above it
module _ (name : Vec ℕ) where
  pub below_between : (entries : Entries) → named (entries_between names_cmp Unbounded (Excluded name) entries) ≡ pairs_below name.items (named entries)
  below_between entries = picked (λ key. true && not (is_le (names_cmp name key))) (λ key. is_below key name.items) (λ key. below_so (names_cmp name key) ∙ ap is_lt (sym (reversed key.items name.items))) entries

  pub above_between : (entries : Entries) → named (entries_between names_cmp (Excluded name) Unbounded entries) ≡ pairs_above name.items (named entries)
  above_between entries = picked (λ key. is_lt (names_cmp name key) && true) (λ key. is_below name.items key) (λ key. above_so (names_cmp name key)) entries

-- ---- copies, and comparisons

same_bytes : (xs ys : Bytes) → AllZip (λ x y. y ≡ x) xs ys → ys ≡ xs
same_bytes [] [] copied = refl
same_bytes [] (y ∷ ys) copied = absurd copied
same_bytes (x ∷ xs) [] copied = absurd copied
same_bytes (x ∷ xs) (y ∷ ys) copied = λ i. copied.0 i ∷ same_bytes xs ys copied.1 i

pub copied_entries : (entries copies : Entries) → AllZip (λ e f. (AllZip (λ x y. y ≡ x) e.0.items f.0.items × (vec_len f.0 ≡ vec_len e.0)) × (f.1 ≡ e.1)) entries copies → named copies ≡ named entries
copied_entries [] [] copied = refl
copied_entries [] (f ∷ fs) copied = absurd copied
copied_entries (e ∷ es) [] copied = absurd copied
copied_entries (e ∷ es) (f ∷ fs) copied = λ i. (same_bytes e.0.items f.0.items copied.0.0.0 i, copied.0.1 i) ∷ copied_entries es fs copied.1 i

pub compared_entries : (es fs : Entries) → same_pairs nat_eq (named es) (named fs) ≡ pointwise (λ e f. pointwise nat_eq e.0.items f.0.items && nat_eq e.1 f.1) es fs
compared_entries es fs = pointwise-map (λ e. (e.0.items, e.1)) (λ v w. pointwise nat_eq v.0 w.0 && nat_eq v.1 w.1) es fs

-- ---- sizes

-- the size of the names, from the names alone
abbrev pub names_size : List (Vec ℕ) → ℕ
names_size names = sum_by (λ name. length name.items + 8) names
