-- A leaf's stored pairs beside its pairs with whole keys.
use Rattle.std.proofs.Common.{◌≡◌, ◌≢◌, ℕ, ◌≤◌, Bool, true, false, List, [], ◌∷◌, ◌++◌, length, get_or, take, drop, refl, sym, ap, subst, ◌∙◌, arith}
use Rattle.std.specs.Prelude.{slice_get, Some}
use Rattle.std.specs.Bool.{Decides}
use Rattle.std.specs.Option.{option_map}
use Rattle.std.specs.List.{HoldsAt}
use Rattle.std.proofs.lemmas.Slice.Eq.{bytes_eq-Decides}
use Rattle.std.specs.Str.{bytes_eq}
use Rattle.std.proofs.lemmas.List.{take-append-drop, length-take, length-take-le}
use Rattle.std.proofs.lemmas.Option.{slice_get-map, slice_get_within, get_or_from_slice_get}
use Rattle.std.proofs.Math.Seq.{drop-append_seam, take-append_seam}
use Rattle.sled_base.specs.Order.{Bytes, IsBelow, IsAtMost}
use Rattle.sled_base.specs.OrderLaws.{below_trans, not_below_itself}
use Rattle.sled_node.specs.declared.node.data.Data.TheVariants.{Leaf}
use Rattle.sled_node.specs.Node.{Item, Value, WholeNode, whole, IsInRange, IsWellFormed}
use Rattle.sled_node.specs.Parts.{pairs_under, AreBounds}
use Rattle.sled_node.specs.Lookups.{HasValue}
use Rattle.sled_node.proofs.NodeEdits.{made}
use Rattle.sled_node.proofs.WholeKeys.{bounds_of, bounds_within, prefix_within}
use Rattle.sled_node.proofs.WholePlaces.{below_front, above_front}

-- a stored pair is there with its whole key
pub whole_at : (n : WholeNode) (stored : List (Bytes × Bytes)) (i : ℕ) (pair : Bytes × Bytes) → n.pairs ≡ pairs_under (take n.prefix_len n.lo) (Leaf stored) → slice_get stored i ≡ Some pair → slice_get n.pairs i ≡ Some (whole n pair.0, Value pair.1)
whole_at n stored i pair are at =
    ap (λ pairs. slice_get pairs i) are ∙ slice_get-map (made (take n.prefix_len n.lo) (λ v. Value v)) stored i ∙ ap (option_map (made (take n.prefix_len n.lo) (λ v. Value v))) at

-- the pair at the place where a whole key stands
pub found_pair : (n : WholeNode) (key : Bytes) (i : ℕ) (stored value : Bytes) → slice_get n.pairs i ≡ Some (whole n stored, Value value) → HoldsAt (λ other. other.0 ≡ key) n.pairs i → (whole n stored ≡ key) × HasValue n key value
found_pair n key i stored value at same =
    let held : Bytes × Item = (whole n stored, Value value) in
    let here : get_or n.pairs i held ≡ held = get_or_from_slice_get n.pairs i held held at in
    let whole_is : whole n stored ≡ key = ap (λ (other : Bytes × Item). other.0) (sym here) ∙ same held in
    (whole_is, subst (λ k. HasValue n k value) whole_is (i, slice_get_within n.pairs i held at, here))

-- what can't be otherwise is so, where a test tells
decided : {P : Type 0} (b : Bool) → Decides b P → ((P → ⊥) → ⊥) → P
decided true tells must = tells.0 refl
decided false tells must = absurd (must (λ so. let yes = tells.1 so in absurd cc))

-- what is neither below lo nor above hi begins with what these have in common
begins_between : (p : ℕ) (lo hi key : Bytes) → AreBounds p lo hi → IsAtMost lo key → (hi ≢ [] → IsBelow key hi) → take p key ≡ take p lo
begins_between p lo [] key bounds low high = ap (λ k. take k key) (bounds.prefix_open refl) ∙ ap (λ k. take k lo) (sym (bounds.prefix_open refl))
begins_between p lo (y ∷ hi) key bounds low high =
    let lt : IsBelow key (y ∷ hi) = high (λ none. absurd cc) in
    let long : length (take p lo) ≡ p = length-take-le p lo (bounds_within p lo (y ∷ hi) bounds).0 in
    decided (bytes_eq (take p key) (take p lo)) (bytes_eq-Decides (take p key) (take p lo)) (λ differ.
    let other = λ (tail : Bytes) (is : key ≡ take p lo ++ tail). differ (ap (take p) is ∙ ap (λ k. take k (take p lo ++ tail)) (sym long) ∙ take-append_seam (take p lo) tail) in
    let not_before = λ (before : IsBelow key (take p lo)). low (subst (IsBelow key) (take-append-drop p lo) (below_front key (take p lo) (drop p lo) before)) in
    let above : IsBelow (take p lo ++ drop p (y ∷ hi)) key = above_front key (take p lo) (drop p (y ∷ hi)) other not_before in
    let high_below : IsBelow (y ∷ hi) key = subst (λ b. IsBelow b key) (ap (λ front. front ++ drop p (y ∷ hi)) bounds.prefix_common ∙ take-append-drop p (y ∷ hi)) above in
    not_below_itself key (below_trans key (y ∷ hi) key lt high_below))

module _ (n : WholeNode) (formed : IsWellFormed n) where
  -- the stored key is the rest of the whole one
  pub stored_is_rest : (key stored : Bytes) → whole n stored ≡ key → stored ≡ drop n.prefix_len key
  stored_is_rest key stored is =
      sym (drop-append_seam (take n.prefix_len n.lo) stored) ∙ ap (λ p. drop p (whole n stored)) (length-take-le n.prefix_len n.lo (prefix_within n formed).0) ∙ ap (drop n.prefix_len) is

  -- a key in the range begins with the prefix
  begins : (key : Bytes) → IsInRange n key → take n.prefix_len key ≡ take n.prefix_len n.lo
  begins key inside = begins_between n.prefix_len n.lo n.hi key (bounds_of n formed) inside.0 inside.1

  -- the rest of a key in the range is its stored key
  pub rest_made_whole : (key : Bytes) → IsInRange n key → whole n (drop n.prefix_len key) ≡ key
  rest_made_whole key inside = ap (λ front. front ++ drop n.prefix_len key) (sym (begins key inside)) ∙ take-append-drop n.prefix_len key

  pub prefix_in_key : (key : Bytes) → IsInRange n key → n.prefix_len ≤ length key
  prefix_in_key key inside = omega (arith, ap length (begins key inside), length-take n.prefix_len key, length-take-le n.prefix_len n.lo (prefix_within n formed).0)
