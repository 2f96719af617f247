-- Taking a child out of an index, by stored keys and by whole keys.
use Rattle.std.proofs.Common.{◌≡◌, ◌↔◌, ℕ, ◌<◌, ◌≤◌, Bool, true, false, cond, List, [], ◌∷◌, length, get_or, map, take, Option, None, Some, refl, sym, ap, ◌∙◌, arith}
use Rattle.std.specs.Prelude.{◌==◌, Any}
use Rattle.std.specs.List.{AllByRecursion}
use Rattle.std.proofs.lemmas.List.{length-map, get_or-map, get_or_default}
use Rattle.sled_base.specs.Order.{Bytes, IsBelow}
use Rattle.sled_node.specs.declared.node.data.Data.{Data}
use Rattle.sled_node.specs.declared.node.data.Data.TheVariants.{Leaf, Index}
use Rattle.sled_node.specs.declared.node.link.Link.TheVariants.{ParentMergeConfirm}
use Rattle.sled_node.specs.Pairs.{IsWithinLimit, IsAscending}
use Rattle.sled_node.specs.Node.{Item, Value, Child, WholeNode, IsInRange, ItemFits, IsWellFormed}
use Rattle.sled_node.specs.Links.{AcceptsHere, without_child, without_merged, applied}
use Rattle.sled_node.specs.Parts.{is_index, node_of, without_page, without_stored, LeadsTo}
use Rattle.sled_node.proofs.NodeEdits.{made}

-- ---- the pairs without a child

module _ (P : Bytes × Item → Type 0) where
  all_chosen : (b : Bool) (x : Bytes × Item) (xs ys : List (Bytes × Item)) → P x → AllByRecursion P xs → AllByRecursion P ys → AllByRecursion P (cond b xs (x ∷ ys))
  all_chosen true x xs ys here all rest = all
  all_chosen false x xs ys here all rest = (here, rest)

  pub all_without : (page : ℕ) (pairs : List (Bytes × Item)) → AllByRecursion P pairs → AllByRecursion P (without_child page pairs)
  all_without page [] all = tt
  all_without page ((key, Value value) ∷ pairs) all = (all.0, all_without page pairs all.1)
  all_without page ((key, Child other) ∷ pairs) all = all_chosen (other == page) (key, Child other) pairs (without_child page pairs) all.0 all.1 (all_without page pairs all.1)

ascending_chosen : (b : Bool) (x : Bytes × Item) (xs ys : List (Bytes × Item)) → IsAscending xs → IsAscending (x ∷ ys) → IsAscending (cond b xs (x ∷ ys))
ascending_chosen true x xs ys ascending rest = ascending
ascending_chosen false x xs ys ascending rest = rest

pub ascending_without : (page : ℕ) (pairs : List (Bytes × Item)) → IsAscending pairs → IsAscending (without_child page pairs)
ascending_without page [] ascending = tt
ascending_without page ((key, Value value) ∷ pairs) ascending = (all_without (λ later. IsBelow key later.0) page pairs ascending.0, ascending_without page pairs ascending.1)
ascending_without page ((key, Child other) ∷ pairs) ascending =
    ascending_chosen (other == page) (key, Child other) pairs (without_child page pairs) ascending.1 (all_without (λ later. IsBelow key later.0) page pairs ascending.0, ascending_without page pairs ascending.1)

few_chosen : (b : Bool) (x : Bytes × Item) (xs ys : List (Bytes × Item)) → length ys ≤ length xs → length (cond b xs (x ∷ ys)) ≤ length (x ∷ xs)
few_chosen true x xs ys le = omega arith
few_chosen false x xs ys le = omega arith

pub few_without : (page : ℕ) (pairs : List (Bytes × Item)) → length (without_child page pairs) ≤ length pairs
few_without page [] = omega arith
few_without page ((key, Value value) ∷ pairs) = omega (arith, few_without page pairs)
few_without page ((key, Child other) ∷ pairs) = few_chosen (other == page) (key, Child other) pairs (without_child page pairs) (few_without page pairs)

-- ---- stored keys

module _ (front : Bytes) where
  abbrev child_of : Bytes × ℕ → Bytes × Item
  child_of = made front (λ page. Child page)

  chosen_alike : (b : Bool) (x : Bytes × ℕ) (xs ys : List (Bytes × ℕ)) (zs : List (Bytes × Item)) → map child_of ys ≡ zs → map child_of (cond b xs (x ∷ ys)) ≡ cond b (map child_of xs) (child_of x ∷ zs)
  chosen_alike true x xs ys zs rest = refl
  chosen_alike false x xs ys zs rest = ap (λ ps. child_of x ∷ ps) rest

  pub without_under : (page : ℕ) (pairs : List (Bytes × ℕ)) → map child_of (without_page page pairs) ≡ without_child page (map child_of pairs)
  without_under page [] = refl
  without_under page (pair ∷ pairs) = chosen_alike (pair.1 == page) pair pairs (without_page page pairs) (without_child page (map child_of pairs)) (without_under page pairs)

  -- an index leads to a page where its node does
  leads : (page : ℕ) (pairs : List (Bytes × ℕ)) → Any (λ pair. pair.1 ≡ page) pairs → Any (λ pair. pair.1 ≡ Child page) (map child_of pairs)
  leads page pairs (k, pair, lt, is, same) =
      (k, child_of pair, omega (arith, lt, length-map pairs child_of), get_or-map child_of pairs k pair (child_of pair) lt ∙ ap child_of is, ap (λ other. Child other) same)

  leads_back : (page : ℕ) (pairs : List (Bytes × ℕ)) → Any (λ pair. pair.1 ≡ Child page) (map child_of pairs) → Any (λ pair. pair.1 ≡ page) pairs
  leads_back page pairs (k, pair, lt, is, same) =
      let short : k < length pairs = omega (arith, lt, length-map pairs child_of) in
      let d : Bytes × ℕ = ([], 0) in
      let at : child_of (get_or pairs k d) ≡ pair = sym (get_or-map child_of pairs k d pair short) ∙ is in
      let child : Child (get_or pairs k d).1 ≡ Child page = ap (λ p. p.1) at ∙ same in
      (k, get_or pairs k d, short, get_or_default pairs k (get_or pairs k d) d short, cc)

-- ---- the node

module _ (P : Bytes × Item → Type 0) where
  all_merged : (child : Option ℕ) (pairs : List (Bytes × Item)) → AllByRecursion P pairs → AllByRecursion P (without_merged child pairs)
  all_merged None pairs all = all
  all_merged (Some page) pairs all = all_without P page pairs all

ascending_merged : (child : Option ℕ) (pairs : List (Bytes × Item)) → IsAscending pairs → IsAscending (without_merged child pairs)
ascending_merged None pairs ascending = ascending
ascending_merged (Some page) pairs ascending = ascending_without page pairs ascending

few_merged : (child : Option ℕ) (pairs : List (Bytes × Item)) → length (without_merged child pairs) ≤ length pairs
few_merged None pairs = omega arith
few_merged (Some page) pairs = few_without page pairs

pub well_formed_confirm : (n : WholeNode) → IsWellFormed n → IsWellFormed (applied ParentMergeConfirm n)
well_formed_confirm n formed = record {
  range = formed.range;
  prefix_byte = formed.prefix_byte;
  prefix_open = formed.prefix_open;
  prefix_common = formed.prefix_common;
  ascending = ascending_merged n.child n.pairs formed.ascending;
  in_range = all_merged (λ pair. IsInRange n pair.0) n.child n.pairs formed.in_range;
  few = omega (arith, formed.few, few_merged n.child n.pairs);
  bounds = formed.bounds;
  keys = all_merged (λ pair. IsWithinLimit pair.0) n.child n.pairs formed.keys;
  items = all_merged (λ pair. ItemFits n.is_index pair.1) n.child n.pairs formed.items;
  pages = (formed.pages.0, tt);
}

module _ (p : ℕ) (next child : Option ℕ) (capped : Bool) (lo hi : Bytes) (page : ℕ) (marked : child ≡ Some page) where
  -- an index leads to the marked child where its node does
  pub leads_alike : (parts : Data) → LeadsTo page parts ↔ AcceptsHere (node_of p next child capped lo hi parts) ParentMergeConfirm
  leads_alike (Leaf pairs) = (λ leads. absurd leads, λ accepts. let no = accepts.0 in absurd cc)
  leads_alike (Index pairs) = rw marked (λ any. (refl, leads (take p lo) page pairs any), λ accepts. leads_back (take p lo) page pairs accepts.1)

  -- the child was taken out, and the mark away
  pub confirm_kept : (parts : Data) → is_index parts ≡ true → node_of p next None capped lo hi (without_stored page parts) ≡ applied ParentMergeConfirm (node_of p next child capped lo hi parts)
  confirm_kept (Leaf pairs) index = absurd cc
  confirm_kept (Index pairs) index = rw marked (ap (λ ps. record (node_of p next None capped lo hi (Index pairs)) { pairs = ps }) (without_under (take p lo) page pairs))
