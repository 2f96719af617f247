-- Two lists of pairs are compared pair by pair, and two nodes part by part.
use Rattle.std.specs.Prelude.{◌≡◌, ◌&&◌, ℕ, Bool, false, List, Option, None, Some, nat_eq}
use Rattle.std.proofs.Common.{ap, refl}
use Rattle.std.specs.Bool.{Decides, beq}
use Rattle.std.specs.Option.{option_eq}
use Rattle.std.specs.Cmp.{IsEquivalence, decided, unsigned_Decides, booleans_Decides}
use Rattle.std.specs.Cmp.Lexicographic.{pointwise, pointwise_decides, bytes_decides}
use Rattle.std.proofs.lemmas.Bool.Decides.{Decides-and, Decides-like}
use Rattle.sled_base.specs.Order.{Bytes}
use Rattle.sled_node.specs.Node.{Item, Value, Child, WholeNode}

-- the comparison of two lists, from that of two items
abbrev pub same_pairs : {V : Type 0} → (V → V → Bool) → List (Bytes × V) → List (Bytes × V) → Bool
same_pairs same = pointwise (λ v w. pointwise nat_eq v.0 w.0 && same v.1 w.1)

-- it is true exactly if the lists are the same, provided that the comparison of two items is exact too
pub same_pairs_Decides : {V : Type 0} (same : V → V → Bool) → ((v w : V) → Decides (same v w) (v ≡ w)) → (xs ys : List (Bytes × V)) → Decides (same_pairs same xs ys) (xs ≡ ys)
same_pairs_Decides same decides =
    pointwise_decides (λ v w. Decides-like (pointwise nat_eq v.0 w.0 && same v.1 w.1) (λ h i. (h.0 i, h.1 i)) (λ e. (ap (λ x. x.0) e, ap (λ x. x.1) e)) (Decides-and (pointwise nat_eq v.0 w.0) (same v.1 w.1) (bytes_decides v.0 w.0) (decides v.1 w.1)))

-- the pairs of a leaf, and those of an index
pub leaf_Decides : (xs ys : List (Bytes × Bytes)) → Decides (same_pairs (pointwise nat_eq) xs ys) (xs ≡ ys)
leaf_Decides = same_pairs_Decides (pointwise nat_eq) bytes_decides

pub index_Decides : (xs ys : List (Bytes × ℕ)) → Decides (same_pairs nat_eq xs ys) (xs ≡ ys)
index_Decides = same_pairs_Decides nat_eq unsigned_Decides

pub leaf_equiv : IsEquivalence (same_pairs {V = Bytes} (pointwise nat_eq))
leaf_equiv = decided (same_pairs (pointwise nat_eq)) leaf_Decides

pub index_equiv : IsEquivalence (same_pairs nat_eq)
index_equiv = decided (same_pairs nat_eq) index_Decides

-- ---- nodes

-- two items of a node
abbrev pub same_items : Item → Item → Bool
same_items (Value v) (Value w) = pointwise nat_eq v w
same_items (Child p) (Child q) = nat_eq p q
same_items (Value v) (Child q) = false
same_items (Child p) (Value w) = false

items_Decides : (v w : Item) → Decides (same_items v w) (v ≡ w)
items_Decides (Value v) (Value w) = let same = bytes_decides v w in (λ h. ap (λ x. Value x) (same.0 h), λ e. same.1 cc)
items_Decides (Child p) (Child q) = let same = unsigned_Decides p q in (λ h. ap (λ x. Child x) (same.0 h), λ e. same.1 cc)
items_Decides (Value v) (Child q) = (λ h. absurd cc, λ e. absurd cc)
items_Decides (Child p) (Value w) = (λ h. absurd cc, λ e. absurd cc)

-- two pages that may be missing
pub pages_Decides : (a b : Option ℕ) → Decides (option_eq nat_eq a b) (a ≡ b)
pages_Decides None None = (λ h. refl, λ e. refl)
pages_Decides None (Some q) = (λ h. absurd cc, λ e. absurd cc)
pages_Decides (Some p) None = (λ h. absurd cc, λ e. absurd cc)
pages_Decides (Some p) (Some q) = let same = unsigned_Decides p q in (λ h. ap (λ x. Some x) (same.0 h), λ e. same.1 cc)

abbrev pub same_bytes : Bytes → Bytes → Bool
same_bytes = pointwise nat_eq

abbrev pub same_pages : Option ℕ → Option ℕ → Bool
same_pages = option_eq nat_eq

-- Two nodes are compared by their ranges, by their other pages and marks, and by what they hold.
abbrev pub same_ranges : WholeNode → WholeNode → Bool
same_ranges v w = (same_bytes v.lo w.lo && same_bytes v.hi w.hi) && nat_eq v.prefix_len w.prefix_len

abbrev pub same_marks : WholeNode → WholeNode → Bool
same_marks v w = (same_pages v.next w.next && same_pages v.child w.child) && beq v.capped w.capped

abbrev pub same_contents : Bool → Bool → List (Bytes × Item) → List (Bytes × Item) → Bool
same_contents a b xs ys = beq a b && same_pairs same_items xs ys

abbrev pub same_nodes : WholeNode → WholeNode → Bool
same_nodes v w = (same_ranges v w && same_marks v w) && same_contents v.is_index w.is_index v.pairs w.pairs

-- it is true exactly if the nodes are the same
module _ (v w : WholeNode) where
  ranges_Decides : Decides (same_ranges v w) (((v.lo ≡ w.lo) × (v.hi ≡ w.hi)) × (v.prefix_len ≡ w.prefix_len))
  ranges_Decides =
      Decides-and (same_bytes v.lo w.lo && same_bytes v.hi w.hi) _ (Decides-and (same_bytes v.lo w.lo) _ (bytes_decides v.lo w.lo) (bytes_decides v.hi w.hi)) (unsigned_Decides v.prefix_len w.prefix_len)

  marks_Decides : Decides (same_marks v w) (((v.next ≡ w.next) × (v.child ≡ w.child)) × (v.capped ≡ w.capped))
  marks_Decides =
      Decides-and (same_pages v.next w.next && same_pages v.child w.child) _ (Decides-and (same_pages v.next w.next) _ (pages_Decides v.next w.next) (pages_Decides v.child w.child)) (booleans_Decides v.capped w.capped)

  contents_Decides : Decides (same_contents v.is_index w.is_index v.pairs w.pairs) ((v.is_index ≡ w.is_index) × (v.pairs ≡ w.pairs))
  contents_Decides = Decides-and (beq v.is_index w.is_index) _ (booleans_Decides v.is_index w.is_index) (same_pairs_Decides same_items items_Decides v.pairs w.pairs)

  pub node_Decides : Decides (same_nodes v w) (v ≡ w)
  node_Decides =
      Decides-like (same_nodes v w)
      (λ h i. record {
        lo = h.0.0.0.0 i;
        hi = h.0.0.0.1 i;
        prefix_len = h.0.0.1 i;
        next = h.0.1.0.0 i;
        child = h.0.1.0.1 i;
        capped = h.0.1.1 i;
        is_index = h.1.0 i;
        pairs = h.1.1 i;
      })
      (λ e. (((((ap (λ n. n.lo) e, ap (λ n. n.hi) e), ap (λ n. n.prefix_len) e), ((ap (λ n. n.next) e, ap (λ n. n.child) e), ap (λ n. n.capped) e)), (ap (λ n. n.is_index) e, ap (λ n. n.pairs) e))))
      (Decides-and (same_ranges v w && same_marks v w) _ (Decides-and (same_ranges v w) _ ranges_Decides marks_Decides) contents_Decides)

pub node_equiv : IsEquivalence same_nodes
node_equiv = decided same_nodes node_Decides
