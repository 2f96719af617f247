-- Stored pairs under one front are compared as the whole pairs are.
use Rattle.std.proofs.Common.{◌≡◌, ◌&&◌, ℕ, Bool, true, List, [], ◌∷◌, ◌++◌, map, take, Option, None, Some, nat_eq, refl, sym, ap, ◌∙◌}
use Rattle.std.specs.Bool.{beq}
use Rattle.std.specs.Int.NonZero.{non_zero_u64_get}
use Rattle.std.specs.declared.num.NonZeroU64.{NonZeroU64}
use Rattle.std.specs.contracts.prelude.NonZeroU64PartialEq.TheImpl as page
use Rattle.std.specs.Option.{option_map, option_eq}
use Rattle.std.specs.Cmp.{unsigned_Decides}
use Rattle.std.specs.Cmp.Lexicographic.{pointwise, bytes_decides}
use Rattle.std.proofs.lemmas.Bool.Decides.{Decides-like, same_from_decides}
use Rattle.std.proofs.lemmas.List.{append_cancel_left}
use Rattle.sled_base.specs.Order.{Bytes}
use Rattle.sled_node.specs.contracts.node.data.DataPartialEq.TheImpl as equal
use Rattle.sled_node.specs.declared.node.data.Data.{Data}
use Rattle.sled_node.specs.declared.node.data.Data.TheVariants.{Leaf, Index}
use Rattle.sled_node.specs.Node.{Item, Value, Child}
use Rattle.sled_node.specs.Equality.{same_pairs, same_items, same_contents, same_nodes}
use Rattle.sled_node.specs.Parts.{is_index, pairs_under, node_of}
use Rattle.sled_node.proofs.NodeEdits.{made}

module _ (front : Bytes) where
  -- a front that two keys share does not tell them apart
  keys_alike : (a b : Bytes) → pointwise nat_eq (front ++ a) (front ++ b) ≡ pointwise nat_eq a b
  keys_alike a b =
      same_from_decides (pointwise nat_eq (front ++ a) (front ++ b)) (pointwise nat_eq a b) (bytes_decides (front ++ a) (front ++ b)) (Decides-like (pointwise nat_eq a b) (ap (λ s. front ++ s)) (append_cancel_left front a b) (bytes_decides a b))

  module _ {V : Type 0} (make : V → Item) (same : V → V → Bool) (alike : (v w : V) → same_items (make v) (make w) ≡ same v w) where
    pairs_alike : (xs ys : List (Bytes × V)) → same_pairs same_items (map (made front make) xs) (map (made front make) ys) ≡ same_pairs same xs ys
    pairs_alike [] [] = refl
    pairs_alike [] (y ∷ ys) = refl
    pairs_alike (x ∷ xs) [] = refl
    pairs_alike (x ∷ xs) (y ∷ ys) = λ i. (keys_alike x.0 y.0 i && alike x.1 y.1 i) && pairs_alike xs ys i

  pub data_alike : (v w : Data) → same_contents (is_index v) (is_index w) (pairs_under front v) (pairs_under front w) ≡ equal.ghosts.eq v w
  data_alike (Leaf xs) (Leaf ys) = pairs_alike (λ v. Value v) (pointwise nat_eq) (λ v w. refl) xs ys
  data_alike (Index xs) (Index ys) = pairs_alike (λ page. Child page) nat_eq (λ v w. refl) xs ys
  data_alike (Leaf xs) (Index ys) = refl
  data_alike (Index xs) (Leaf ys) = refl

-- two pages are the same where their numbers are
pub pages_alike : (a b : Option NonZeroU64) → option_eq page.ghosts.eq a b ≡ option_eq nat_eq (option_map non_zero_u64_get a) (option_map non_zero_u64_get b)
pages_alike None None = refl
pages_alike None (Some q) = refl
pages_alike (Some p) None = refl
pages_alike (Some p) (Some q) = refl

-- where all but the contents is the same, two nodes are the same where their contents are
pub nodes_alike : (p q : ℕ) (next child next' child' : Option ℕ) (capped capped' : Bool) (lo hi lo' hi' : Bytes) (v w : Data) → pointwise nat_eq lo lo' ≡ true → pointwise nat_eq hi hi' ≡ true → nat_eq p q ≡ true → option_eq nat_eq next next' ≡ true → option_eq nat_eq child child' ≡ true → beq capped capped' ≡ true → equal.ghosts.eq v w ≡ same_nodes (node_of p next child capped lo hi v) (node_of q next' child' capped' lo' hi' w)
nodes_alike p q next child next' child' capped capped' lo hi lo' hi' v w los his skips nexts children marks =
    let front : take p lo ≡ take q lo' = λ i. take ((unsigned_Decides p q).0 skips i) ((bytes_decides lo lo').0 los i) in
    rw (los, his, skips, nexts, children, marks) (sym (data_alike (take p lo) v w) ∙ ap (λ other. same_contents (is_index v) (is_index w) (pairs_under (take p lo) v) (pairs_under other w)) front)
