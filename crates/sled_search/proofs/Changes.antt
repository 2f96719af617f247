-- A prefix of changes leaves a tree that is one of the maps.
use Rattle.std.proofs.Common.{◌≡◌, ◌≤◌, ℕ, zero, suc, List, [], ◌∷◌, ◌++◌, length, take, Some, slice_get, refl, sym, ap, subst, arith}
use Rattle.sled_base.specs.Order.{Bytes}
use Rattle.sled_log.specs.Contents.{Content, Node, Update, contents_from, contents_after}
use Rattle.sled_log.specs.Events.{Event}
use Rattle.sled_node.specs.Node.{Value, WholeNode, IsInRange}
use Rattle.std.specs.Option.{option_map}
use Rattle.sled_search.specs.Changes.{Passes}
use Rattle.sled_search.specs.Map.{Map, at_key}
use Rattle.sled_search.specs.Search.{IsTreeOf, HasAt, Finds, ComesToLeafOf}
use Rattle.sled_search.proofs.Search.{found-both, found-leaf, found-so, one_node}

pub record IsOneOf (pages : List Content) (root n : ℕ) (maps : List Map) : Type 0 where
  pub then : Map
  pub at : slice_get maps n ≡ Some then
  pub tree : IsTreeOf pages root then

pub passed : (pages : List Content) (root : ℕ) (m : Map) (events : List (Event Update)) (maps : List Map) → Passes pages root m events maps → (n : ℕ) → n ≤ length events → IsOneOf (contents_after pages (take n events)) root n (m ∷ maps)
passed pages root m [] [] tree zero le = record { then = m; at = refl; tree = tree }
passed pages root m [] [] tree (suc n) le = absurd (omega arith)
passed pages root m [] (next ∷ maps) h n le = absurd h
passed pages root m (event ∷ events) [] h n le = absurd h
passed pages root m (event ∷ events) (next ∷ maps) h zero le = record { then = m; at = refl; tree = h.0 }
passed pages root m (event ∷ events) (next ∷ maps) h (suc n) le =
    let one = passed (contents_from pages event) root next events maps h.1 n (omega arith) in
    record { then = one.then; at = one.at; tree = one.tree }

pub take-front : {X : Type 0} (n : ℕ) (xs ys : List X) → n ≤ length xs → take n (xs ++ ys) ≡ take n xs
take-front zero xs ys le = refl
take-front (suc n) [] ys le = absurd (omega arith)
take-front (suc n) (x ∷ xs) ys le = ap (λ zs. x ∷ zs) (take-front n xs ys (omega arith))

pub length-front : {X : Type 0} (xs ys : List X) → length xs ≤ length (xs ++ ys)
length-front [] ys = omega arith
length-front (x ∷ xs) ys = let h = length-front xs ys in omega (arith, h)

-- a leaf of the tree has what the map has at each key of its range
pub leaf-has : (pages : List Content) (root : ℕ) (m : Map) → IsTreeOf pages root m → (key : Bytes) (leaf : ℕ) (n : WholeNode) → slice_get pages leaf ≡ Some (Node n) → ComesToLeafOf pages key key leaf root → (other : Bytes) → IsInRange n other → at_key n.pairs other ≡ option_map Value (at_key m other)
leaf-has pages root m tree key leaf n there (i, x) other range =
    let (j, y) = tree.covers key other leaf (i, found-range) in
    let (t, z) = tree.comes other in
    found-leaf pages other (λ pid k. ((pid ≡ leaf) × IsInRange k key) × HasAt other (at_key m other) k) (at_key n.pairs other ≡ option_map Value (at_key m other))
    (λ pid k at of is. subst (λ (w : WholeNode). HasAt other (at_key m other) w) (one_node pages leaf n k there (subst (λ q. slice_get pages q ≡ Some (Node k)) is.0.0 at)) is.1)
    j root (found-both pages other (λ pid k. (pid ≡ leaf) × IsInRange k key) (λ _ k. HasAt other (at_key m other) k) j t root y z)
  where
    found-range : Finds pages key (λ pid k. (pid ≡ leaf) × IsInRange k other) i root
    found-range = found-so pages key (λ pid k. (pid ≡ leaf) × IsInRange k key) (λ pid k. (pid ≡ leaf) × IsInRange k other) (λ pid k at of is. (is.0, subst (λ (w : WholeNode). IsInRange w other) (sym (one_node pages leaf n k there (subst (λ q. slice_get pages q ≡ Some (Node k)) is.0 at))) range)) i root x
