-- The right part of a node that was split begins at a string that isn't empty.
use Rattle.std.proofs.Common.{◌≡◌, ◌≢◌, ℕ, Bool, true, false, List, [], ◌∷◌, ◌++◌, Option, None, Some, refl, sym, ◌∙◌, subst}
use Rattle.sled_base.specs.Order.{Bytes, IsBelow}
use Rattle.sled_node.specs.Node.{Item, WholeNode, IsWellFormed}
use Rattle.sled_node.specs.Pairs.{IsAscending}
use Rattle.sled_node.specs.Splitting.{SplitsBehind, SeparatesAt, least, greatest}

pub never-below : (key : Bytes) → IsBelow key [] → ⊥
never-below [] h = absurd (let e = h in cc)
never-below (x ∷ key) h = absurd (let e = h in cc)

-- where pairs rise, the greatest key of the first ones is below the least of the others
meet : (xs ys : List (Bytes × Item)) (a b : Bytes) → IsAscending (xs ++ ys) → greatest xs ≡ Some a → least ys ≡ Some b → IsBelow a b
meet [] ys a b up is is' = absurd (let e = is in cc)
meet (x ∷ []) [] a b up is is' = absurd (let e = is' in cc)
meet (x ∷ []) (y ∷ ys) a b up is is' =
    let e : x.0 ≡ a = cc in
    let f : y.0 ≡ b = cc in
    subst (λ (k : Bytes). IsBelow a k) f (subst (λ (k : Bytes). IsBelow k y.0) e up.0.0)
meet (x ∷ next ∷ xs) ys a b up is is' = meet (next ∷ xs) ys a b up.1 is is'

separates-some : (index : Bool) (left right : Option Bytes) (s : Bytes) → ((a b : Bytes) → left ≡ Some a → right ≡ Some b → IsBelow a b) → SeparatesAt index left right s → s ≢ []
separates-some true (Some a) (Some b) s below is e = never-below a (subst (λ (k : Bytes). IsBelow a k) (sym is ∙ e) (below a b refl refl))
separates-some false (Some a) (Some b) s below is e = never-below a (subst (λ (k : Bytes). IsBelow a k) e is.above_left)
separates-some index None right s below is e = absurd is
separates-some index (Some a) None s below is e = absurd is

pub right-some : (n l r : WholeNode) {many : ℕ} → SplitsBehind n many l r → IsWellFormed n → r.lo ≢ []
right-some n l r splits well = separates-some n.is_index (greatest l.pairs) (least r.pairs) r.lo (λ a b. meet l.pairs r.pairs a b (subst (λ (pairs : List (Bytes × Item)). IsAscending pairs) (sym splits.pairs) well.ascending)) splits.separator
