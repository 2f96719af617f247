-- An index that has no child for a key of its range leads it nowhere.
use Rattle.std.proofs.Common.{◌≡◌, ◌⊎◌, inl, inr, ℕ, true, false, List, [], ◌∷◌, Option, None, Some, refl, sym, ◌∙◌}
use Rattle.sled_base.specs.Order.{Bytes, IsBelow, IsAtMost}
use Rattle.sled_node.specs.Children.{BeginsAtMost, HasChildFor}
use Rattle.sled_node.specs.Node.{Item, Child, WholeNode, IsInRange}
use Rattle.sled_node.specs.Pairs.{IsAscending}
use Rattle.sled_search.specs.Map.{leading}
use Rattle.sled_search.specs.Routes.{IsAstray}
use Rattle.sled_search.specs.Search.{LeadsTo}
use Rattle.sled_search.proofs.Leading.{leading-none}
use Rattle.sled_search.proofs.Pairs.{all-above}
use Rattle.sled_search.proofs.Splits.{side}

none-leads : {V : Type 0} (pairs : List (Bytes × V)) (key : Bytes) → IsAscending pairs → (BeginsAtMost pairs key → ⊥) → leading pairs key ≡ None
none-leads [] key up none = refl
none-leads (pair ∷ pairs) key up none = by (side key pair.0)
  where
    by : IsBelow key pair.0 ⊎ IsAtMost pair.0 key → leading (pair ∷ pairs) key ≡ None
    by (inl lt) = leading-none (pair ∷ pairs) key (lt, all-above key pair.0 pairs lt up.0)
    by (inr le) = absurd (none le)

pub no-child : (n : WholeNode) (key : Bytes) → IsAscending n.pairs → n.is_index ≡ true → IsInRange n key → (HasChildFor n key → ⊥) → IsAstray key n
no-child n key up index range none = (λ leaf. not-both leaf.0, λ page leads. by page leads)
  where
    not-both : n.is_index ≡ false → ⊥
    not-both is = absurd (let e = index in cc)

    nothing : leading n.pairs key ≡ None
    nothing = none-leads n.pairs key up (λ begins. none (index, range, begins))

    not-some : (item : Item) → ◌≡◌ {A = Option Item} None (Some item) → ⊥
    not-some item h = absurd (let e = h in cc)

    by : (page : ℕ) → LeadsTo n key page → ⊥
    by page (inl down) = not-some (Child page) (sym nothing ∙ down.2)
    by page (inr right) = right.0 range
