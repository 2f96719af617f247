-- Where one page is changed, searches come to what they came to, if those that pass that page do.
use Rattle.std.proofs.Common.{◌≡◌, ◌≢◌, ◌⊎◌, inl, inr, ℕ, zero, suc, ◌<◌, List, Some, slice_get, sym, subst, arith}
use Rattle.std.proofs.lemmas.Bool.{cases_eq}
use Rattle.sled_base.specs.Order.{Bytes}
use Rattle.sled_log.specs.Contents.{Content, Node}
use Rattle.sled_node.specs.Node.{WholeNode}
use Rattle.sled_search.specs.Search.{Finds, Comes}

-- the nodes of all other pages stay
abbrev pub OthersStay : List Content → List Content → ℕ → Type 0
OthersStay pages changed p = (pid : ℕ) → pid ≢ p → (n : WholeNode) → slice_get pages pid ≡ Some (Node n) → slice_get changed pid ≡ Some (Node n)

module _ (pages changed : List Content) (p : ℕ) (others : OthersStay pages changed p) (key : Bytes) (Is Is' : ℕ → WholeNode → Type 0) where
  -- a search from the changed page comes to such a leaf, if those with fewer turns do, from whichever page
  abbrev pub HereToo : Type 0
  HereToo = (turns : ℕ) → ((t : ℕ) → t < turns → (pid : ℕ) → Finds pages key Is t pid → Comes changed key Is' pid) → Finds pages key Is turns p → Comes changed key Is' p

  module _ (elsewhere : (pid : ℕ) (n : WholeNode) → pid ≢ p → Is pid n → Is' pid n) (here : HereToo) where
    other_page : (turns from : ℕ) → (from ≡ p → ⊥) → ((t : ℕ) → t < turns → (pid : ℕ) → Finds pages key Is t pid → Comes changed key Is' pid) → Finds pages key Is turns from → Comes changed key Is' from
    other_page zero from other less (n, at, x) = (zero, (n, others from other n at, (x.0, elsewhere from n other x.1)))
    other_page (suc turns) from other less (to, (n, at, x), rest) = let (more, found) = less turns (omega arith) to rest in (suc more, (to, (n, others from other n at, x), found))

    one : (turns from : ℕ) → ((t : ℕ) → t < turns → (pid : ℕ) → Finds pages key Is t pid → Comes changed key Is' pid) → Finds pages key Is turns from → (from ≡ p) ⊎ (from ≡ p → ⊥) → Comes changed key Is' from
    one turns from less found (inl is) = subst (λ page. Comes changed key Is' page) (sym is) (here turns less (subst (λ page. Finds pages key Is turns page) is found))
    one turns from less found (inr other) = other_page turns from other less found

    within : (bound turns : ℕ) → turns < bound → (from : ℕ) → Finds pages key Is turns from → Comes changed key Is' from
    within zero turns lt from found = absurd (omega arith)
    within (suc bound) turns lt from found = one turns from (λ t less pid f. within bound t (omega arith) pid f) found (cases_eq from p)

    pub kept : (from : ℕ) → Comes pages key Is from → Comes changed key Is' from
    kept from (turns, found) = within (suc turns) turns (omega arith) from found
