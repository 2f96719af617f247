-- Inserting a pair among others, unless its key is there.
use Rattle.std.specs.Prelude.{◌≡◌, Bool, true, false, List, Any}
use Rattle.sled_base.specs.Order.{Bytes}

-- one of the pairs has the key
abbrev pub HasKey : {V : Type 0} → List (Bytes × V) → Bytes → Type 0
HasKey pairs key = Any (λ pair. pair.0 ≡ key) pairs

-- the new value if something was inserted, and otherwise the value before
abbrev pub inserted : {X : Type 0} → Bool → X → X → X
inserted true added before = added
inserted false added before = before
