-- How values are encoded one after the other.
use Rattle.std.specs.Prelude.{◌≡◌, ℕ, List, [], ◌∷◌, length}

-- one value after the other, to the last
abbrev pub ReadsAll : {V : Type 0} → (List ℕ → V → List ℕ → Type 0) → List ℕ → List V → List ℕ → Type 0
ReadsAll reads input [] rest = input ≡ rest
ReadsAll reads input (value ∷ values) rest = (middle : List ℕ) × reads input value middle × ReadsAll reads middle values rest

-- a given number of values
abbrev pub ReadsCount : {V : Type 0} → ℕ → (List ℕ → V → List ℕ → Type 0) → List ℕ → List V → List ℕ → Type 0
ReadsCount count reads input values rest = (length values ≡ count) × ReadsAll reads input values rest
