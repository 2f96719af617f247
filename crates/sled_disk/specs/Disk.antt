-- What the calls of a disk do to its bytes, and the crash states that they leave.
use Rattle.std.specs.Prelude.{◌≡◌, ◌⊎◌, ℕ, ◌+◌, ◌≤◌, max, List, ◌++◌, length, take, drop}

-- the bytes after `bytes` were written over them at a place
abbrev pub overlaid : List ℕ → ℕ → List ℕ → List ℕ
overlaid old at bytes = take at old ++ bytes ++ drop (at + length bytes) old

-- What a crash may make of bytes during a write of n bytes at a place: any bytes in that range, any length between the old one and the end
-- of the range, and the same bytes elsewhere.
pub record Torn (at n : ℕ) (old new : List ℕ) : Type 0 where
  pub before : take at new ≡ take at old
  pub after : drop (at + n) new ≡ drop (at + n) old
  pub no_shorter : length old ≤ length new
  pub no_longer : length new ≤ max (length old) (at + n)

-- each new crash state is an old one after such a step
abbrev pub Follows : (List ℕ → List ℕ → Type 0) → (List ℕ → Type 0) → (List ℕ → Type 0) → Type 0
Follows step old new = (left : List ℕ) → new left → (was : List ℕ) × old was × step was left

-- after each such step an old crash state is a new one
abbrev pub LeavesEach : (List ℕ → List ℕ → Type 0) → (List ℕ → Type 0) → (List ℕ → Type 0) → Type 0
LeavesEach step old new = (was left : List ℕ) → old was → step was left → new left

-- each new crash state is an old one
abbrev pub LeavesNoMore : (List ℕ → Type 0) → (List ℕ → Type 0) → Type 0
LeavesNoMore old new = (left : List ℕ) → new left → old left

-- these bytes are the one crash state
abbrev pub Only : List ℕ → (List ℕ → Type 0) → Type 0
Only bytes may_leave = (left : List ℕ) → may_leave left → left ≡ bytes

-- Time passes: what a crash since t might have left, it might have left before or may leave now, and no earlier crash state is forgotten.
pub record Elapses {D : Type 0} (moment : D → ℕ) (left_since : D → ℕ → List ℕ → Type 0) (may_leave : D → List ℕ → Type 0) (old new : D) : Type 0 where
  pub later : moment old ≤ moment new
  pub nothing_else : (t : ℕ) (left : List ℕ) → t ≤ moment old → left_since new t left → left_since old t left ⊎ may_leave new left
  pub keeps : (t : ℕ) (left : List ℕ) → t ≤ moment old → left_since old t left → left_since new t left

-- The disk was not written: no crash state was added and none is forgotten.
pub record LeavesTheSame {D : Type 0} (tells : Type 0) (may_leave : D → List ℕ → Type 0) (moment : D → ℕ) (left_since : D → ℕ → List ℕ → Type 0) (old new : D) : Type 0 where
  pub may : tells → (left : List ℕ) → may_leave new left → may_leave old left
  pub later : tells → moment old ≤ moment new
  pub nothing_else : tells → (t : ℕ) (left : List ℕ) → t ≤ moment old → left_since new t left → left_since old t left
  pub kept : tells → (t : ℕ) (left : List ℕ) → t ≤ moment old → left_since old t left → left_since new t left
