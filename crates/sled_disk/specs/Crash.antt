-- What a crash leaves of a disk while a frame is written.
use Rattle.std.specs.Prelude.{◌≡◌, ◌≢◌, ◌⊎◌, ◌+◌, ◌≤◌, ◌<◌, ℕ, List, ◌∷◌, ◌++◌, length, take, get_or}
use Rattle.sled_disk.specs.Disk.{Torn}

-- each crash state from the moment of `old` on, up to that of `new`, satisfies P, and no earlier one is forgotten
pub record BytesLeft {D : Type 0} (moment : D → ℕ) (left_since : D → ℕ → List ℕ → Type 0) (old new : D) (P : List ℕ → Type 0) : Type 0 where
  pub later : moment old ≤ moment new
  pub each : (left : List ℕ) → left_since new (moment old) left → P left
  -- the same for a sequence of calls that began earlier
  pub before : (t : ℕ) (left : List ℕ) → t ≤ moment old → left_since new t left → left_since old t left ⊎ P left
  pub kept : (t : ℕ) (left : List ℕ) → t ≤ moment old → left_since old t left → left_since new t left

-- what was left before, torn by a write of n bytes at a place
abbrev pub IsTornOf : (List ℕ → Type 0) → ℕ → ℕ → List ℕ → Type 0
IsTornOf was_left at n left = (was : List ℕ) × was_left was × Torn at n was left

-- the gate at that place is closed
pub record IsClosed (gate : ℕ) (bytes : List ℕ) : Type 0 where
  pub within : gate < length bytes
  pub closed : get_or bytes gate 1 ≡ 0

-- the same bytes up to the closed gate, and any after it
abbrev pub IsShut : ℕ → List ℕ → List ℕ → Type 0
IsShut gate bytes left = take (gate + 1) left ≡ take (gate + 1) bytes

-- the same bytes up to the gate, which is open, then the frame, and any bytes after it
abbrev pub IsOpened : ℕ → List ℕ → List ℕ → List ℕ → Type 0
IsOpened gate frame bytes left = (byte : ℕ) × (rest : List ℕ) × (byte ≢ 0) × (left ≡ take gate bytes ++ byte ∷ (frame ++ rest))

-- all of the frame is there, or none of it
abbrev pub IsShutOrOpened : ℕ → List ℕ → List ℕ → List ℕ → Type 0
IsShutOrOpened gate frame bytes left = IsShut gate bytes left ⊎ IsOpened gate frame bytes left

-- the frame after the gate, which the log's own write opens
abbrev pub IsWhole : ℕ → List ℕ → List ℕ → List ℕ → Type 0
IsWhole gate frame bytes now = (rest : List ℕ) × (now ≡ take gate bytes ++ 1 ∷ (frame ++ rest))
