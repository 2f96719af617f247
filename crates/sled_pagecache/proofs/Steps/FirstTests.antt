-- The tests that a call of a page begins with: no write fault is kept, and the id isn't reserved.
use Rattle.sled_pagecache.proofs.Names.{◌≡◌, ℕ, true, false, Result, Err, refl, Write, Error, Unsupported, ReservedId, State, is_reserved, Outcome, UnlessFaulty, UnlessReserved, no_change}
use Rattle.sled_base.specs.declared.types.Error.TheVariants.{Io}

module _ {T : Type 0} (s : State) (pid : ℕ) (P : Result T Error → Outcome → Type 0) where
  -- a call of a page, that goes on so
  abbrev pub Tests : Result T Error → Outcome → Type 0
  Tests answer out = UnlessFaulty s answer out (UnlessReserved s pid answer out (P answer out))

  -- both are passed
  pub passes : (answer : Result T Error) (out : Outcome) → s.fault ≡ false → is_reserved pid ≡ false → P answer out → Tests answer out
  passes answer out clear free h = rw (clear, free) h

  -- a write fault is kept
  pub stuck-passes : s.fault ≡ true → Tests (Err (Io Write)) (no_change s)
  stuck-passes kept = rw kept (refl, refl)

  -- the id is reserved
  pub reserved-passes : s.fault ≡ false → is_reserved pid ≡ true → Tests (Err (Unsupported ReservedId)) (no_change s)
  reserved-passes clear own = rw (clear, own) (refl, refl)
