-- What is left of a log over which no cache was opened, and of a cache that keeps a write fault: for laws on openings one after another.
use Rattle.sled_pagecache.proofs.Names.{◌≡◌, ◌≤◌, ℕ, None, Some, Ok, arith, Ghosts, Why, fault_of, Cache, Started, Config, HoldsCrash}

-- the settings are wrong, or sound
pub by-settings : {P : Type 0} (config : Config) → ((why : Why) → fault_of config ≡ Some why → P) → (fault_of config ≡ None → P) → P
by-settings config wrong sound = grind arith

module _ {L : Type 0} (g : Ghosts L) where
  -- those of a cache that was opened are sound
  pub sound-settings : (l : L) (config : Config) (first : Cache L) → Started g l config (Ok first) → fault_of config ≡ None
  sound-settings l config first started = by-settings config (λ why wrong. let e = started.settings why wrong in absurd cc) (λ sound. sound)

  -- a crash that comes later comes since
  pub crash-since : (crashed left : L) (since later : ℕ) → since ≤ later → HoldsCrash g crashed later left → HoldsCrash g crashed since left
  crash-since crashed left since later le crash = record { at = crash.at; later = let more = crash.later in omega (arith, le, more); pages = crash.pages; left = crash.left; holds = crash.holds }
