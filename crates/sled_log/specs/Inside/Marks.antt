-- The marks of a log that knows no more of its events than whether a batch is open.
use Rattle.std.proofs.Common.{◌≡◌, refl, Bool, true, false, List, [], ◌∷◌}
use Rattle.sled_log.specs.Events.{is_open, Event, Pin}
use Rattle.sled_log.specs.Messages.{Entry}

abbrev pub marks : Bool → List (Event Entry)
marks true = Pin ∷ []
marks false = []

pub marks-open : (batch : Bool) → is_open (marks batch) ≡ batch
marks-open true = refl
marks-open false = refl

pub marks-closed : (batch : Bool) → is_open (marks batch) ≡ false → marks batch ≡ []
marks-closed true is = cc
marks-closed false is = refl
