-- What a disk states about its tasks and pieces are propositions, as a ghost field requires.
use Rattle.std.specs.Prelude.{◌≡◌, ℕ, List, [], ◌∷◌, length}
use Rattle.std.proofs.Props.{props}
use Rattle.sled_disk.specs.Disk.{overlaid}
use Rattle.sled_disk.specs.StagedReads.{AreWithin, ArePieces, StandOver, seen_in}
use Rattle.sled_disk.specs.Journal.{DiskCall, Write, Again, Sync}
use Rattle.sled_disk.specs.Tasks.{tasks_in}
use Rattle.sled_disk.specs.declared.disk.staged.stage.Stage.{Stage}

within-prop : (file : List ℕ) (calls : List DiskCall) → IsProp (AreWithin file calls)
within-prop file [] = hlevel props
within-prop file (Write at bytes ∷ later) = hlevel (within-prop (overlaid file at bytes) later, props)
within-prop file (Again at bytes ∷ later) = hlevel (within-prop file later, props)
within-prop file (Sync ∷ later) = within-prop file later

stand-prop : (file : List ℕ) (stage : Stage) (size : ℕ) → IsProp (StandOver file stage size)
stand-prop file stage size x y =
    let within = within-prop file (tasks_in stage.tasks) in
    let pieces : IsProp (ArePieces stage.pieces (seen_in file stage.tasks)) = hlevel props in
    let long : IsProp (size ≡ length (seen_in file stage.tasks)) = hlevel props in
    λ i. record { within = within x.within y.within i; pieces = pieces x.pieces y.pieces i; len = long x.len y.len i }

pub stand_over-prop : (tells : Type 0) (file : List ℕ) (stage : Stage) (size : ℕ) → IsProp (tells → StandOver file stage size)
stand_over-prop tells file stage size = hlevel (stand-prop file stage size, props)
