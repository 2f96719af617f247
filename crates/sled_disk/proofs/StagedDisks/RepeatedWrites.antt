-- Bytes that were read of a staged disk and are written again.
use Rattle.std.proofs.Common.{◌≡◌, ℕ, ◌+◌, ◌≤◌, List, [], ◌∷◌, ◌++◌, length, take, drop, sym, ◌∙◌, ap, subst, arith}
use Rattle.std.proofs.lemmas.List.{ext_get_or, get_or-drop, get_or-take, length-drop, length-take-le}
use Rattle.sled_disk.specs.StagedReads.{ArePieces, IsThere, StandOver, StandsAt, seen_in}
use Rattle.sled_disk.specs.Journal.{Again}
use Rattle.sled_disk.specs.Staged.{ReadsOver, StaysOver, seen_over, waiting}
use Rattle.sled_disk.specs.Tasks.{tasks_in}
use Rattle.sled_disk.specs.declared.disk.callers_file.CallersFile.{Ghosts}
use Rattle.sled_disk.specs.declared.disk.staged.StagedDisk.{StagedDisk}
use Rattle.sled_disk.specs.declared.disk.staged.stage.Stage.{Stage}
use Rattle.sled_disk.proofs.StagedDisks.StagedReads.{seen-again, still-again}

-- What stands at a place of a file is there.
there-stands : (seen : List ℕ) (at : ℕ) (bytes : List ℕ) → at + length bytes ≤ length seen → StandsAt at bytes seen → IsThere at bytes seen
there-stands seen at bytes fits stands =
    let n = length bytes in
    let behind : n ≤ length (drop at seen) = omega (arith, fits, length-drop at seen) in
    sym (ext_get_or 0 bytes (take n (drop at seen)) (sym (length-take-le n (drop at seen) behind))
    (λ i less. stands i less ∙ sym (get_or-drop at seen i 0) ∙ sym (get_or-take n (drop at seen) i 0 less)))

-- Behind a read of these bytes, and their write, a read is to give the same.
pub again-over : {F : Type 0} {g : Ghosts F} (file : List ℕ) (old mid : StagedDisk F g) (stage : Stage) (at : ℕ) (bytes : List ℕ) → StaysOver file old mid → at + length bytes ≤ length (seen_over file old) → ReadsOver file old at bytes
    → tasks_in stage.tasks ≡ waiting mid ++ Again at bytes ∷ [] → stage.pieces ≡ mid.stage.pieces → StandOver file stage mid.len × (seen_in file stage.tasks ≡ seen_over file old)
again-over file old mid stage at bytes stays fits read added same =
    let there : IsThere at bytes (seen_over file mid) = subst (IsThere at bytes) (sym stays.seen) (there-stands (seen_over file old) at bytes fits read) in
    let seen : seen_in file stage.tasks ≡ seen_over file mid = seen-again file (waiting mid) (tasks_in stage.tasks) at bytes added in
    let over = stays.over in (
      record {
        within = still-again file (waiting mid) (tasks_in stage.tasks) at bytes added over.within there;
        pieces = subst (λ pieces. ArePieces pieces (seen_in file stage.tasks)) (sym same) (subst (ArePieces mid.stage.pieces) (sym seen) over.pieces);
        len = over.len ∙ ap length (sym seen);
      },
      seen ∙ stays.seen,
    )
