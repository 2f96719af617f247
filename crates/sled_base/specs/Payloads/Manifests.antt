-- How the mark of a batch is encoded: as the place that it holds.
use Rattle.std.specs.Prelude.{ℕ, ℤ, List}
use Rattle.std.specs.Int.{w64}
use Rattle.std.specs.Int.RustNames.{FitsSigned}
use Rattle.sled_base.specs.declared.types.BatchManifest.{BatchManifest}
use Rattle.sled_base.specs.Payloads.Numbers.{ReadsI64, written_i64}

-- the place that the mark holds
abbrev pub place_in : BatchManifest → ℤ
place_in mark = mark.0

abbrev pub ReadsManifest : List ℕ → BatchManifest → List ℕ → Type 0
ReadsManifest input mark rest = ReadsI64 input (place_in mark) rest

abbrev pub written_manifest : BatchManifest → List ℕ
written_manifest mark = written_i64 (place_in mark)

abbrev pub CanWriteManifest : BatchManifest → Type 0
CanWriteManifest mark = FitsSigned w64 (place_in mark)
