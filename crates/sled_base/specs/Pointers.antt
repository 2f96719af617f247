-- The place of a message in a log.
use Rattle.std.specs.Prelude.{◌≡◌, ℕ, ℤ}
use Rattle.sled_base.specs.declared.types.DiskPtr.{DiskPtr}
use Rattle.sled_base.specs.declared.types.DiskPtr.TheVariants.{Inline, Blob}

abbrev pub offset_of : DiskPtr → ℕ
offset_of (Inline place) = place
offset_of (Blob place pointer) = place

abbrev pub IsBlob : DiskPtr → Type 0
IsBlob (Inline place) = ⊥
IsBlob (Blob place pointer) = Unit {0}

-- a blob at that place, with that pointer
abbrev pub IsBlobAt : DiskPtr → ℕ → ℤ → Type 0
IsBlobAt pointer place blob = pointer ≡ Blob place blob
