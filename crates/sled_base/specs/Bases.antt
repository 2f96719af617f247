-- What several strings may share.
use Rattle.std.specs.Prelude.{ℕ, List, take, drop}
use Rattle.std.specs.Arc.{arc_value}
use Rattle.std.specs.declared.sync.Arc.{Arc}
use Rattle.std.specs.declared.vec.Vec.{Vec}

module _ {A B : Type 0} where
  -- `len` bytes of a shared list, from `offset` on
  abbrev pub bytes_at : Arc (Vec ℕ A) B → ℕ → ℕ → List ℕ
  bytes_at base offset len = take len (drop offset (arc_value base).items)
