-- Which whole keys are after a bound, which are before it, and the nearest of them.
use Rattle.std.specs.Prelude.{ℕ, ◌≤◌, List, length, take, drop, ⊤}
use Rattle.std.specs.List.{AllByRecursion}
use Rattle.std.specs.declared.ops.Bound.{Bound}
use Rattle.std.specs.declared.ops.Bound.TheVariants.{Included, Excluded, Unbounded}
use Rattle.sled_base.specs.Order.{Bytes, IsBelow, IsAtMost}
use Rattle.sled_node.specs.Node.{WholeNode}
use Rattle.sled_node.specs.Lookups.{HasValue}

-- above the bound, or equal to it if the bound is included; any key if there is no bound
abbrev pub IsBehind : Bound Bytes → Bytes → Type 0
IsBehind (Included bound) key = IsAtMost bound key
IsBehind (Excluded bound) key = IsBelow bound key
IsBehind Unbounded key = ⊤

-- below the bound, or equal to it if the bound is included; any key if there is no bound
abbrev pub IsBefore : Bound Bytes → Bytes → Type 0
IsBefore (Included bound) key = IsAtMost key bound
IsBefore (Excluded bound) key = IsBelow key bound
IsBefore Unbounded key = ⊤

-- the pair with the least of such keys
pub record IsLeast (IsSuch : Bytes → Type 0) (n : WholeNode) (pair : Bytes × Bytes) : Type 0 where
  pub there : HasValue n pair.0 pair.1
  pub such : IsSuch pair.0
  pub least : AllByRecursion (λ other. IsSuch other.0 → IsAtMost pair.0 other.0) n.pairs

-- the pair with the greatest of such keys
pub record IsGreatest (IsSuch : Bytes → Type 0) (n : WholeNode) (pair : Bytes × Bytes) : Type 0 where
  pub there : HasValue n pair.0 pair.1
  pub such : IsSuch pair.0
  pub greatest : AllByRecursion (λ other. IsSuch other.0 → IsAtMost other.0 pair.0) n.pairs

-- no pair has such a key
abbrev pub HasNone : (Bytes → Type 0) → WholeNode → Type 0
HasNone IsSuch n = AllByRecursion (λ pair. IsSuch pair.0 → ⊥) n.pairs

-- the first i pairs have keys of the first kind, and all others have keys of the other kind
pub record IsCount {V : Type 0} (IsFirst IsOther : Bytes → Type 0) (pairs : List (Bytes × V)) (i : ℕ) : Type 0 where
  pub within : i ≤ length pairs
  pub front : AllByRecursion (λ pair. IsFirst pair.0) (take i pairs)
  pub back : AllByRecursion (λ pair. IsOther pair.0) (drop i pairs)
