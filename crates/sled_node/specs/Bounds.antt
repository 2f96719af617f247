-- Whether the end of a range of keys is within the range of a node.
use Rattle.std.specs.Prelude.{◌≡◌, ◌⊎◌, Bool, true, false, []}
use Rattle.std.specs.declared.ops.Bound.{Bound}
use Rattle.std.specs.declared.ops.Bound.TheVariants.{Included, Excluded, Unbounded}
use Rattle.sled_base.specs.Order.{Bytes, IsBelow, IsAtMost}
use Rattle.sled_node.specs.Node.{WholeNode}

-- an upper end. For an excluded key hi is not below it, or is empty. For an included key hi is above it, or is empty.
-- Without a key hi is empty.
abbrev pub ContainsUpper : WholeNode → Bound Bytes → Type 0
ContainsUpper n (Excluded key) = IsAtMost key n.hi ⊎ (n.hi ≡ [])
ContainsUpper n (Included key) = IsBelow key n.hi ⊎ (n.hi ≡ [])
ContainsUpper n Unbounded = n.hi ≡ []

-- a lower end. For an excluded key lo is below it, or is empty, or, going forward, is that key. For an included key lo is not
-- above it. Without a key lo is empty going forward, and hi is empty going backward.
abbrev pub ContainsLower : WholeNode → Bool → Bound Bytes → Type 0
ContainsLower n forward (Excluded key) = IsBelow n.lo key ⊎ ((forward ≡ true) × (n.lo ≡ key)) ⊎ (n.lo ≡ [])
ContainsLower n forward (Included key) = IsAtMost n.lo key
ContainsLower n true Unbounded = n.lo ≡ []
ContainsLower n false Unbounded = n.hi ≡ []
