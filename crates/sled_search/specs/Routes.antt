-- Where a node leads a search.
use Rattle.std.specs.Prelude.{ℕ}
use Rattle.std.specs.declared.ops.Bound.{Bound}
use Rattle.sled_base.specs.Order.{Bytes}
use Rattle.sled_node.specs.Node.{WholeNode}
use Rattle.sled_search.specs.Ordered.{IsLeafBefore, LeadsDownBefore, LeadsRightBefore, IsAstrayBefore}
use Rattle.sled_search.specs.Search.{LeadsDown, LeadsRight, LeadsTo, IsLeafOf}
use Rattle.sled_search.specs.declared.turns.Turn.{Turn}
use Rattle.sled_search.specs.declared.turns.Turn.TheVariants.{Here, Down, Right, Astray}

-- the node is not a leaf of the key, and leads it nowhere
abbrev pub IsAstray : Bytes → WholeNode → Type 0
IsAstray key n = (¬ IsLeafOf key n) × ((page : ℕ) → LeadsTo n key page → ⊥)

abbrev pub Routes : Bytes → Turn → WholeNode → Type 0
Routes key Here n = IsLeafOf key n
Routes key (Down page) n = LeadsDown n key page
Routes key (Right page) n = LeadsRight n key page
Routes key Astray n = IsAstray key n

-- the same for the keys just before a bound
abbrev pub RoutesBefore : Bound Bytes → Turn → WholeNode → Type 0
RoutesBefore bound Here n = IsLeafBefore bound n
RoutesBefore bound (Down page) n = LeadsDownBefore n bound page
RoutesBefore bound (Right page) n = LeadsRightBefore n bound page
RoutesBefore bound Astray n = IsAstrayBefore bound n
