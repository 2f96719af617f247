-- Several trees in the same pages, and the map of each.
use Rattle.std.specs.Prelude.{◌≡◌, ◌≢◌, ℕ, ◌==◌, List, Option, Some, None, slice_get, if◌then◌else◌}
use Rattle.sled_base.specs.Order.{Bytes}
use Rattle.sled_log.specs.Contents.{Content}
use Rattle.sled_search.specs.Map.{Map}
use Rattle.sled_search.specs.Orderly.{IsOrderly}
use Rattle.sled_search.specs.Search.{Goes, IsTreeOf}

-- the map of each root that has a tree
abbrev pub Maps : Type 0
Maps = ℕ → Option Map

abbrev pub HasTree : Maps → ℕ → Type 0
HasTree maps root = (m : Map) × (maps root ≡ Some m)

-- no root has a tree
abbrev pub no_maps : Maps
no_maps root = None

-- the maps, but with this map at a root, or with none there
abbrev pub with_map : ℕ → Map → Maps → Maps
with_map root m maps other = if other == root then Some m else maps other

abbrev pub without_map : ℕ → Maps → Maps
without_map root maps other = if other == root then None else maps other

-- some search from the root reaches the page
abbrev pub Reaches : List Content → ℕ → ℕ → Type 0
Reaches pages root page = (key : Bytes) × (turns : ℕ) × Goes pages key turns root page

pub record AreTrees (pages : List Content) (maps : Maps) : Type 0 where
  pub each : (root : ℕ) (m : Map) → maps root ≡ Some m → IsTreeOf pages root m
  -- no page is reached from two roots
  pub apart : (a b : ℕ) → HasTree maps a → HasTree maps b → a ≢ b → (page : ℕ) → Reaches pages a page → Reaches pages b page → ⊥
  pub orderly : (root : ℕ) → HasTree maps root → IsOrderly pages root

-- no search from a root ever reaches the page
abbrev pub IsOff : List Content → Maps → ℕ → Type 0
IsOff pages maps page = (root : ℕ) → HasTree maps root → Reaches pages root page → ⊥

-- all pages except page p stay as they are
abbrev pub ChangesOne : List Content → ℕ → List Content → Type 0
ChangesOne pages p changed = (pid : ℕ) → pid ≢ p → slice_get changed pid ≡ slice_get pages pid
