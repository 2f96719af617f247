-- The names of the maps, and dropping a map by its name.
use Rattle.std.specs.Prelude.{◌≡◌, ◌≢◌, ◌⊎◌, ℕ, Bool, true, false, List, [], map, Option, Some, None, Result, Ok, Err, slice_get, slice_set, ⊤}
use Rattle.std.specs.List.{All}
use Rattle.std.specs.Option.{option_map}
use Rattle.std.specs.Global.{Vec}
use Rattle.sled_base.specs.Order.{Bytes}
use Rattle.sled_log.specs.Contents.{Content, Free, Roots, Update}
use Rattle.sled_log.specs.Events.{Event}
use Rattle.sled_node.specs.Meta as meta
use Rattle.sled_node.specs.Node.{WholeNode}
use Rattle.sled_pagecache.specs.Limits.{meta_pid}
use Rattle.sled_pagecache.specs.State.{State, Token, contents_of}
use Rattle.sled_pagecache.specs.Step.{Swapped}
use Rattle.sled_search.specs.Maps.{HasTree, IsOff, Reaches, without_map}
use Rattle.sled_search.specs.Search.{HasNodeAt, LeadsTo}
use Rattle.sled_tree.specs.Changed.{Ends, EndsSwap}
use Rattle.sled_tree.specs.Maps.{root_of, Follows, Stays, StaysUnlessFaulty, Turns}
use Rattle.sled_tree.specs.Named.{Named, AreNamed}
use Rattle.sled_tree.specs.declared.freeing.Stop.{Stop}
use Rattle.sled_tree.specs.declared.freeing.Way.{Way}
use Rattle.sled_tree.specs.declared.freeing.Way.TheVariants.{On, End}
use Rattle.sled_tree.specs.declared.trees.Tree.{Tree}

-- ---- names

abbrev pub names_of : meta.Roots → List Bytes
names_of roots = map (λ root. root.0) roots

-- the answer is the names that the maps have, in their order
abbrev pub AreNamesOf : List Content → Vec Bytes → Type 0
AreNamesOf pages answer = (w : Named) → AreNamed pages w → answer.items ≡ names_of w.names

-- the name has this root, or none
abbrev pub IsRootOf : Bytes → List Content → Option ℕ → Type 0
IsRootOf name pages root = (w : Named) → AreNamed pages w → root ≡ meta.root_of name w.names

-- this is the map of the name: the one with its root, or none if it has no root
abbrev pub IsMapOf : Bytes → List Content → Option Tree → Type 0
IsMapOf name pages tree = IsRootOf name pages (option_map root_of tree)

-- ---- dropping

-- the names and maps without this name, and without the map at its root
abbrev pub without : Bytes → ℕ → Named → Named
without name root w = record { names = meta.without_root name w.names; maps = without_map root w.maps }

-- the root of the name, if it has one, is that of a map
abbrev pub HasMap : Bytes → Named → Type 0
HasMap name w = (root : ℕ) → meta.root_of name w.names ≡ Some root → HasTree w.maps root

-- What dropping the map of a name returns: whether there was one. Then the map and its name are gone, and the others stay. After an error
-- everything stays; but if a write failed, the drop may have been written.
abbrev pub Drops : {E : Type 0} → Bytes → Result Bool E → State → List (Event Update) → State → Named → Type 0
Drops name (Ok true) s events t w = (root : ℕ) × (meta.root_of name w.names ≡ Some root) × Turns s w events (without name root w) t
Drops name (Ok false) s events t w = (meta.root_of name w.names ≡ None) × Stays s w events t
Drops name (Err e) s events t w = Stays s w events t ⊎ ((root : ℕ) × (meta.root_of name w.names ≡ Some root) × StaysUnlessFaulty s w events (without name root w) t)

-- For all maps and names of the pages, in which this name has a map if it has a root: the call drops that map.
pub record DropsMap {E : Type 0} (name : Bytes) (result : Result Bool E) (s : State) (events : List (Event Update)) (t : State) : Type 0 where
  pub follows : Follows s events t
  pub does : (w : Named) → AreNamed (contents_of s) w → HasMap name w → Drops name result s events t w

-- The call removes the name, which has this root; or it is refused.
pub record Unnames {T E : Type 0} (name : Bytes) (root : ℕ) (result : Result T E) (s : State) (events : List (Event Update)) (t : State) : Type 0 where
  pub follows : Follows s events t
  pub ends : (roots : meta.Roots) → slice_get (contents_of s) meta_pid ≡ Some (Roots roots) → meta.root_of name roots ≡ Some root
      → Ends result s (slice_set (contents_of s) meta_pid (Roots (meta.without_root name roots))) events t

-- ---- its pages

-- searches from the root reach each of these pages
abbrev pub AreReached : ℕ → List Token → List Content → Type 0
AreReached root found pages = All (λ token. Reaches pages root token.pid) found

-- the node leads the key to the page where the search continues
abbrev pub LeadsOn : Bytes → WholeNode → Way → Type 0
LeadsOn key n (On page) = LeadsTo n key page
LeadsOn key n (End end) = ⊤

-- what a search that collects pages finds at a page
pub record IsStopAt (pages : List Content) (key : Bytes) (pid : ℕ) (stop : Stop) : Type 0 where
  pub token : stop.token.pid ≡ pid
  pub way : HasNodeAt pages pid (λ n. LeadsOn key n stop.way)

-- the call frees the page; or it is refused
pub record Frees (page : Token) (s : State) (events : List (Event Update)) (t : State) : Type 0 where
  pub stuck : s.fault ≡ true → (events ≡ []) × (t ≡ s)
  pub answer : Swapped (Unit {0})
  pub ends : EndsSwap answer s (slice_set (contents_of s) page.pid Free) events t

-- no search reaches any of these pages, and none of them is the page of the names
abbrev pub AreLoose : List Token → List Content → Named → Type 0
AreLoose tokens pages w = All (λ token. (token.pid ≢ meta_pid) × IsOff pages w.maps token.pid) tokens
