-- What a search for a key finds at a page, and where it ends.
use Rattle.std.specs.Prelude.{◌≡◌, ℕ, true, List, [], Option, Some, Result, IfOk, slice_get, slice_set, ⊤}
use Rattle.sled_base.specs.Order.{Bytes}
use Rattle.sled_log.specs.Contents.{Content}
use Rattle.sled_node.specs.Node.{WholeNode, whole}
use Rattle.sled_search.specs.Maps.{HasTree, Reaches}
use Rattle.sled_search.specs.Search.{HasNodeAt, LeadsTo, Answers, Goes}
use Rattle.sled_log.specs.Contents.{Node, Update}
use Rattle.sled_log.specs.Events.{Event}
use Rattle.sled_node.specs.Links.{applied}
use Rattle.sled_node.specs.declared.node.link.Link.{Link as NodeLink}
use Rattle.sled_pagecache.specs.State.{State, Token, contents_of}
use Rattle.sled_tree.specs.Changed.{Ends}
use Rattle.sled_tree.specs.Maps.{Keeps}
use Rattle.sled_tree.specs.Named.{Named}
use Rattle.sled_tree.specs.declared.walk.Sight.{Sight}
use Rattle.sled_tree.specs.declared.walk.Sight.TheVariants.{Value, On}
use Rattle.sled_tree.specs.declared.place.Look.{Look}
use Rattle.sled_tree.specs.declared.place.Look.TheVariants.{Here, Full, Down, Right}
use Rattle.sled_tree.specs.declared.place.Met.{Met}
use Rattle.sled_tree.specs.declared.place.Met.TheVariants as met
use Rattle.sled_tree.specs.declared.place.Place.{Place}

-- the value that the leaf has at the key, or the page that the node leads the key to
abbrev pub Shows : Bytes → Sight → WholeNode → Type 0
Shows key (Value value) n = Answers key value n
Shows key (On page) n = LeadsTo n key page

-- the search goes from the one page to the other
abbrev pub Leads : List Content → Bytes → ℕ → ℕ → Type 0
Leads pages key from to = (turns : ℕ) × Goes pages key turns from to

-- the search goes from a page to a second one, and on to a third
abbrev pub LeadsBy : List Content → Bytes → ℕ → ℕ → ℕ → Type 0
LeadsBy pages key from by to = Leads pages key from by × Leads pages key by to

-- the leaf of the key has this value at the key, or none, and stores the key in this form
abbrev pub HasPlace : Bytes → Bytes → Option Bytes → WholeNode → Type 0
HasPlace key stored value n = Answers key value n × (whole n stored ≡ key)

-- what looking at a node shows, whose page has this token; nothing is said if the node is full
abbrev pub Says : Token → Bytes → WholeNode → Look → Type 0
Says token key n (Here place) = (place.token ≡ token) × HasPlace key place.stored place.value n
Says token key n Full = ⊤
Says token key n (Down page) = LeadsTo n key page
Says token key n (Right page) = LeadsTo n key page

-- the place is in this leaf
pub record IsPlaceIn (pages : List Content) (key : Bytes) (leaf : ℕ) (place : Place) : Type 0 where
  pub leaf_is : place.token.pid ≡ leaf
  pub has : HasNodeAt pages leaf (HasPlace key place.stored place.value)

-- the place is in the leaf that the search for the key from the root comes to
pub record IsPlaceOf (pages : List Content) (root : ℕ) (key : Bytes) (place : Place) : Type 0 where
  pub leads : Leads pages key root place.token.pid
  pub has : HasNodeAt pages place.token.pid (HasPlace key place.stored place.value)

-- what looking at a page shows of the key; nothing is said if the node is full
abbrev pub Tells : List Content → Bytes → ℕ → Look → Type 0
Tells pages key pid (Here place) = IsPlaceIn pages key pid place
Tells pages key pid Full = ⊤
Tells pages key pid (Down page) = HasNodeAt pages pid (λ n. LeadsTo n key page)
Tells pages key pid (Right page) = HasNodeAt pages pid (λ n. LeadsTo n key page)

-- What a search for room met: the place; or a page that it came to by way of the first one.
abbrev pub Meets : List Content → ℕ → Bytes → Met → Type 0
Meets pages root key (met.Leaf place) = IsPlaceOf pages root key place
Meets pages root key (met.Full above page) = LeadsBy pages key root above page
Meets pages root key (met.Unled above page) = LeadsBy pages key root above page

-- ---- for several maps

-- one of the maps has this root
abbrev pub HasRoot : ℕ → List Content → Named → Type 0
HasRoot root pages w = HasTree w.maps root

-- a search from one of their roots reaches the page
abbrev pub IsReached : ℕ → List Content → Named → Type 0
IsReached page pages w = (root : ℕ) × HasTree w.maps root × Reaches pages root page

-- such a search comes to the page by way of the page above
pub record IsMet (above page : ℕ) (pages : List Content) (w : Named) : Type 0 where
  pub root : ℕ
  pub has : HasTree w.maps root
  pub key : Bytes
  pub leads : LeadsBy pages key root above page

-- ---- changes

-- The call applies the link to the leaf of the place; or it is refused.
pub record LinksPlace {T E : Type 0} (place : Place) (link : NodeLink) (result : Result T E) (s : State) (events : List (Event Update)) (t : State) : Type 0 where
  pub stuck : s.fault ≡ true → (events ≡ []) × (t ≡ s)
  pub ends : (n : WholeNode) → slice_get (contents_of s) place.token.pid ≡ Some (Node n) → Ends result s (slice_set (contents_of s) place.token.pid (Node (applied link n))) events t

-- If one of the maps has this root, all maps stay as they are; and the place is that of the key.
abbrev pub MakesRoom : {E : Type 0} → ℕ → Bytes → Result Place E → State → List (Event Update) → State → Type 0
MakesRoom root key result s events t = Keeps (HasRoot root) s events t × IfOk result (IsPlaceOf (contents_of t) root key)
