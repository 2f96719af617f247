-- Which links a node accepts, and what they do to it.
use Rattle.std.specs.Prelude.{◌≡◌, ℕ, ◌<◌, ◌≤◌, true, false, ◌==◌, List, [], ◌∷◌, length, Option, Some, None, Any, ⊤, if◌then◌else◌}
use Rattle.sled_base.specs.Order.{Bytes}
use Rattle.sled_node.specs.declared.node.link.Link.{Link}
use Rattle.sled_node.specs.declared.node.link.Link.TheVariants.{Set, Del, ParentMergeIntention, ParentMergeConfirm, ChildMergeCap}
use Rattle.sled_node.specs.Pairs.{IsWithinLimit, set_pair, del_pair}
use Rattle.sled_node.specs.Node.{Item, Value, Child, WholeNode, whole, IsInRange}
use Rattle.sled_node.specs.Limits.{pairs_limit}

-- a pair leads to the child that is being merged
abbrev pub LeadsToMerging : Option ℕ → List (Bytes × Item) → Type 0
LeadsToMerging None pairs = ⊥
LeadsToMerging (Some page) pairs = Any (λ pair. pair.1 ≡ Child page) pairs

-- whether a node accepts the link, apart from the node's own mark
abbrev pub AcceptsHere : WholeNode → Link → Type 0
AcceptsHere n (Set key value) = (n.is_index ≡ false) × IsInRange n (whole n key) × IsWithinLimit (whole n key) × IsWithinLimit value × (length (set_pair (whole n key) (Value value) n.pairs) ≤ pairs_limit)
AcceptsHere n (Del key) = (n.is_index ≡ false) × IsWithinLimit (whole n key)
AcceptsHere n (ParentMergeIntention page) = (0 < page) × (n.child ≡ None)
AcceptsHere n ParentMergeConfirm = (n.is_index ≡ true) × LeadsToMerging n.child n.pairs
AcceptsHere n ChildMergeCap = ⊤

-- whether a node accepts the link: one that is being merged accepts none
abbrev pub Accepts : WholeNode → Link → Type 0
Accepts n link = (n.capped ≡ false) × AcceptsHere n link

-- the pairs without the first that leads to the page
abbrev pub without_child : ℕ → List (Bytes × Item) → List (Bytes × Item)
without_child page [] = []
without_child page ((key, Value value) ∷ pairs) = (key, Value value) ∷ without_child page pairs
without_child page ((key, Child other) ∷ pairs) = if other == page then pairs else (key, Child other) ∷ without_child page pairs

abbrev pub without_merged : Option ℕ → List (Bytes × Item) → List (Bytes × Item)
without_merged None pairs = pairs
without_merged (Some page) pairs = without_child page pairs

-- applying the link allocates nothing: only setting a pair may need memory
abbrev pub AllocatesNothing : Link → Type 0
AllocatesNothing (Set key value) = ⊥
AllocatesNothing (Del key) = ⊤
AllocatesNothing (ParentMergeIntention page) = ⊤
AllocatesNothing ParentMergeConfirm = ⊤
AllocatesNothing ChildMergeCap = ⊤

-- the node with the link applied
abbrev pub applied : Link → WholeNode → WholeNode
applied (Set key value) n = record n { pairs = set_pair (whole n key) (Value value) n.pairs }
applied (Del key) n = record n { pairs = del_pair (whole n key) n.pairs }
applied (ParentMergeIntention page) n = record n { child = Some page }
applied ParentMergeConfirm n = record n { pairs = without_merged n.child n.pairs; child = None }
applied ChildMergeCap n = record n { capped = true }
