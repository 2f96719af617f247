-- The contents of the pages, by id, and what changes make of them.
use Rattle.std.specs.Prelude.{ℕ, ◌==◌, List, [], ◌∷◌, ◌++◌, length, slice_set, slice_index_or, if◌then◌else◌}
use Rattle.sled_base.specs.declared.kinds.LogKind.{LogKind}
use Rattle.sled_base.specs.declared.kinds.LogKind.TheVariants as kinds
use Rattle.sled_node.specs.Links.{applied}
use Rattle.sled_node.specs.Meta as meta
use Rattle.sled_node.specs.Node.{WholeNode}
use Rattle.sled_node.specs.declared.node.link.Link.{Link as NodeLink}
use Rattle.sled_log.specs.Events.{Event, Change, Pin, Seal, Cancel}

-- What a page holds: nothing, the counter of generated ids, the named roots, or a node. It is damaged if its messages make none
-- of these.
pub data Content : Type 0 where
  Free : Content
  Counter : (n : ℕ) → Content
  Roots : (roots : meta.Roots) → Content
  Node : (node : WholeNode) → Content
  Damaged : Content

-- what a change does to a page: it puts a content on it, or applies a link to its node
pub data Update : Type 0 where
  Put : (content : Content) → Update
  Link : (link : NodeLink) → Update

-- a content after a link, which changes only a node
abbrev pub after_link : NodeLink → Content → Content
after_link link Free = Free
after_link link (Counter n) = Counter n
after_link link (Roots roots) = Roots roots
after_link link (Node node) = Node (applied link node)
after_link link Damaged = Damaged

-- The contents after one change. If the id equals their number, this makes a new page; a greater id changes nothing.
abbrev pub contents_with : List Content → ℕ → Update → List Content
contents_with contents id (Put content) = if id == length contents then contents ++ content ∷ [] else slice_set contents id content
contents_with contents id (Link link) = slice_set contents id (after_link link (slice_index_or contents id Free))

-- the contents after one event; a mark changes none
abbrev pub contents_from : List Content → Event Update → List Content
contents_from contents (Change id update) = contents_with contents id update
contents_from contents Pin = contents
contents_from contents Seal = contents
contents_from contents Cancel = contents

-- the contents after events, in order
abbrev pub contents_after : List Content → List (Event Update) → List Content
contents_after contents [] = contents
contents_after contents (event ∷ events) = contents_after (contents_from contents event) events

-- ---- the content of one page, by its chain

-- what an update does to its page
abbrev pub effect_of_update : Update → LogKind
effect_of_update (Put Free) = kinds.Free
effect_of_update (Put (Counter n)) = kinds.Replace
effect_of_update (Put (Roots roots)) = kinds.Replace
effect_of_update (Put (Node node)) = kinds.Replace
effect_of_update (Put Damaged) = kinds.Replace
effect_of_update (Link link) = kinds.Link

-- a content after the links of these updates
abbrev pub after_links : Content → List Update → Content
after_links content [] = content
after_links content (Link link ∷ updates) = after_links (after_link link content) updates
after_links content (Put other ∷ updates) = after_links content updates

-- the content that begins a chain, after the links that follow it
abbrev pub content_of : List Update → Content
content_of [] = Free
content_of (Put content ∷ updates) = after_links content updates
content_of (Link link ∷ updates) = Free
