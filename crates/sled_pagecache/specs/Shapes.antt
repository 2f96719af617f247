-- A cache without the contents of its pages.
use Rattle.std.specs.Prelude.{◌≡◌, ℕ, zero, suc, Bool, true, false, List, map, Option, Some, None, slice_get}
use Rattle.sled_log.specs.Contents.{Content}
use Rattle.sled_log.specs.Contents as contents
use Rattle.sled_log.specs.declared.log.Log.{Ghosts}
use Rattle.sled_pagecache.specs.Logged.{AllById, Logged}
use Rattle.sled_pagecache.specs.Cache.{Cache, Represents}
use Rattle.sled_pagecache.specs.State.{StampedPage, State}
use Rattle.sled_pagecache.specs.declared.pagecache.handles.shape.Kind.{Kind}
use Rattle.sled_pagecache.specs.declared.pagecache.handles.shape.Kind.TheVariants as kinds
use Rattle.sled_pagecache.specs.declared.pagecache.handles.shape.PageShape.{PageShape}

-- the stamp and the kind of each page, the next generated id, and whether there was a write error
pub record Shape : Type 0 where
  pub pages : List PageShape
  pub next : ℕ
  pub fault : Bool

-- The kind of a content. Only reading a page shows whether it is damaged, so a damaged one counts as a node.
abbrev pub kind_of : Content → Kind
kind_of contents.Free = kinds.Free
kind_of (contents.Counter n) = kinds.Counter
kind_of (contents.Roots roots) = kinds.Roots
kind_of (contents.Node node) = kinds.Node
kind_of contents.Damaged = kinds.Node

abbrev pub shape_of_page : StampedPage → PageShape
shape_of_page page = record { stamp = page.stamp; kind = kind_of page.content }

abbrev pub shape_of : State → Shape
shape_of s = record { pages = map shape_of_page s.pages; next = s.next; fault = s.fault }

-- The kind of a page, by whether it is in memory and whether it has a node there. The cache's own pages come first. Any other page is free
-- if it is in memory without a node.
abbrev pub kind_at : ℕ → Option Bool → Option (Option ℕ) → Kind
kind_at zero _ _ = kinds.Roots
kind_at (suc zero) _ _ = kinds.Counter
kind_at (suc (suc pid)) (Some true) (Some None) = kinds.Free
kind_at (suc (suc pid)) _ _ = kinds.Node

-- The cache has this shape. After a write error nothing is known of what its pages hold.
pub record Shows {L : Type 0} (g : Ghosts L) (cache : Cache L) (shape : Shape) : Type 0 where
  pub stamps : map (λ page. page.stamp) shape.pages ≡ cache.stamps
  pub next : shape.next ≡ cache.next
  pub fault : shape.fault ≡ cache.fault
  pub kinds : AllById (λ pid page. page.kind ≡ kind_at pid (slice_get cache.resident pid) (slice_get cache.nodes pid)) shape.pages
  pub is : (held : Logged) (s : State) → Represents g cache held s → s.fault ≡ false → shape_of s ≡ shape
