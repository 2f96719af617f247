-- Pages, and the table of them, as types of their own.
use Rattle.std.specs.Prelude.{◌≡◌, Bool, true, false, List, ◌∷◌, map, slice_get, Some}
use Rattle.sled_base.specs.declared.types.page_state.PageState.{PageState}
use Rattle.sled_base.specs.declared.types.page_state.PageState.TheVariants as said
use Rattle.sled_pagecache.specs.Infos.{place_of, place_of_freeing}
use Rattle.sled_pagecache.specs.declared.pagecache.table.page_entry.PageContent.{PageContent}
use Rattle.sled_pagecache.specs.declared.pagecache.table.page_entry.PageContent.TheVariants.{Free, OnLog, Counter, Roots, Node}
use Rattle.sled_pagecache.specs.declared.pagecache.table.page_entry.Page.{Page}

abbrev pub is_free : PageContent → Bool
is_free Free = true
is_free OnLog = false
is_free (Counter n) = false
is_free (Roots roots) = false
is_free (Node node) = false

-- A free page is reported by the place of the first of its messages, which freed it; any other page by the places of all its messages.
abbrev pub IsSaidBy : Page → PageState → Type 0
IsSaidBy page (said.Present base frags) = (is_free page.kept ≡ false) × (map place_of page.infos.items ≡ base ∷ frags.items)
IsSaidBy page (said.Free lsn pointer) = (is_free page.kept ≡ true) × (slice_get (map place_of_freeing page.infos.items) 0 ≡ Some (lsn, pointer))

-- the pages by their ids, and whether one more page can be added without allocating
pub record TableView : Type 0 where
  pub pages : List Page
  pub room : Bool
