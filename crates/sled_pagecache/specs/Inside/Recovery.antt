-- Pages as they are recovered, and those that no cache leaves in that form.
use Rattle.std.specs.Prelude.{◌≡◌, ◌<◌, ◌&&◌, ◌||◌, ℕ, ℤ, Bool, true, false, List, [], ◌∷◌, length, map, nat_lt, slice_get, Some, IfSome}
use Rattle.sled_base.specs.declared.types.DiskPtr.{DiskPtr}
use Rattle.sled_base.specs.declared.types.page_state.PageState.{PageState}
use Rattle.sled_base.specs.declared.types.page_state.PageState.TheVariants as said
use Rattle.sled_log.specs.Limits.{head_size}
use Rattle.sled_pagecache.specs.Logged.{AllById}
use Rattle.sled_pagecache.specs.Limits.{most_messages}
use Rattle.sled_pagecache.specs.Table.{is_free}
use Rattle.sled_pagecache.specs.declared.pagecache.table.page_entry.CacheInfo.{CacheInfo}
use Rattle.sled_pagecache.specs.declared.pagecache.table.page_entry.PageContent.{PageContent}
use Rattle.sled_pagecache.specs.declared.pagecache.table.page_entry.PageContent.TheVariants.{Free, OnLog}
use Rattle.sled_pagecache.specs.declared.pagecache.table.page_entry.Page.{Page}

-- the place of a recovered message, as its page stores it
abbrev pub info_at : ℤ × DiskPtr × ℕ → CacheInfo
info_at place = record { ts = 0; lsn = place.0; pointer = place.1; log_size = place.2 }

-- the places of the messages of a page; one that frees it has no payload
abbrev pub places_in : PageState → List (ℤ × DiskPtr × ℕ)
places_in (said.Present base frags) = base ∷ frags.items
places_in (said.Free lsn pointer) = (lsn, pointer, head_size) ∷ []

-- what a page holds that was recovered and not yet read
abbrev pub page_content_by : PageState → PageContent
page_content_by (said.Present base frags) = OnLog
page_content_by (said.Free lsn pointer) = Free

-- the page as it is recovered from what a log reports of it
pub record IsRecovered (state : PageState) (page : Page) : Type 0 where
  pub stamp : page.stamp ≡ 0
  pub infos : page.infos.items ≡ map info_at (places_in state)
  pub kept : page.kept ≡ page_content_by state

-- Whether no cache leaves a page in this form at this id: it has more than 10 messages, or it is a system page that is free or has a link.
abbrev pub is_misfit : ℕ → Page → Bool
is_misfit pid page = nat_lt most_messages (length page.infos.items) || (nat_lt pid 2 && (is_free page.kept || nat_lt 1 (length page.infos.items)))

-- there is no such page
abbrev pub AllFit : List Page → Type 0
AllFit pages = AllById (λ pid page. is_misfit pid page ≡ false) pages

-- the pointer is that of the first message of the first such page, by id
pub record BeginsMisfit (pages : List Page) (pointer : DiskPtr) : Type 0 where
  pub pid : ℕ
  pub page : Page
  pub is : slice_get pages pid ≡ Some page
  pub misfit : is_misfit pid page ≡ true
  pub first : (before : ℕ) → before < pid → IfSome (slice_get pages before) (λ page. is_misfit before page ≡ false)
  pub begins : slice_get (map (λ info. info.pointer) page.infos.items) 0 ≡ Some pointer
