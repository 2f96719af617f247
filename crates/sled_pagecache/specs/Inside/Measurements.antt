-- How measuring the pages of a table calls their log, and what it returns.
use Rattle.std.specs.Prelude.{◌≡◌, ℕ, true, false, List, [], Some, Result, slice_get, if◌then◌else◌, length}
use Rattle.std.specs.List.{AllZip, sum_by}
use Rattle.sled_base.specs.declared.types.Refusal.{Refusal}
use Rattle.sled_log.specs.Chains.{is_empty}
use Rattle.sled_log.specs.Contents.{Content, Free, Counter, Roots, Node, Damaged}
use Rattle.sled_log.specs.LogState.{now}
use Rattle.sled_log.specs.Messages.{Chain, messages_of, effect_of_entry}
use Rattle.sled_log.specs.Reading.{Makes}
use Rattle.sled_log.specs.declared.log.Log.{Ghosts}
use Rattle.sled_pagecache.specs.Inside.PageEntry.{is_resident, size_in}
use Rattle.sled_pagecache.specs.Inside.PageIn.{RefusesPull}
use Rattle.sled_pagecache.specs.Inside.StickyLog.{IsCaused, Went}
use Rattle.sled_pagecache.specs.Memory.{HasRead}
use Rattle.sled_pagecache.specs.Sizes.{content_size}
use Rattle.sled_pagecache.specs.Table.{is_free}
use Rattle.sled_pagecache.specs.declared.pagecache.table.page_entry.PageContent.TheVariants as page_content
use Rattle.sled_pagecache.specs.declared.pagecache.table.page_entry.Page.{Page}
use Rattle.sled_pagecache.specs.declared.pagecache.write.sticky_log.StickyLog.{StickyLog}

-- The log was read this often or, if the call failed, at most this often. Nothing was written, and the log holds what it held.
pub record ReadsLog {L T : Type 0} (g : Ghosts L) (old new : StickyLog L) (times : ℕ) (result : Result T Refusal) : Type 0 where
  pub went : Went g old new []
  pub cause : IsCaused g old new ⊥ result
  pub same : g.tells → new.fault ≡ false → now effect_of_entry (g.state new.log) ≡ now effect_of_entry (g.state old.log)
  pub reads : HasRead g.counts old.log new.log times result

-- how many messages of a page are read for its content
abbrev pub messages_to_read : Page → ℕ
messages_to_read page = if is_resident page.kept then 0 else length page.infos.items

-- the content that a chain makes, or a free page; a damaged chain makes neither
abbrev pub HasContent : Chain → Content → Type 0
HasContent chain Free = is_empty effect_of_entry chain ≡ true
HasContent chain (Counter n) = Makes (messages_of chain) (Counter n)
HasContent chain (Roots roots) = Makes (messages_of chain) (Roots roots)
HasContent chain (Node node) = Makes (messages_of chain) (Node node)
HasContent chain Damaged = ⊥

-- the size of that content
abbrev pub IsSizeOf : Chain → ℕ → Type 0
IsSizeOf chain size = (content : Content) × HasContent chain content × (size ≡ content_size content)

-- the sizes of several together
abbrev pub Weighs : List Chain → ℕ → Type 0
Weighs chains total = (contents : List Content) × AllZip HasContent chains contents × (total ≡ sum_by content_size contents)

-- the page wasn't in memory, and couldn't be read
abbrev pub RefusesAway : Chain → Page → Refusal → Type 0
RefusesAway chain page refusal = (page.kept ≡ page_content.OnLog) × (is_empty effect_of_entry chain ≡ false) × RefusesPull chain refusal

-- the same for one of the pages
abbrev pub RefusesSome : (ℕ → Chain) → List Page → Refusal → Type 0
RefusesSome chain_at pages refusal = (pid : ℕ) × (page : Page) × (slice_get pages pid ≡ Some page) × RefusesAway (chain_at pid) page refusal

-- how many bytes of the log the messages of a page take; the message of a free page doesn't count
abbrev pub page_live : Page → ℕ
page_live page = if is_free page.kept then 0 else size_in page.infos.items
