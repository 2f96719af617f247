-- Copying the pages of a table to another log.
use Rattle.std.specs.Prelude.{◌≡◌, ◌⊎◌, ◌≤◌, ℕ, List, [], length, take, Option, None, Some, Result, Ok, Err, IfErr}
use Rattle.std.specs.List.{AllByRecursion, AllZip, sum_by}
use Rattle.sled_base.specs.declared.types.Refusal.{Refusal}
use Rattle.sled_log.specs.Contents.{Content, Put}
use Rattle.sled_log.specs.Events.{seen_events}
use Rattle.sled_log.specs.LogState.{now}
use Rattle.sled_log.specs.Messages.{Chain, effect_of_entry}
use Rattle.sled_log.specs.Reading.{IsUpdate, message_of}
use Rattle.sled_log.specs.declared.log.Log.{Ghosts}
use Rattle.sled_pagecache.specs.Cache.{chain_at}
use Rattle.sled_pagecache.specs.Inside.LogCalls.{Proceeds, refusal_in}
use Rattle.sled_pagecache.specs.Inside.Measurements.{HasContent, ReadsLog, RefusesAway, RefusesSome, messages_to_read}
use Rattle.sled_pagecache.specs.Inside.StickyLog.{IsOfLog}
use Rattle.sled_pagecache.specs.Rewriting.{changes_of_page, messages_of_pages}
use Rattle.sled_pagecache.specs.declared.pagecache.table.page_entry.Page.{Page}
use Rattle.sled_pagecache.specs.declared.pagecache.write.sticky_log.StickyLog.{StickyLog}

-- the message that is written for the content decodes to it
abbrev pub IsReadable : Content → Type 0
IsReadable content = IsUpdate (message_of (Put content)) (Put content)

module _ {M : Type 0} (h : Ghosts M) where
  -- A content was put on the next new page of a log, or that failed.
  pub record PutsCopy (pid : ℕ) (content : Content) (old new : StickyLog M) (result : Result (Unit {0}) Refusal) : Type 0 where
    pub readable : IsReadable content
    pub proceeds : Proceeds h old new (seen_events message_of (changes_of_page pid content)) (refusal_in result)
    pub of_log : h.tells → IfErr result IsOfLog

module _ {L M : Type 0} (g : Ghosts L) (h : Ghosts M) where
  -- the content that the chain of a page makes was put on the next new page of the other log, or that failed
  pub record CopiesContent (chain : Chain) (pid : ℕ) (copy then : StickyLog M) (result : Result (Unit {0}) Refusal) : Type 0 where
    pub content : Content
    pub has : g.tells → HasContent chain content
    pub puts : PutsCopy h pid content copy then result

  -- The content was read if it wasn't in memory, and copied. Or the cache's log failed and the other wasn't called, or the other log
  -- failed.
  abbrev pub CopiesPage : ℕ → Page → StickyLog L → StickyLog L → StickyLog M → StickyLog M → Result (Unit {0}) Refusal → Type 0
  CopiesPage pid page old new copy then (Ok done) =
      ReadsLog g old new (messages_to_read page) (Ok done) × CopiesContent (chain_at (g.state old.log) pid) pid copy then (Ok done)
  CopiesPage pid page old new copy then (Err refusal) =
      ((let err : Result (Unit {0}) Refusal = Err refusal in ReadsLog g old new (messages_to_read page) err) × (g.tells → RefusesAway (chain_at (g.state old.log) pid) page refusal) × (then ≡ copy))
      ⊎ ((let ok : Result (Unit {0}) Refusal = Ok tt in ReadsLog g old new (messages_to_read page) ok) × CopiesContent (chain_at (g.state old.log) pid) pid copy then (Err refusal))

  -- This many of the first chains make such contents, which were put on the pages of the other log, or that failed.
  pub record AreCopied (chains : List Chain) (many : ℕ) (copy then : StickyLog M) (refusal : Option Refusal) : Type 0 where
    pub contents : List Content
    pub long : length contents ≡ many
    pub have : g.tells → AllZip HasContent (take many chains) contents
    pub readable : AllByRecursion IsReadable contents
    pub proceeds : Proceeds h copy then (messages_of_pages 0 contents) refusal

  -- Each page was copied, and all of them are durable. Or some were, and then the cache's log or the other log failed.
  abbrev pub Copies : List Page → StickyLog L → StickyLog L → StickyLog M → StickyLog M → Result (Unit {0}) Refusal → Type 0
  Copies pages old new copy then (Ok done) =
      ReadsLog g old new (sum_by messages_to_read pages) (Ok done) × AreCopied (now effect_of_entry (g.state old.log)) (length pages) copy then None × ((h.state then.log).pending ≡ [])
  Copies pages old new copy then (Err refusal) =
      ((let err : Result (Unit {0}) Refusal = Err refusal in ReadsLog g old new (sum_by messages_to_read pages) err) × (g.tells → RefusesSome (chain_at (g.state old.log)) pages refusal)
      × (many : ℕ) × (many ≤ length pages) × AreCopied (now effect_of_entry (g.state old.log)) many copy then None)
      ⊎ ((times : ℕ) × (times ≤ sum_by messages_to_read pages) × (let ok : Result (Unit {0}) Refusal = Ok tt in ReadsLog g old new times ok) × (h.tells → IsOfLog refusal)
      × (many : ℕ) × (many ≤ length pages) × AreCopied (now effect_of_entry (g.state old.log)) many copy then (Some refusal))
