-- The table of a cache after a link, and what one sees of it who knows the cache by its model.
use Rattle.sled_pagecache.proofs.Names.{Recency, ◌≡◌, ◌≤◌, ℕ, Bool, true, false, List, length, Some, slice_get, slice_set, sym, ◌∙◌, ap, subst, arith, is_open, effect_of_entry, message_of, Ghosts, Cache, chain_length, IsResident, IsAway, chain_at, update_by, TakesLink, WasBegun, IsKept, is_free, is_resident, is_reserved, linked_length, IsFreeOrNode, IsConsistent, Config, StickyLog, Page, NodeLink, now, view, behind-own}
use Rattle.sled_pagecache.proofs.Memory.PageIn.{page-short-at, places-length, length-before, same-consistent, before-is, is-after}
use Rattle.sled_pagecache.proofs.Table.ChangedTables.{consistent-put, free-same}

-- at most ten messages make a page after a link
linked-short : (n k : ℕ) → k ≡ linked_length n → n ≤ 10 → k ≤ 10
linked-short n k is short = grind arith

module _ {L : Type 0} (g : Ghosts L) (before after : StickyLog L) (pages : List Page) (free : List ℕ) (pid : ℕ) (q page : Page)
    (c : IsConsistent g.tells g.state before pages free) (ready : before.fault ≡ false) (behind : is_reserved pid ≡ false) (at : slice_get pages pid ≡ Some q) (link : NodeLink) where
  pub refused-consistent : WasBegun g before after
      → (g.tells → after.fault ≡ false → now effect_of_entry (g.state after.log) ≡ now effect_of_entry (g.state before.log))
      → (g.tells → after.fault ≡ false → IsKept (chain_at (g.state before.log) pid) page) → page.infos.items ≡ q.infos.items → is_free page.kept ≡ is_free q.kept → IsFreeOrNode page.kept
      → IsConsistent g.tells g.state after (slice_set pages pid page) free
  refused-consistent begun same is infos freed own = same-consistent g before after pages free pid q page c ready behind at begun.came begun.went (begun.marks (is_open (g.state before.log).pending)) same is infos freed own

  pub taken-consistent : TakesLink g before pid q link after page → is_free page.kept ≡ is_free q.kept → IsConsistent g.tells g.state after (slice_set pages pid page) free
  taken-consistent takes freed =
      consistent-put g before after pages free free c ready pid (message_of (update_by q link takes.tells.node)) takes.tells.went page (subst IsFreeOrNode (sym takes.holds) tt)
      (linked-short (length q.infos.items) (length page.infos.items) takes.len (page-short-at g before after pages free pid q page c ready behind at)) takes.kept takes.sized (behind-own pid behind) takes.others
      (c.free ∙ sym (free-same 0 pages pid page q at freed))

  module _ (next : ℕ) (config : Config) (recovered : Bool) (lru : Recency) where
    abbrev old : Cache L
    old = view next config recovered lru before pages

    abbrev new : Cache L
    new = view next config recovered lru after (slice_set pages pid page)

    pub taken-length : g.tells → TakesLink g before pid q link after page → chain_length g.state new pid ≡ linked_length (chain_length g.state old pid)
    taken-length known takes =
        places-length (chain_at (g.state after.log) pid) page (takes.kept known) ∙ takes.len ∙ ap linked_length (length-before g next config recovered lru before after pages free pid q page c ready behind at known)

    pub taken-resident : TakesLink g before pid q link after page → IsResident new pid
    taken-resident takes = is-after g next config recovered lru before after pages free pid q page c ready behind at true (ap is_resident takes.holds)

    pub refused-out : (is_resident q.kept ≡ false → is_resident page.kept ≡ false) → IsAway old pid → IsAway new pid
    refused-out out away =
        is-after g next config recovered lru before after pages free pid q page c ready behind at false (out (before-is g next config recovered lru before after pages free pid q page c ready behind at false away))
