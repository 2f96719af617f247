-- The page of the counter of generated ids, in the table and in the state that the cache is in, and what is put on a page of the cache's own.
use Rattle.sled_pagecache.proofs.Names.{Recency, AreOwn, Bool, Cache, Chain, Config, Content, Counter, GetIdgen, Ghosts, GotIdgen, HoldsChain, IsConsistent, IsCounter, Represents, PageContent, List, Logged, Makes, IsProper, Ok, Put, Some, State, Acts, StickyLog, Token, [], ◌∷◌, ◌++◌, ◌==◌, if◌then◌else◌, slice_set, arith, effect_of, effect_of_entry, false, holds-made, length, message_of, messages_of, page, page_at, refl, slice_get, slice_index_or, subst, token, unplaced_state, log_now, ℕ, ap, ◌∙◌, ◌<◌, ◌≡◌, ◌≤◌, KeptPage, now, view, kept-at}
use Rattle.sled_pagecache.proofs.CacheLog.ToldContents.{proper-now}
use Rattle.sled_pagecache.proofs.Steps.CallOutcomes.{KnowsNow, steps-uncalled}
use Rattle.sled_pagecache.proofs.Table.StateChains.{state-page}
use Rattle.sled_pagecache.proofs.CacheLog.ProperPages.{put-own}
use Rattle.sled_pagecache.proofs.Steps.Puts.{MayPut, holds_unplaced, many}
use Rattle.sled_pagecache.proofs.Table.StatePages.{found-known, known-in}
use Rattle.sled_pagecache.specs.Inside.CounterPage.{KeepsCounter}
use Rattle.sled_pagecache.specs.Logged.{IsOwnAt, now as held_now}
use Rattle.sled_pagecache.specs.declared.pagecache.table.page_entry.PageContent.TheVariants as page_content

-- it is kept there
pub keeps-counter : (table : List KeptPage) → AreOwn table → 2 ≤ length table → KeepsCounter table
keeps-counter [] own both = absurd (omega (arith, both))
keeps-counter (p ∷ []) own both = absurd (omega (arith, both))
keeps-counter (p ∷ q ∷ table) own both = by q.kept refl (own 1)
  where
    by : (k : PageContent) → q.kept ≡ k → IsCounter k → KeepsCounter (p ∷ q ∷ table)
    by (page_content.Counter n) is here = (q, n, refl, is)
    by k is here = absurd here

module _ {L : Type 0} (g : Ghosts L) (next : ℕ) (config : Config) (recovered : Bool) (lru : Recency) (sticky_log : StickyLog L) (table : List KeptPage) (free : List ℕ) (c : IsConsistent g.tells g.state sticky_log table free) (ready : sticky_log.fault ≡ false) where
  abbrev cache : Cache L
  cache = view next config recovered lru sticky_log table

  -- what a page keeps that is the cache's own, the state has too
  pub own-at : (pid : ℕ) (q : KeptPage) (held : PageContent) (content : Content) → slice_get table pid ≡ Some q → q.kept ≡ held → ((chain : Chain) → HoldsChain chain held → Makes (messages_of chain) content)
      → (held_by : Logged) (s : State) → Represents g cache held_by s → s.fault ≡ false → page_at s pid ≡ Some (page q.stamp content)
  own-at pid q held content at holds makes held_by s is clear =
      let chain = slice_index_or (now effect_of_entry (g.state sticky_log.log)) pid [] in
      let found = found-known s.pages table pid q (known-in g cache table held_by s is clear refl (c.beside ready)) at in
      let made = makes chain (subst (HoldsChain chain) holds (kept-at (now effect_of_entry (g.state sticky_log.log)) table pid q ((c.beside ready).kept is.tells) at).holds) in
      found.is ∙ ap (λ stamp. Some (page stamp found.page.content)) found.known.stamp
      ∙ ap (λ (content : Content). Some (page q.stamp content)) (holds-made (messages_of chain) found.page.content content (state-page g cache held_by s is clear pid found.page found.is) made)

  -- and another may be put there
  pub may-put : (pid : ℕ) (content : Content) → pid < 2 → IsOwnAt pid content
      → ((held : Logged) → pid < length (held_now held)
      → (let pages = log_now effect_of (unplaced_state (g.state sticky_log.log)) in IsProper (if pid == length pages then pages ++ (message_of (Put content) ∷ []) ∷ [] else slice_set pages pid (message_of (Put content) ∷ [])) (if pid == length (held_now held) then held_now held ++ content ∷ [] else slice_set (held_now held) pid content))
      → MayPut g sticky_log.log held pid content)
      → (held : Logged) (s : State) → Represents g cache held s → s.fault ≡ false → MayPut g sticky_log.log held pid content
  may-put pid content first own make held s is clear =
      let long = many g next config recovered lru sticky_log table ready (c.beside ready) held s is clear in
      let both = c.both in
      let within : pid < length (held_now held) = omega arith in
      make held within
      (put-own (log_now effect_of (unplaced_state (g.state sticky_log.log))) (held_now held) (holds_unplaced g cache held s is clear) (proper-now (unplaced_state (g.state sticky_log.log)) held (is.known clear).logged) pid (message_of (Put content)) content own within)

  -- the counter is told
  pub gets-idgen : (q : KeptPage) (n : ℕ) → slice_get table 1 ≡ Some q → q.kept ≡ page_content.Counter n → KnowsNow g sticky_log → (made : Token) → made ≡ token 1 q.stamp → Acts g cache GetIdgen (GotIdgen (Ok (made, n))) cache
  gets-idgen q n at holds only made is =
      rw is
      (steps-uncalled g next config recovered lru sticky_log table ready GetIdgen (GotIdgen (Ok (token 1 q.stamp, n))) (c.beside ready).usable only
      (λ held s is_in clear. rw (clear, own-at 1 q (page_content.Counter n) (Counter n) at holds (λ chain makes. makes) held s is_in clear) (refl, refl)))
