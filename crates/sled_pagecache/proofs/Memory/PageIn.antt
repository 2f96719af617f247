-- A page that is brought into memory: the table beside its log, and what one sees who knows the cache by its model.
use Rattle.sled_pagecache.proofs.Names.{past-two, IsCounter, IsOwnAt, IsRoots, Recency, on_ok_weaker, ⊎_elim, cases_Bool, ◌≡◌, ◌≤◌, ℕ, Bool, true, false, List, [], length, Some, Result, Ok, Err, slice_get, slice_set, slice_index_or, refl, sym, ◌∙◌, ap, subst, arith, false≢true, map-set, set-get_or, same_Some, AllByRecursion, IfErr, OnOk, OnErr, IsOk, Refusal, is_open, open_after, is_chain, Event, Message, Chain, effect_of_entry, IsSized, Ghosts, Cache, chain_length, IsAway, chain_at, count_after, Went, IsCaused, IsKept, is_free, is_resident, BringsIn, RefusesPull, ReadsPage, is_reserved, stamps_in, resident_in, IsFreeOrNode, IsConsistent, Config, StickyLog, Page, now, view, map-at, set-at, put-back, all-at, behind-own, kept-at, own-at}
use Rattle.sled_pagecache.proofs.Table.PageChains.{kept-long}
use Rattle.sled_pagecache.proofs.CacheLog.LeftPages.{leaves-went}
use Rattle.sled_pagecache.proofs.Table.ChangedTables.{consistent-set-own, free-same}

-- how many messages make a page
pub places-length : (chain : Chain) (page : Page) → IsKept chain page → length chain ≡ length page.infos.items
places-length = kept-long

-- a page that stands, whosever it is
module _ {L : Type 0} (g : Ghosts L) (before after : StickyLog L) (pages : List Page) (free : List ℕ) (pid : ℕ) (q page : Page)
    (c : IsConsistent g.tells g.state before pages free) (ready : before.fault ≡ false) (at : slice_get pages pid ≡ Some q) where
  pub short-at : length q.infos.items ≤ 10
  short-at = all-at (λ (p : Page). length p.infos.items ≤ 10) pages pid q c.short at

  -- the table stays as it always is, where no message was told, or none was added
  pub still-consistent : (events : List (Event Message)) → Went g before after events → open_after (is_open (g.state before.log).pending) events ≡ is_open (g.state before.log).pending
      → (g.tells → after.fault ≡ false → now effect_of_entry (g.state after.log) ≡ now effect_of_entry (g.state before.log))
      → (g.tells → after.fault ≡ false → IsKept (chain_at (g.state before.log) pid) page) → page.infos.items ≡ q.infos.items → is_free page.kept ≡ is_free q.kept → IsOwnAt pid page.kept
      → IsConsistent g.tells g.state after (slice_set pages pid page) free
  still-consistent events went marks same is infos freed own =
      consistent-set-own g before after pages free free c ready pid page own
      (subst (λ n. n ≤ 10) (sym (ap length infos)) short-at)
      (λ clear. went.opened clear ∙ marks ∙ c.opened ready ∙ sym went.batch)
      (λ clear.
      let beside = c.beside ready in
      record {
        usable = went.usable clear;
        kept = λ known. subst (λ (l : List Chain). IsKept (slice_index_or l pid []) page) (sym (same known clear)) (is known clear);
        others = λ known. sym (set-get_or (now effect_of_entry (g.state after.log)) pid []) ∙ ap (λ (l : List Chain). slice_set l pid (chain_at (g.state after.log) pid)) (same known clear);
        chains = λ known. subst (λ (l : List Chain). AllByRecursion (λ chain. is_chain effect_of_entry chain ≡ true) l) (sym (same known clear)) (beside.chains known);
        sized = λ known. subst (λ (l : List Chain). AllByRecursion IsSized l) (sym (same known clear)) (beside.sized known);
      })
      (c.free ∙ sym (free-same 0 pages pid page q at freed))

module _ {L : Type 0} (g : Ghosts L) (before after : StickyLog L) (pages : List Page) (free : List ℕ) (pid : ℕ) (q page : Page)
    (c : IsConsistent g.tells g.state before pages free) (ready : before.fault ≡ false) (behind : is_reserved pid ≡ false) (at : slice_get pages pid ≡ Some q) where
  abbrev chain : Chain
  chain = chain_at (g.state before.log) pid

  pub page-kept-at : g.tells → IsKept chain q
  page-kept-at known = kept-at (now effect_of_entry (g.state before.log)) pages pid q ((c.beside ready).kept known) at

  pub page-own-at : IsFreeOrNode q.kept
  page-own-at = own-at pages pid q c.own (behind-own pid behind) at

  pub page-short-at : length q.infos.items ≤ 10
  page-short-at = all-at (λ (p : Page). length p.infos.items ≤ 10) pages pid q c.short at

  -- the table stays as it always is, where no message was told, or none was added
  pub same-consistent : (events : List (Event Message)) → Went g before after events → open_after (is_open (g.state before.log).pending) events ≡ is_open (g.state before.log).pending
      → (g.tells → after.fault ≡ false → now effect_of_entry (g.state after.log) ≡ now effect_of_entry (g.state before.log))
      → (g.tells → after.fault ≡ false → IsKept chain page) → page.infos.items ≡ q.infos.items → is_free page.kept ≡ is_free q.kept → IsFreeOrNode page.kept
      → IsConsistent g.tells g.state after (slice_set pages pid page) free
  same-consistent events went marks same is infos freed own =
      still-consistent g before after pages free pid q page c ready at events went marks same is infos freed ((past-two IsRoots IsCounter IsFreeOrNode pid page.kept (behind-own pid behind)).0 own)

-- ---- in the words of the model

module _ {L : Type 0} (g : Ghosts L) (next : ℕ) (config : Config) (recovered : Bool) (lru : Recency) where
  abbrev cache : StickyLog L → List Page → Cache L
  cache = view next config recovered lru

  module _ (before after : StickyLog L) (pages : List Page) (free : List ℕ) (pid : ℕ) (q page : Page) (c : IsConsistent g.tells g.state before pages free) (ready : before.fault ≡ false)
      (behind : is_reserved pid ≡ false) (at : slice_get pages pid ≡ Some q) where
    old_resident : slice_get (resident_in pages) pid ≡ Some (is_resident q.kept)
    old_resident = map-at (λ (page : Page). is_resident page.kept) pages pid q at

    new_resident : slice_get (resident_in (slice_set pages pid page)) pid ≡ Some (is_resident page.kept)
    new_resident = map-at (λ (page : Page). is_resident page.kept) (slice_set pages pid page) pid page (set-at pages pid q page at)

    pub before-is : (b : Bool) → slice_get (resident_in pages) pid ≡ Some b → is_resident q.kept ≡ b
    before-is b is = same_Some (is_resident q.kept) b (sym old_resident ∙ is)

    pub before-away : is_resident q.kept ≡ false → IsAway (cache before pages) pid
    before-away away = old_resident ∙ ap (λ (b : Bool). Some b) away

    after-is : (b : Bool) → slice_get (resident_in (slice_set pages pid page)) pid ≡ Some b → is_resident page.kept ≡ b
    after-is b is = same_Some (is_resident page.kept) b (sym new_resident ∙ is)

    pub is-after : (b : Bool) → is_resident page.kept ≡ b → slice_get (resident_in (slice_set pages pid page)) pid ≡ Some b
    is-after b is = new_resident ∙ ap (λ (b : Bool). Some b) is

    pub stamps-same : page.stamp ≡ q.stamp → stamps_in (slice_set pages pid page) ≡ stamps_in pages
    stamps-same stamp =
        map-set (λ (p : Page). p.stamp) pages pid page ∙ ap (λ (n : ℕ). slice_set (stamps_in pages) pid n) stamp ∙ put-back (stamps_in pages) pid q.stamp (map-at (λ (p : Page). p.stamp) pages pid q at)

    pub length-before : g.tells → length q.infos.items ≡ chain_length g.state (cache before pages) pid
    length-before known = sym (places-length (chain_at (g.state before.log) pid) q (page-kept-at g before after pages free pid q page c ready behind at known))

    -- the page was pulled
    pub brings-pulled : (result : Result (Unit {0}) Refusal) → (g.tells → after.fault ≡ false → now effect_of_entry (g.state after.log) ≡ now effect_of_entry (g.state before.log))
        → page.stamp ≡ q.stamp → OnOk result (is_resident page.kept ≡ true) → (is_resident q.kept ≡ true → IsOk result) → Went g before after [] → IsCaused g before after ⊥ result
        → (g.tells → IsKept (chain_at (g.state before.log) pid) page) → IsFreeOrNode page.kept → (g.tells → IfErr result (RefusesPull (chain_at (g.state before.log) pid)))
        → BringsIn g (cache before pages) pid result (cache after (slice_set pages pid page))
    brings-pulled result same stamp resident is_there went cause is own refused = record {
      left = leaves-went g _ _ (record { config = refl; recovered = refl }) (stamps-same stamp) refl went same;
      cause = cause;
      in_memory = on_ok_weaker result (λ resident. (behind, λ away. false≢true (sym (after-is false away) ∙ resident))) resident;
      sound = λ known. on_ok_weaker result (λ resident damaged. let holds = (is known).holds in grind arith) resident;
      refused = λ known. grind (arith, refused known, (page-kept-at g before after pages free pid q page c ready behind at known).holds);
    }

    -- how often the log was read, where a page was pulled, and nothing is read then
    pub reads-pulled : (result : Result (Unit {0}) Refusal)
        → (is_resident q.kept ≡ true → (g.counts after.log).reads ≡ (g.counts before.log).reads)
        → (is_resident q.kept ≡ false → OnOk result ((g.counts after.log).reads ≡ count_after (length q.infos.items) (g.counts before.log).reads))
        → (is_resident q.kept ≡ false → OnErr result ((is_resident page.kept ≡ false) × (times : ℕ) × (times ≤ length q.infos.items) × ((g.counts after.log).reads ≡ count_after times (g.counts before.log).reads)))
        → ReadsPage g (cache before pages) pid (cache after (slice_set pages pid page))
    reads-pulled result unread whole part =
        ⊎_elim
        (λ held. record { in_memory = λ _. unread held; whole = λ _ away _. absurd (false≢true (sym (before-is false away) ∙ held)); times = 0; most = omega arith; is = unread held })
        (λ away. by result away (whole away) (part away)) (cases_Bool (is_resident q.kept))
      where
        by : (result : Result (Unit {0}) Refusal) → is_resident q.kept ≡ false → OnOk result ((g.counts after.log).reads ≡ count_after (length q.infos.items) (g.counts before.log).reads)
            → OnErr result ((is_resident page.kept ≡ false) × (times : ℕ) × (times ≤ length q.infos.items) × ((g.counts after.log).reads ≡ count_after times (g.counts before.log).reads))
            → ReadsPage g (cache before pages) pid (cache after (slice_set pages pid page))
        by (Ok done) away is part = record {
          in_memory = λ not. absurd (not (before-away away));
          whole = λ known _ _. is ∙ ap (λ n. count_after n (g.counts before.log).reads) (length-before known);
          times = length q.infos.items;
          most = page-short-at g before after pages free pid q page c ready behind at;
          is = is;
        }
        by (Err refusal) away whole (out, times, few, is) = record {
          in_memory = λ not. absurd (not (before-away away));
          whole = λ _ _ resident. absurd (false≢true (sym out ∙ after-is true resident));
          times = times;
          most = omega (arith, few, page-short-at g before after pages free pid q page c ready behind at);
          is = is;
        }
