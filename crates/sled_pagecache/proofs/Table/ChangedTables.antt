-- What always holds of a cache's table stays so where a page changes, or one is added.
use Rattle.sled_pagecache.proofs.Names.{Ghosts, ◌≡◌, ◌≤◌, ◌<◌, ◌+◌, ◌^◌, ℕ, zero, suc, Bool, true, false, cond, List, [], ◌∷◌, ◌++◌, length, map, Some, Result, slice_get, slice_set, refl, sym, ◌∙◌, ap, subst, arith, length-append, length-set, none-some, same_Some, AllByRecursion, list_all, Refusal, is_open, open_after, is_linking, is_chain, Event, Change, Message, Entry, Chain, messages_of, effect_of, effect_of_entry, IsSized, AreChains, chains-are, now-unplaced, zip-append, zip-set, chain_at, Went, begun_by, now-Went, IsKept, is_free, free_ids, IsCounter, IsFreeOrNode, IsRoots, IsOwnAt, IsBeside, IsConsistent, StickyLog, Page, LogState, unplaced_state, now, each-set, add-by-id, past-two, set-by-id}
use Rattle.sled_pagecache.proofs.CacheLog.ProperPages.{all-append}

-- ---- chains, with their places and without

links-unplaced : (chain : Chain) → list_all (λ (m : Message). is_linking (effect_of m)) (messages_of chain) ≡ list_all (λ (e : Entry). is_linking (effect_of_entry e)) chain
links-unplaced [] = refl
links-unplaced (entry ∷ chain) = rw (links-unplaced chain) refl

is_chain-unplaced : (chain : Chain) → is_chain effect_of (messages_of chain) ≡ is_chain effect_of_entry chain
is_chain-unplaced [] = refl
is_chain-unplaced (entry ∷ chain) = let rest = links-unplaced chain in grind arith

chains-unplaced : (chains : List Chain) → (AreChains effect_of_entry chains → AreChains effect_of (map messages_of chains)) × (AreChains effect_of (map messages_of chains) → AreChains effect_of_entry chains)
chains-unplaced [] = (λ _. tt, λ _. tt)
chains-unplaced (chain ∷ chains) =
    let rest = chains-unplaced chains in
    let same = is_chain-unplaced chain in
    (λ h. (same ∙ h.0, rest.0 h.1), λ h. (sym same ∙ h.0, rest.1 h.1))

module _ {L : Type 0} (g : Ghosts L) where
  -- whatever messages a log was told, its chains are chains
  pub went-chains : (old new : StickyLog L) (events : List (Event Message)) → Went g old new events → g.tells → new.fault ≡ false
      → AreChains effect_of_entry (now effect_of_entry (g.state old.log)) → AreChains effect_of_entry (now effect_of_entry (g.state new.log))
  went-chains old new events went known clear h =
      (chains-unplaced (now effect_of_entry (g.state new.log))).1
      (subst (AreChains effect_of) (sym (now-unplaced (g.state new.log) ∙ now-Went g old new events went known clear))
      (chains-are effect_of (now effect_of (unplaced_state (g.state old.log))) events
      (subst (AreChains effect_of) (now-unplaced (g.state old.log)) ((chains-unplaced (now effect_of_entry (g.state old.log))).0 h))))

  -- where the messages leave a batch open or closed, the cache's own mark says so as before
  pub went-opened : (old new : StickyLog L) (events : List (Event Message)) → Went g old new events → ((was : Bool) → open_after was events ≡ was) → new.fault ≡ false
      → is_open (g.state old.log).pending ≡ old.batch → is_open (g.state new.log).pending ≡ new.batch
  went-opened old new events went marks clear opened =
      went.opened clear ∙ marks (is_open (g.state old.log).pending) ∙ opened ∙ sym went.batch

-- a change leaves a batch open or closed, told or not
pub marks-begun : {T : Type 0} (result : Result T Refusal) (pid : ℕ) (m : Message) (was : Bool) → open_after was (begun_by result (Change pid m ∷ [])) ≡ was
marks-begun result pid m was = grind arith

-- ---- the table

-- the log holds the chain of a page in place of the one that it held
pub record IsSet (tells : Type 0) (old new : LogState Entry) (pid : ℕ) (page : Page) : Type 0 where
  pub usable : new.usable ≡ true
  pub kept : tells → IsKept (chain_at new pid) page
  pub others : tells → now effect_of_entry new ≡ slice_set (now effect_of_entry old) pid (chain_at new pid)
  pub chains : tells → AreChains effect_of_entry (now effect_of_entry new)
  pub sized : tells → AllByRecursion IsSized (now effect_of_entry new)

module _ {L : Type 0} (g : Ghosts L) (old new : StickyLog L) (pages : List Page) (free free_then : List ℕ) (c : IsConsistent g.tells g.state old pages free) (ready : old.fault ≡ false) where
  pub consistent-set-own : (pid : ℕ) (page : Page) → IsOwnAt pid page.kept → length page.infos.items ≤ 10
      → (new.fault ≡ false → is_open (g.state new.log).pending ≡ new.batch)
      → (new.fault ≡ false → IsSet g.tells (g.state old.log) (g.state new.log) pid page)
      → free_then ≡ free_ids 0 (slice_set pages pid page)
      → IsConsistent g.tells g.state new (slice_set pages pid page) free_then
  consistent-set-own pid page own short opened set frees = record {
    opened = opened;
    beside = λ clear. record {
      usable = (set clear).usable;
      kept = λ known. rw ((set clear).others known) (zip-set IsKept pid (now effect_of_entry (g.state old.log)) pages (chain_at (g.state new.log) pid) page ((c.beside ready).kept known) ((set clear).kept known));
      chains = (set clear).chains;
      sized = (set clear).sized;
    };
    own = set-by-id _ pages pid page c.own own;
    both = rw (length-set pages pid page) c.both;
    short = each-set _ pages pid page short c.short;
    few = rw (length-set pages pid page) c.few;
    free = frees;
  }

  pub consistent-set : (pid : ℕ) (page : Page) → 2 ≤ pid → IsFreeOrNode page.kept → length page.infos.items ≤ 10
      → (new.fault ≡ false → is_open (g.state new.log).pending ≡ new.batch)
      → (new.fault ≡ false → IsSet g.tells (g.state old.log) (g.state new.log) pid page)
      → free_then ≡ free_ids 0 (slice_set pages pid page)
      → IsConsistent g.tells g.state new (slice_set pages pid page) free_then
  consistent-set pid page from node short opened set frees = consistent-set-own pid page ((past-two IsRoots IsCounter IsFreeOrNode pid page.kept from).0 node) short opened set frees

  -- the log keeps what it holds of pages, but where a write fault is kept
  pub consistent-kept : (new.fault ≡ false → (g.state new.log).usable ≡ true) → (new.fault ≡ false → is_open (g.state new.log).pending ≡ new.batch)
      → (g.tells → new.fault ≡ false → now effect_of_entry (g.state new.log) ≡ now effect_of_entry (g.state old.log))
      → IsConsistent g.tells g.state new pages free
  consistent-kept usable opened same =
      let beside : new.fault ≡ false → IsBeside g.tells g.state new.log pages = λ clear. record {
        usable = usable clear;
        kept = λ known. rw (same known clear) ((c.beside ready).kept known);
        chains = λ known. rw (same known clear) ((c.beside ready).chains known);
        sized = λ known. rw (same known clear) ((c.beside ready).sized known);
      } in
      search (c, beside, opened)

  -- nothing comes to the log, but where a write fault is kept
  pub consistent-same : (events : List (Event Message))
      → Went g old new events → ((was : Bool) → open_after was events ≡ was)
      → (g.tells → new.fault ≡ false → now effect_of_entry (g.state new.log) ≡ now effect_of_entry (g.state old.log))
      → IsConsistent g.tells g.state new pages free
  consistent-same events went marks same =
      consistent-kept went.usable (λ clear. went-opened g old new events went marks clear (c.opened ready)) same

  module _ (pid : ℕ) (m : Message) (went : Went g old new (Change pid m ∷ [])) (page : Page) where
    still-opened : new.fault ≡ false → is_open (g.state new.log).pending ≡ new.batch
    still-opened clear = went-opened g old new (Change pid m ∷ []) went (λ was. refl) clear (c.opened ready)

    still-chains : new.fault ≡ false → g.tells → AreChains effect_of_entry (now effect_of_entry (g.state new.log))
    still-chains clear known = went-chains g old new (Change pid m ∷ []) went known clear ((c.beside ready).chains known)

    -- a content was put on a page, from 2 on or one of the cache's own
    pub consistent-put-own : IsOwnAt pid page.kept → length page.infos.items ≤ 10 → (g.tells → IsKept (chain_at (g.state new.log) pid) page) → (g.tells → AllByRecursion IsSized (now effect_of_entry (g.state new.log)))
        → (g.tells → now effect_of_entry (g.state new.log) ≡ slice_set (now effect_of_entry (g.state old.log)) pid (chain_at (g.state new.log) pid)) → free_then ≡ free_ids 0 (slice_set pages pid page)
        → IsConsistent g.tells g.state new (slice_set pages pid page) free_then
    consistent-put-own own short is_kept sized others frees =
        consistent-set-own pid page own short still-opened (λ clear. record { usable = went.usable clear; kept = is_kept; others = others; chains = still-chains clear; sized = sized }) frees

    module _ (own : IsFreeOrNode page.kept) (short : length page.infos.items ≤ 10) (is_kept : g.tells → IsKept (chain_at (g.state new.log) pid) page) (sized : g.tells → AllByRecursion IsSized (now effect_of_entry (g.state new.log))) where
      pub consistent-put : 2 ≤ pid → (g.tells → now effect_of_entry (g.state new.log) ≡ slice_set (now effect_of_entry (g.state old.log)) pid (chain_at (g.state new.log) pid))
          → free_then ≡ free_ids 0 (slice_set pages pid page) → IsConsistent g.tells g.state new (slice_set pages pid page) free_then
      consistent-put from others frees = consistent-put-own ((past-two IsRoots IsCounter IsFreeOrNode pid page.kept from).0 own) short is_kept sized others frees

      -- a content was put on a new page
      pub consistent-new : length pages < 2 ^ 37 → (g.tells → now effect_of_entry (g.state new.log) ≡ now effect_of_entry (g.state old.log) ++ chain_at (g.state new.log) pid ∷ [])
          → free_then ≡ free_ids 0 (pages ++ page ∷ []) → IsConsistent g.tells g.state new (pages ++ page ∷ []) free_then
      consistent-new room others frees = record {
        opened = still-opened;
        beside = λ clear. record {
          usable = went.usable clear;
          kept = λ known. rw (others known) (zip-append IsKept (now effect_of_entry (g.state old.log)) pages (chain_at (g.state new.log) pid ∷ []) (page ∷ []) ((c.beside ready).kept known) (is_kept known, tt));
          chains = still-chains clear;
          sized = sized;
        };
        own = add-by-id _ pages page c.own ((past-two IsRoots IsCounter IsFreeOrNode (length pages) page.kept c.both).0 own);
        both = let l = length-append pages (page ∷ []) in let b = c.both in omega (arith, l, b);
        short = all-append _ pages (page ∷ []) c.short (short, tt);
        few = let l = length-append pages (page ∷ []) in omega (arith, l, room);
        free = frees;
      }

-- ---- the free pages

-- a page that is free or not as the one before it leaves the free ids
pub free-same : (n : ℕ) (pages : List Page) (pid : ℕ) (page q : Page) → slice_get pages pid ≡ Some q → is_free page.kept ≡ is_free q.kept
    → free_ids n (slice_set pages pid page) ≡ free_ids n pages
free-same n [] pid page q at same = absurd (none-some q at)
free-same n (p ∷ pages) zero page q at same = ap (λ (b : Bool). cond b (n ∷ free_ids (n + 1) pages) (free_ids (n + 1) pages)) (same ∙ ap (λ (r : Page). is_free r.kept) (sym (same_Some p q at)))
free-same n (p ∷ pages) (suc pid) page q at same = ap (λ (l : List ℕ). cond (is_free p.kept) (n ∷ l) l) (free-same (n + 1) pages pid page q at same)

-- a page that isn't free leaves them when it is added
pub free-add : (n : ℕ) (pages : List Page) (page : Page) → is_free page.kept ≡ false → free_ids n (pages ++ page ∷ []) ≡ free_ids n pages
free-add n [] page full = ap (λ (b : Bool). cond b (n ∷ []) []) full
free-add n (p ∷ pages) page full = ap (λ (l : List ℕ). cond (is_free p.kept) (n ∷ l) l) (free-add (n + 1) pages page full)
