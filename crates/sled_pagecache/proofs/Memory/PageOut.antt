-- A page leaves memory, and its cache stays as it always is.
use Rattle.sled_pagecache.proofs.Names.{place_of_freeing, set-get_or, slice_index_or, zip-set, Recency, eqb_tells, ◌≡◌, ◌≢◌, ◌⊎◌, ◌≤◌, inl, inr, ℕ, Bool, true, false, List, [], length, length-set, ◌^◌, map, Some, None, slice_get, slice_set, refl, sym, ◌∙◌, ap, subst, same_Some, map-set, AllZip, Chain, effect_of_entry, Ghosts, Cache, IsResident, IsAway, HoldsChain, IsKept, place_of, is_free, is_resident, AreOwn, IsOwnAt, IsConsistent, stamps_in, Config, CacheInfo, StickyLog, PageContent, Page, HasNode, HasNoNode, StaysAt, access_size, size_if, content_behind_eviction, IsPagedOut, now, view, each-set, arith, at-id, set-by-id, kept-at, map-at, set-at, put-back, all-at}
use Rattle.sled_pagecache.proofs.Memory.ResidentPages.{stays-same, stays-then, set-others, set-none}
use Rattle.sled_pagecache.proofs.Table.StatePages.{node-full}
use Rattle.sled_pagecache.proofs.Table.ChangedTables.{free-same}
use Rattle.sled_pagecache.specs.declared.pagecache.table.page_entry.PageContent.TheVariants as page_content

-- ---- what a page holds then

holds-out : (chain : Chain) (k : PageContent) → HoldsChain chain k → HoldsChain chain (content_behind_eviction k)
holds-out chain (page_content.Node node) holds = node-full chain node holds
holds-out chain k holds = holds

free-out : (k : PageContent) → is_free (content_behind_eviction k) ≡ is_free k
free-out k = grind arith

no-node-out : (size : ℕ) (k : PageContent) → size_if size (content_behind_eviction k) ≡ None
no-node-out size k = grind arith

resident-out : (k : PageContent) → is_resident (content_behind_eviction k) ≡ true → is_resident k ≡ true
resident-out k is = grind arith

away-out : (k : PageContent) → is_resident k ≡ false → is_resident (content_behind_eviction k) ≡ false
away-out k is = grind arith

kept-out : (chain : Chain) (q page : Page) → IsKept chain q → IsPagedOut q page → IsKept chain page
kept-out chain q page is out = record {
  places = λ full. is.places (sym (ap is_free out.kept ∙ free-out q.kept) ∙ full) ∙ ap (map place_of) (sym out.infos);
  at = is.at ∙ ap (map place_of_freeing) (sym out.infos);
  holds = subst (HoldsChain chain) (sym out.kept) (holds-out chain q.kept is.holds);
}

-- ---- the table

zip-out : (chains : List Chain) (pages : List Page) (pid : ℕ) (q page : Page) → AllZip IsKept chains pages → slice_get pages pid ≡ Some q → IsPagedOut q page → AllZip IsKept chains (slice_set pages pid page)
zip-out chains pages pid q page zip at out =
    subst (λ (l : List Chain). AllZip IsKept l (slice_set pages pid page)) (set-get_or chains pid [])
    (zip-set IsKept pid chains pages (slice_index_or chains pid []) page zip (kept-out (slice_index_or chains pid []) q page (kept-at chains pages pid q zip at) out))

own-kept : (pid : ℕ) (k : PageContent) → IsOwnAt pid k → IsOwnAt pid (content_behind_eviction k)
own-kept pid k h1 = grind arith

owns-out : (pages : List Page) (pid : ℕ) (q page : Page) → AreOwn pages → slice_get pages pid ≡ Some q → IsPagedOut q page → AreOwn (slice_set pages pid page)
owns-out pages pid q page own at out =
    set-by-id (λ (id : ℕ) (p : Page). IsOwnAt id p.kept) pages pid page own (subst (IsOwnAt pid) (sym out.kept) (own-kept pid q.kept (at-id (λ (id : ℕ) (p : Page). IsOwnAt id p.kept) pages pid q own at)))

pub consistent-out : {L : Type 0} (g : Ghosts L) (sticky_log : StickyLog L) (pages : List Page) (free : List ℕ) (pid : ℕ) (q page : Page)
    → IsConsistent g.tells g.state sticky_log pages free → slice_get pages pid ≡ Some q → IsPagedOut q page → IsConsistent g.tells g.state sticky_log (slice_set pages pid page) free
consistent-out g sticky_log pages free pid q page is at out = record {
  opened = is.opened;
  beside = λ clear.
      let beside = is.beside clear in
      record {
        usable = beside.usable;
        kept = λ known. zip-out (now effect_of_entry (g.state sticky_log.log)) pages pid q page (beside.kept known) at out;
        chains = beside.chains;
        sized = beside.sized;
      };
  own = owns-out pages pid q page is.own at out;
  both = subst (λ n. 2 ≤ n) (sym (length-set pages pid page)) is.both;
  short = each-set _ pages pid page (subst (λ (l : List CacheInfo). length l ≤ 10) (sym out.infos) (all-at (λ (p : Page). length p.infos.items ≤ 10) pages pid q is.short at)) is.short;
  few = subst (λ n. n ≤ 2 ^ 37) (sym (length-set pages pid page)) is.few;
  free = is.free ∙ sym (free-same 0 pages pid page q at (ap is_free out.kept ∙ free-out q.kept));
}

-- ---- the cache

-- The nodes of such pages left memory, and all else but the list of recent use is as it was.
pub record PagesOut {L : Type 0} (Leaves : ℕ → Type 0) (old new : Cache L) : Type 0 where
  pub rest : new ≡ record old { resident = new.resident; nodes = new.nodes; lru = new.lru }
  pub out : (pid : ℕ) → Leaves pid → HasNoNode new pid
  pub stays : (pid : ℕ) → ¬ Leaves pid → StaysAt old new pid
  pub nodes : (pid size : ℕ) → HasNode new pid size → HasNode old pid size
  pub resident : (pid : ℕ) → IsResident new pid → IsResident old pid
  pub away : (pid : ℕ) → IsAway old pid → IsAway new pid

module _ {L : Type 0} where
  pub out-none : (P : ℕ → Type 0) (cache : Cache L) → ((pid : ℕ) → P pid → HasNoNode cache pid) → PagesOut P cache cache
  out-none P cache none = record {
    rest = refl;
    out = none;
    stays = λ pid _. stays-same cache pid;
    nodes = λ pid size has. has;
    resident = λ pid there. there;
    away = λ pid away. away;
  }

  -- one after the other
  pub out-then : (P Q R : ℕ → Type 0) (old mid new : Cache L) → ((pid : ℕ) → R pid → P pid ⊎ Q pid) → ((pid : ℕ) → P pid → R pid) → ((pid : ℕ) → Q pid → R pid)
      → PagesOut P old mid → PagesOut Q mid new → PagesOut R old new
  out-then P Q R old mid new split first second one two = record {
    rest = two.rest ∙ ap (λ (cache : Cache L). record cache { resident = new.resident; nodes = new.nodes; lru = new.lru }) one.rest;
    out = λ pid is. by pid (split pid is);
    stays = λ pid isnt. stays-then old mid new pid (one.stays pid (λ is. isnt (first pid is))) (two.stays pid (λ is. isnt (second pid is)));
    nodes = λ pid size has. one.nodes pid size (two.nodes pid size has);
    resident = λ pid there. one.resident pid (two.resident pid there);
    away = λ pid away. two.away pid (one.away pid away);
  }
    where
      by : (pid : ℕ) → P pid ⊎ Q pid → HasNoNode new pid
      by pid (inl is) size has = one.out pid is size (two.nodes pid size has)
      by pid (inr is) size has = two.out pid is size has

  -- and others are listed
  pub out-listed : (P : ℕ → Type 0) (old new : Cache L) (lru : Recency) → PagesOut P old new → PagesOut P old (record new { lru = lru })
  out-listed P old new lru outs = record {
    rest = ap (λ (cache : Cache L). record cache { lru = lru }) outs.rest;
    out = outs.out;
    stays = λ pid isnt. let stays = outs.stays pid isnt in record { resident = stays.resident; node = stays.node };
    nodes = outs.nodes;
    resident = outs.resident;
    away = outs.away;
  }

  -- the node of a page
  module _ (next : ℕ) (config : Config) (recovered : Bool) (lru : Recency) (sticky_log : StickyLog L) (pages : List Page) (pid : ℕ) (q page : Page) (at : slice_get pages pid ≡ Some q) (out : IsPagedOut q page) where
    abbrev old : Cache L
    old = view next config recovered lru sticky_log pages

    abbrev new : Cache L
    new = view next config recovered lru sticky_log (slice_set pages pid page)

    others : (other : ℕ) → other ≢ pid → StaysAt old new other
    others = set-others next next config recovered lru sticky_log sticky_log pages pid q page at

    gone : HasNoNode new pid
    gone = set-none next next config recovered lru sticky_log sticky_log pages pid q page at (ap (λ (k : PageContent). size_if (access_size page) k) out.kept ∙ no-node-out (access_size page) q.kept)

    new-at : slice_get new.resident pid ≡ Some (is_resident page.kept)
    new-at = map-at (λ (p : Page). is_resident p.kept) (slice_set pages pid page) pid page (set-at pages pid q page at)

    old-at : (b : Bool) → is_resident q.kept ≡ b → slice_get old.resident pid ≡ Some b
    old-at b is = map-at (λ (p : Page). is_resident p.kept) pages pid q at ∙ ap (λ (b : Bool). Some b) is

    was-is : (b : Bool) → slice_get old.resident pid ≡ Some b → is_resident q.kept ≡ b
    was-is b is = same_Some (is_resident q.kept) b (sym (map-at (λ (p : Page). is_resident p.kept) pages pid q at) ∙ is)

    out-is : (b : Bool) → slice_get new.resident pid ≡ Some b → is_resident (content_behind_eviction q.kept) ≡ b
    out-is b is = ap is_resident (sym out.kept) ∙ same_Some (is_resident page.kept) b (sym new-at ∙ is)

    either : {P : Type 0} (other : ℕ) → (other ≡ pid → P) → (other ≢ pid → P) → P
    either other same apart = elim (eqb_tells other pid) [ inl is ↦ same is.1 | inr isnt ↦ apart isnt.1 ]

    pub out-page : PagesOut (λ other. other ≡ pid) old new
    out-page = record {
      rest = ap (λ (stamps : List ℕ). record new { stamps = stamps }) (map-set (λ (p : Page). p.stamp) pages pid page ∙ ap (λ (n : ℕ). slice_set (stamps_in pages) pid n) out.stamp ∙ put-back (stamps_in pages) pid q.stamp (map-at (λ (p : Page). p.stamp) pages pid q at));
      out = λ other same. subst (HasNoNode new) (sym same) gone;
      stays = others;
      nodes = λ other size has. either other (λ same. absurd (gone size (subst (λ n. HasNode new n size) same has))) (λ apart. sym (others other apart).node ∙ has);
      resident = λ other there. either other
          (λ same. subst (λ n. IsResident old n) (sym same) (old-at true (resident-out q.kept (out-is true (subst (λ n. IsResident new n) same there))))) (λ apart. sym (others other apart).resident ∙ there);
      away = λ other away. either other
          (λ same. subst (λ n. IsAway new n) (sym same) (new-at ∙ ap (λ (b : Bool). Some b) (ap is_resident out.kept ∙ away-out q.kept (was-is false (subst (λ n. IsAway old n) same away)))))
          (λ apart. (others other apart).resident ∙ away);
    }
