-- The pages that a cache is opened with.
use Rattle.sled_pagecache.proofs.Names.{slice_get-map, kept-at, Recency, IsBounded, IsSound, IsUnused, slice_get_cases, view, inl, inr, ◌≡◌, ◌≤◌, ◌<◌, ◌^◌, ℕ, zero, suc, Bool, true, false, cond, List, [], ◌∷◌, ◌++◌, length, map, take, drop, set, slice_get, slice_index_or, Option, None, Some, is_some, Result, Ok, refl, sym, ◌∙◌, ap, subst, arith, eq-eqb, drop-nil, take-append_seam, nat_tests, length-append, length-map, AllZip-long, slice_get-get_or, AllByRecursion, AllZip, IfSome, DiskPtr, Refusal, Corruption, is_open, open_after, is_empty, chains_with_change, Content, Put, Event, Change, Message, Entry, Chain, messages_of, placed_entry, effect_of, effect_of_entry, holds-made, Makes, Holds, Hold, now, message_of, zip-append, Ghosts, place_of, roots_event, IsLoaded, IsUnread, AreRecovered, AreRead, AreFound, IsOwnAt, IsTable, IsOpenedWith, RefusesOwn, RefusesPages, next_id, counter_event, events_of_roots, events_at_start, stamps_at_start, HoldsChain, IsKept, is_resident, place_of_freeing, Proceeds, refusal_in, Comes, IsCaused, IsCaused-since, Went-last, is_misfit, IsFit, Wrote, IsRoots, IsConsistent, stamps_in, resident_in, CacheInfo, Config, StickyLog, Page, zip-set, set-get_or, length-set, Counter, add-by-id, all-by-id, at-id, zip-first, zip-second}
use Rattle.sled_pagecache.proofs.Table.PageChains.{kept-long}
use Rattle.sled_base.specs.declared.kinds.LogKind.TheVariants as effects
use Rattle.sled_pagecache.proofs.CacheLog.ProperPages.{all-append}
use Rattle.sled_pagecache.proofs.Memory.ResidentPages.{past-view, none-at}
use Rattle.sled_pagecache.proofs.Links.LinkedChains.{full-free}
use Rattle.sled_pagecache.proofs.Opening.OwnPages.{IsOwn, own-one}
use Rattle.sled_pagecache.proofs.CacheLog.LogCalls.{nil-parts, proceeds-ended, proceeds-then}
use Rattle.sled_pagecache.proofs.Opening.RecoveredPages.{if-some}
use Rattle.sled_pagecache.proofs.Sizes.ChainSizes.{sized-view}
use Rattle.sled_pagecache.proofs.Table.ChangedTables.{went-chains}
use Rattle.sled_pagecache.specs.Inside.Loading.{AreBeside}
use Rattle.sled_pagecache.specs.State as state
use Rattle.sled_pagecache.specs.declared.pagecache.table.page_entry.PageContent.TheVariants as page_content

-- ---- a system page that is made

module _ {L : Type 0} (g : Ghosts L) (old new : StickyLog L) (pid stamp : ℕ) (content : Content) (info : CacheInfo) (wrote : Wrote g old new pid (Put content) stamp (Ok info)) where
  pub own-table : (pages : List Page) (page : Page) → IsTable g.tells (now effect_of_entry (g.state old.log)) pages
      → pid ≡ length pages → pid < 2
      → effect_of (message_of (Put content)) ≡ effects.Replace
      → page.infos.items ≡ info ∷ []
      → ((chain : Chain) → Makes (messages_of chain) content → HoldsChain chain page.kept)
      → IsOwnAt pid page.kept
      → IsTable g.tells (now effect_of_entry (g.state new.log)) (pages ++ page ∷ [])
  own-table pages page table last few effect infos holds own = record {
    kept = λ known.
        let held = now effect_of_entry (g.state old.log) in
        let entry : Entry = placed_entry (message_of (Put content)) (place_of info) in
        let long : length pages ≡ length held = AllZip-long IsKept held pages (table.kept known) in
        let is : now effect_of_entry (g.state new.log) ≡ held ++ (entry ∷ []) ∷ [] =
        wrote.writes.chains known ∙ ap (λ kind. chains_with_change effect_of_entry kind held pid entry) effect ∙ ap (λ b. cond b (held ++ (entry ∷ []) ∷ []) (set held pid (entry ∷ []))) (eq-eqb pid (length held) (last ∙ long)) in
        let kept : IsKept (entry ∷ []) page = record { places = λ _. sym (ap (map place_of) infos); at = sym (ap (map place_of_freeing) infos); holds = holds (entry ∷ []) (content, wrote.is, refl) } in
        subst (λ (l : List Chain). AllZip IsKept l (pages ++ page ∷ [])) (sym is) (zip-append IsKept held pages ((entry ∷ []) ∷ []) (page ∷ []) (table.kept known) (kept, tt));
    hold = (add-by-id _ pages page table.hold.0 (subst (λ n. IsOwnAt n page.kept) last own), all-append _ pages (page ∷ []) table.hold.1 ((omega (arith, ap length infos)), tt));
    few = omega (arith, length-append pages (page ∷ []), last, few);
    chains_are = λ known. went-chains g old new (Change pid (message_of (Put content)) ∷ []) wrote.writes.went known wrote.writes.cause.fault (table.chains_are known);
    sized = wrote.writes.sized;
  }

-- ---- the contents of the system pages

-- A page whose content was read in its place is as its chain says, like the others.
module _ {tells : Type 0} (held : List Chain) (pages : List Page) (pid : ℕ) (page other : Page) (content : Content) (own : IsOwn content) (at : slice_get pages pid ≡ Some page) where
  pub read-page : {Hold : List Page → Type 0} → AreBeside tells held pages IsLoaded Hold → (tells → Makes (messages_of (slice_index_or held pid [])) content)
      → other.stamp ≡ page.stamp → other.infos.items ≡ page.infos.items → ((chain : Chain) → Makes (messages_of chain) content → HoldsChain chain other.kept)
      → (Then : List Page → Type 0) → Then (set pages pid other) → AreBeside tells held (set pages pid other) IsLoaded Then
  read-page are makes stamp infos holds Then hold = record {
    kept = λ known.
        let chain = slice_index_or held pid [] in
        let is = zip-second IsLoaded held pages pid page [] (are.kept known) at in
        let loaded : IsLoaded chain other = record {
          kept = record {
            places = λ _. is.kept.places (full-free chain page.kept (own-one chain content own (makes known)).1 is.kept.holds) ∙ sym (ap (map place_of) infos);
            at = is.kept.at ∙ sym (ap (map place_of_freeing) infos);
            holds = holds chain (makes known);
          };
          stamp = stamp ∙ is.stamp;
        } in
        subst (λ (l : List Chain). AllZip IsLoaded l (set pages pid other)) (set-get_or held pid []) (zip-set IsLoaded pid held pages chain other (are.kept known) loaded);
    hold = hold;
    few = subst (λ n. n ≤ 2 ^ 37) (sym (length-set pages pid other)) are.few;
    chains_are = are.chains_are;
    sized = are.sized;
  }

-- the first alone, where there is no other
pub found-first : (pages : List Page) (first : Page) → length pages < 2 → IsRoots first.kept → AreFound (set pages 0 first) None
found-first [] first few roots = ((λ k. tt), λ few. refl)
found-first (x ∷ []) first few roots = (elim [ zero ↦ roots | suc k ↦ tt ], λ few. refl)
found-first (x ∷ y ∷ pages) first few roots = absurd (omega (arith, few))

pub found-both : (pages : List Page) (first second : Page) (n : ℕ) → 1 < length pages → AllByRecursion (λ page. IsUnread page.kept) pages → IsRoots first.kept → second.kept ≡ page_content.Counter n
    → AreFound (set (set pages 0 first) 1 second) (Some n)
found-both (x ∷ y ∷ pages) first second n both unread roots counter =
    (elim [ zero ↦ roots | suc zero ↦ (n, counter, refl) | suc (suc k) ↦ all-by-id _ pages unread.1.1 k ], λ few. absurd (omega (arith, few)))
found-both pages first second n both unread roots counter = absurd (omega (arith, both))

-- ---- why they weren't read

-- the first page that is amiss is one of those that were recovered
pub amiss-refuses : (pid : ℕ) (held : List Chain) (pages : List Page) (pointer : DiskPtr) → AllZip IsLoaded held pages → length pages ≤ 2 ^ 37 → pid < length pages
    → ((before : ℕ) → before < pid → IfSome (slice_get held before) (IsFit before))
    → RefusesOwn pid (slice_index_or held pid []) (Corruption (Some pointer)) → RefusesPages held (Corruption (Some pointer))
amiss-refuses pid held pages pointer loaded few lt first r =
    let long : length pages ≡ length held = AllZip-long IsLoaded held pages loaded in
    let is = slice_get-get_or held pid [] (omega (arith, long, lt)) in
    (omega (arith, long, few), record { pid = pid; chain = slice_index_or held pid []; is = is; amiss = r.0; first = first; begins = r.1 })

pub own-refuses : {tells : Type 0} (pid : ℕ) (held : List Chain) (pages : List Page) (refusal : Refusal) → AreRecovered tells held pages → tells → pid < length pages
    → ((before : ℕ) → before < pid → IfSome (slice_get held before) (IsFit before))
    → RefusesOwn pid (slice_index_or held pid []) refusal → RefusesPages held refusal
own-refuses pid held pages refusal are known lt first r =
    grind (arith, λ (pointer : DiskPtr) (r : RefusesOwn pid (slice_index_or held pid []) (Corruption (Some pointer))). amiss-refuses pid held pages pointer (are.kept known) are.few lt first r)

-- ---- the first page that no cache leaves so

pub fits-at : (held : List Chain) (pages : List Page) (counter : Option ℕ) → AllZip IsLoaded held pages → AreFound pages counter
    → (k : ℕ) → IfSome (slice_get pages k) (λ page. is_misfit k page ≡ false) → IfSome (slice_get held k) (IsFit k)
fits-at held pages counter loaded found k fits = if-some (slice_get held k) (λ chain at.
    let paired = zip-first IsLoaded held pages k chain loaded at in
    let page = paired.0 in
    let fit = subst (λ (o : Option Page). IfSome o (λ page. is_misfit k page ≡ false)) paired.1 fits in
    grind (arith, nat_tests, at-id _ pages k page found.0 paired.1, fit, kept-long chain page paired.2.kept, paired.2.kept.holds))

-- ---- the table then

pub all-kept : (held : List Chain) (pages : List Page) → AllZip IsLoaded held pages → AllZip IsKept held pages
all-kept [] [] loaded = tt
all-kept (c ∷ held) (p ∷ pages) loaded = (loaded.0.kept, all-kept held pages loaded.1)
all-kept held pages loaded = absurd loaded

pub all-fresh : (held : List Chain) (pages : List Page) → AllZip IsLoaded held pages → stamps_in pages ≡ map (λ _. 0) pages
all-fresh [] [] loaded = refl
all-fresh (c ∷ held) (p ∷ pages) loaded = ap (λ n. n ∷ stamps_in pages) loaded.0.stamp ∙ ap (λ (l : List ℕ). 0 ∷ l) (all-fresh held pages loaded.1)
all-fresh held pages loaded = absurd loaded

-- ---- which contents lie in memory

pub resident-empty : (held : List Chain) (pages : List Page) → AllZip IsKept held pages → (pid : ℕ) → IfSome (slice_get pages pid) (λ page. IsUnread page.kept)
    → slice_get (resident_in pages) pid ≡ Some true → is_empty effect_of_entry (slice_index_or held pid []) ≡ true
resident-empty held pages all pid unread is =
    grind (arith, slice_get-map (λ (page : Page). is_resident page.kept) pages pid, λ (q : Page) (at : slice_get pages pid ≡ Some q). (kept-at held pages pid q all at).holds)

-- ---- what is told of the pages that are missing

pub events-split : {X : Type 0} (pages : List X) → length pages < 2 → events_of_roots pages ++ counter_event ∷ [] ≡ events_at_start pages
events-split pages h1 = grind arith

-- however many of them came, no batch is open
pub changes-closed : (n : ℕ) (came rest : List (Event Message)) → came ++ rest ≡ drop n (roots_event ∷ counter_event ∷ []) → open_after false came ≡ false
changes-closed n came rest is = ap (open_after false) (sym (take-append_seam came rest) ∙ ap (take (length came)) is) ∙ by (length came) n
  where
    by : (k n : ℕ) → open_after false (take k (drop n (roots_event ∷ counter_event ∷ []))) ≡ false
    by zero n = refl
    by (suc k) zero = by k 1
    by (suc k) (suc zero) = by k 2
    by (suc k) (suc (suc n)) = rw (drop-nil {A = Event Message} n) refl

module _ {L : Type 0} (g : Ghosts L) where
  -- no batch is open then
  pub stays-closed : (old new : StickyLog L) (events : List (Event Message)) → Proceeds g old new events None
      → is_open (g.state old.log).pending ≡ false → open_after false events ≡ false → is_open (g.state new.log).pending ≡ false
  stays-closed old new events done closed marks = done.reaches.opened done.fault ∙ ap (λ b. open_after b events) closed ∙ marks

  -- the pages that are missing are made
  module _ {X : Type 0} (old mid : StickyLog L) (pages : List X) (few : length pages < 2) where
    pub missing-both : (new : StickyLog L) (refusal : Option Refusal) → Proceeds g old mid (events_of_roots pages) None → Proceeds g mid new (counter_event ∷ []) refusal → Proceeds g old new (events_at_start pages) refusal
    missing-both new refusal one two =
        subst (λ (l : List (Event Message)). Proceeds g old new l refusal) (events-split pages few) (proceeds-then g old mid new (events_of_roots pages) (counter_event ∷ []) refusal one two)

    -- and then all is made stable
    pub missing-stable : {T : Type 0} (made new : StickyLog L) (result : Result T Refusal) → Proceeds g old mid (events_of_roots pages) None → Proceeds g mid made (counter_event ∷ []) None
        → Comes g made new [] → IsCaused g made new ⊥ result → Proceeds g old new (events_at_start pages) (refusal_in result)
    missing-stable made new result one two went cause =
        let events = events_at_start pages in
        let done = missing-both made None one two in
        proceeds-ended g old new events result (Went-last g old made new events done.reaches done.fault went) (IsCaused-since g old made new events ⊥ result done.reaches cause)
        (λ none. absurd (let parts = nil-parts (events_of_roots pages) (counter_event ∷ []) (events-split pages few ∙ none) in let e = parts.1 in cc))

-- ---- what the cache is opened with

zeros : (pages : List Page) (held : List Content) → length pages ≡ length held → map (λ (p : Page). 0) pages ≡ map (λ (p : state.StampedPage). p.stamp) (map (state.page 0) held ++ [])
zeros [] [] long = refl
zeros (p ∷ pages) (c ∷ held) long = ap (λ (l : List ℕ). 0 ∷ l) (zeros pages held (omega (arith, long)))
zeros pages held long = absurd (omega (arith, long))

pub opened-with : {tells : Type 0} (config : Config) (chains : List Chain) (pages : List Page) (counter : Option ℕ) (stamps : List ℕ) (next : ℕ) (recovered : Bool)
    → AreRead tells chains pages counter → tells → stamps ≡ stamps_at_start pages → next ≡ next_id config.idgen_persist_interval counter → recovered ≡ is_some counter
    → (held : List Content) → Hold (map messages_of chains) held → IsOpenedWith config held stamps next recovered
opened-with config chains pages counter stamps next recovered are known stamps-are next-is recovered-is = by chains pages (are.kept known) are.hold stamps-are
  where
    by : (chains : List Chain) (pages : List Page) → AllZip IsLoaded chains pages → AreFound pages counter → stamps ≡ stamps_at_start pages
        → (held : List Content) → Hold (map messages_of chains) held → IsOpenedWith config held stamps next recovered
    by [] [] loaded found stamps-are [] hold = record { stamps_are = stamps-are; next_is = next-is ∙ ap (next_id config.idgen_persist_interval) (found.1 (omega arith)); recovered_is = recovered-is ∙ ap is_some (found.1 (omega arith)) }
    by (c ∷ []) (p ∷ []) loaded found stamps-are (x ∷ []) hold = record { stamps_are = stamps-are; next_is = next-is ∙ ap (next_id config.idgen_persist_interval) (found.1 (omega arith)); recovered_is = recovered-is ∙ ap is_some (found.1 (omega arith)) }
    by (c ∷ d ∷ chains) (p ∷ q ∷ pages) loaded found stamps-are (x ∷ y ∷ held) hold =
        let long : length pages ≡ length held = omega (arith, AllZip-long IsLoaded chains pages loaded.1.1, AllZip-long Holds (map messages_of chains) held hold.1.1, length-map chains messages_of) in
        let read = found.0 1 in
        record {
          stamps_are = rw (drop-nil {A = Content} (length held)) (stamps-are ∙ zeros (p ∷ q ∷ pages) (x ∷ y ∷ held) (omega (arith, long)));
          next_is = grind (arith, next-is, read.2, holds-made (messages_of d) y (Counter read.0) hold.1.0 (subst (HoldsChain d) read.1 loaded.1.0.kept.holds));
          recovered_is = recovered-is ∙ ap is_some read.2;
        }
    by chains pages loaded found stamps-are held hold = absurd (assumption (loaded, hold))

-- ---- what lies in memory once a cache was opened

-- no node lies in memory, and none is listed
pub opened-bounded : {L : Type 0} (g : Ghosts L) (next : ℕ) (config : Config) (recovered : Bool) (lru : Recency) (sticky_log : StickyLog L) (pages : List Page) (free : List ℕ) → IsConsistent g.tells g.state sticky_log pages free
    → ((pid : ℕ) → 2 ≤ pid → IfSome (slice_get pages pid) (λ page. IsUnread page.kept)) → IsUnused config.cache_capacity lru → IsSound lru → IsBounded g (view next config recovered lru sticky_log pages)
opened-bounded g next config recovered lru sticky_log pages free is unread unused sound = record {
  listed = λ pid size has. absurd (elim (slice_get_cases pages pid).1 [
    | inl w ↦ none-at next next config recovered lru sticky_log sticky_log pages pid w.0 w.2
        (grind (arith, at-id _ pages pid w.0 is.own w.2, λ (from : 2 ≤ pid). subst (λ (o : Option Page). IfSome o (λ page. IsUnread page.kept)) w.2 (unread pid from))) size has
    | inr w ↦ past-view next next config recovered lru sticky_log sticky_log pages pid w.0 size has
  ]);
  sized = sized-view g next config recovered lru sticky_log pages free is;
  sound = sound;
  capacity = unused.capacity;
}
