-- The pages of the state that a cache is in, beside those of its table.
use Rattle.sled_pagecache.proofs.Names.{◌≡◌, ◌≤◌, ◌<◌, ℕ, zero, suc, Bool, true, false, List, [], ◌∷◌, ◌++◌, length, map, Some, None, slice_get, slice_set, refl, sym, ◌∙◌, ap, subst, arith, length-map, same_Some, AllZip-long, AllZip, is_freeing, is_empty, Content, Node, Put, effect_of_update, Chain, Entry, Messages, messages_of, effect_of, effect_of_entry, LeadTo, Makes, Holds, Hold, reads_effect, Ghosts, applied, WholeNode, Cache, Represents, Logged, HoldsChain, IsKept, State, stamps_in, resident_in, IsBeside, CacheInfo, PageContent, KeptPage, LogState, now, slice_get_past, get_set_there, last-at, map-at, past-end, holds_now}
use Rattle.sled_pagecache.proofs.Table.PageChains.{kept-long}
use Rattle.sled_pagecache.specs.Table as kept_table
use Rattle.sled_pagecache.specs.Inside.PageEntry as kept
use Rattle.sled_pagecache.specs.State.{StampedPage, is_free}
use Rattle.sled_pagecache.specs.declared.pagecache.table.page_entry.PageContent.TheVariants as held

-- ---- a chain is empty where what it makes is free

lead-free : (first : Content) (messages : Messages) (content : Content) → LeadTo first messages content → is_free first ≡ is_free content
lead-free first [] content leads = ap is_free leads
lead-free first (m ∷ messages) content (node, link, is, reads, accepts, leads) = ap is_free is ∙ lead-free (Node (applied link node)) messages content leads

chain-free : (chain : Chain) (content : Content) → Makes (messages_of chain) content → is_empty effect_of_entry chain ≡ is_free content
chain-free [] content makes = absurd makes
chain-free (entry ∷ chain) content (first, reads, leads) =
    let put : is_freeing (effect_of_update (Put first)) ≡ is_free first = grind arith in
    ap is_freeing (reads_effect entry.message.kind entry.message.payload (Put first) reads) ∙ put ∙ lead-free first (messages_of chain) content leads

-- a chain that makes a node isn't
pub node-full : (chain : Chain) (node : WholeNode) → Makes (messages_of chain) (Node node) → is_empty effect_of_entry chain ≡ false
node-full chain node makes = chain-free chain (Node node) makes

pub full-unplaced : (chain : Chain) → is_empty effect_of (messages_of chain) ≡ is_empty effect_of_entry chain
full-unplaced chain = grind arith

-- the same of what its page holds
pub holds-free : (chain : Chain) (content : Content) → Holds (messages_of chain) content → is_empty effect_of_entry chain ≡ is_free content
holds-free chain content holds = grind (arith, chain-free chain content, full-unplaced chain)

pub kept-free : (chain : Chain) (page : PageContent) → HoldsChain chain page → is_empty effect_of_entry chain ≡ kept_table.is_free page
kept-free chain page holds = grind (arith, chain-free chain)

-- ---- the pages of the state are those of the table

-- the page is at the stamp of the one that is kept, and free where that is
pub record IsKnown (page : StampedPage) (kept_page : KeptPage) : Type 0 where
  pub stamp : page.stamp ≡ kept_page.stamp
  pub free : is_free page.content ≡ kept_table.is_free kept_page.kept

abbrev pub AreKnown : List StampedPage → List KeptPage → Type 0
AreKnown = AllZip IsKnown

are-known : (pages : List StampedPage) (chains : List Chain) (table : List KeptPage)
    → map (λ (p : StampedPage). p.stamp) pages ≡ stamps_in table → Hold (map messages_of chains) (map (λ (p : StampedPage). p.content) pages) → AllZip IsKept chains table → AreKnown pages table
are-known [] chains [] same holds beside = tt
are-known (p ∷ pages) (chain ∷ chains) (q ∷ table) same holds beside = (
  record { stamp = cc; free = sym (holds-free chain p.content holds.0) ∙ kept-free chain q.kept beside.0.holds },
  are-known pages chains table (cc) holds.1 beside.1,
)
are-known pages chains table same holds beside = grind arith

module _ {L : Type 0} (g : Ghosts L) where
  -- in whatever state the cache is
  pub known-in : (cache : Cache L) (table : List KeptPage) (held_by : Logged) (s : State)
      → Represents g cache held_by s → s.fault ≡ false → cache.stamps ≡ stamps_in table → IsBeside g.tells g.state cache.log table → AreKnown s.pages table
  known-in cache table held_by s is clear same beside =
      are-known s.pages (now effect_of_entry (g.state cache.log)) table (is.stamps ∙ same)
      (subst (λ (l : List Content). Hold (map messages_of (now effect_of_entry (g.state cache.log))) l) (sym (is.known clear).contents) (holds_now (g.state cache.log) held_by (is.known clear).logged))
      (beside.kept is.tells)

-- ---- one of them

pub known-length : (pages : List StampedPage) (table : List KeptPage) → AreKnown pages table → length pages ≡ length table
known-length pages table known = sym (AllZip-long IsKnown pages table known)

-- the page of the state where the table keeps one
pub record IsFound (pages : List StampedPage) (pid : ℕ) (kept_page : KeptPage) : Type 0 where
  pub page : StampedPage
  pub is : slice_get pages pid ≡ Some page
  pub known : IsKnown page kept_page

pub found-known : (pages : List StampedPage) (table : List KeptPage) (pid : ℕ) (q : KeptPage) → AreKnown pages table → slice_get table pid ≡ Some q → IsFound pages pid q
found-known (p ∷ pages) (k ∷ table) zero q known at = record { page = p; is = refl; known = subst (IsKnown p) (same_Some k q at) known.0 }
found-known (p ∷ pages) (k ∷ table) (suc pid) q known at =
    let rest = found-known pages table pid q known.1 at in record { page = rest.page; is = rest.is; known = rest.known }
found-known pages table pid q known at = absurd (grind arith)

-- there is none where the table ends
pub found-none : (pages : List StampedPage) (table : List KeptPage) (pid : ℕ) → AreKnown pages table → slice_get table pid ≡ None → slice_get pages pid ≡ None
found-none pages table pid known at = slice_get_past pages pid (let past = past-end table pid at in let long = known-length pages table known in omega (arith, past, long))

-- ---- the table

-- it has a page for each chain
pub beside-long : {L : Type 0} (tells : Type 0) (state : L → LogState Entry) (l : L) (table : List KeptPage) → IsBeside tells state l table → tells → length table ≡ length (now effect_of_entry (state l))
beside-long tells state l table beside unplaced = AllZip-long IsKept (now effect_of_entry (state l)) table (beside.kept unplaced)

-- a page lies in memory where its content does
pub resident-set : (table : List KeptPage) (pid : ℕ) (page : KeptPage) → pid < length table → kept.is_resident page.kept ≡ true → slice_get (resident_in (slice_set table pid page)) pid ≡ Some true
resident-set table pid page there holds = map-at (λ (q : KeptPage). kept.is_resident q.kept) (slice_set table pid page) pid page (get_set_there table pid page there) ∙ ap (λ (b : Bool). Some b) holds

pub resident-add : (table : List KeptPage) (page : KeptPage) (node : WholeNode) → page.kept ≡ held.Node node → slice_get (resident_in (table ++ page ∷ [])) (length table) ≡ Some true
resident-add table page node holds = map-at (λ (q : KeptPage). kept.is_resident q.kept) (table ++ page ∷ []) (length table) page (last-at table page) ∙ ap (λ (q : PageContent). Some (kept.is_resident q)) holds

-- a page of one message has a chain of one
pub one-long : (chain : Chain) (page : KeptPage) → IsKept chain page → map (λ (info : CacheInfo). info.ts) page.infos.items ≡ page.stamp ∷ [] → length chain ≡ 1
one-long chain page is one = kept-long chain page is ∙ sym (length-map page.infos.items (λ (info : CacheInfo). info.ts)) ∙ ap length one

pub one-short : (page : KeptPage) → map (λ (info : CacheInfo). info.ts) page.infos.items ≡ page.stamp ∷ [] → length page.infos.items ≤ 10
one-short page one = let same : length page.infos.items ≡ 1 = sym (length-map page.infos.items (λ (info : CacheInfo). info.ts)) ∙ ap length one in omega (arith, same)
