-- The counter of generated ids stays durable as far as the next id needs it.
use Rattle.sled_pagecache.proofs.Names.{Put, Cancel, Change, Pin, Seal, Chain, Entry, IsUpdate, reads_effect, CountsAgain, Bool, cond, inl, inr, refl, take, true, ne_eqb, get_or-set_same, get_or_past, AllZip, StaysCounted, ◌==◌, AllByRecursion, AreFound, IsFoundAt, Makes, map, Config, Content, Counter, Err, Event, Ghosts, Holds, HoldsChain, Io, IsConsistent, IsKept, IsLogged, IsPagedOut, List, Logged, Message, Messages, None, Option, Page, Read, Refusal, Result, Some, StickyLog, Went, Write, [], ap, arith, begun_by, drop, effect_of, effect_of_entry, fault_of, false, get_or-map, holds-made, length, next_id, slice_get, slice_get-get_or, slice_index_or, slice_set, suc, sym, subst, messages_of, unplaced_events, unplaced_state, zero, ℕ, ⊎_elim, ◌*◌, ◌++◌, ◌+◌, ◌<◌, ◌∙◌, ◌∷◌, ◌≡◌, true≢false, ◌≢◌, ◌≤◌, cases_lt, NodeLink, IsCounted, IsWhole, SparesCounter, IsBelowCounter, RefusesAppended, interval_start, is_write_fault, at-id, Token, zip-first, kept-at, other-at as set-other, other-before, set-at, eqb_tells}
use Rattle.std.proofs.Math.ListN.{get_or-append}
use Rattle.std.proofs.lemmas.List.{get_or-set_other}
use Rattle.sled_base.specs.declared.kinds.LogKind.{LogKind}
use Rattle.sled_base.specs.declared.kinds.LogKind.TheVariants as effects
use Rattle.sled_log.specs.Chains.{chains_with_new, chains_with_change, chains_from, chains_after}
use Rattle.sled_log.specs.LogState as log
use Rattle.sled_pagecache.proofs.CacheLog.ProperPages.{all-append}
use Rattle.sled_pagecache.specs.Inside.CounterPage.{IsCounterIn}
use Rattle.sled_pagecache.specs.declared.pagecache.table.page_entry.PageContent.TheVariants as page_content

-- ---- lists

all-take : {X : Type 0} (P : X → Type 0) (n : ℕ) (xs : List X) → AllByRecursion P xs → AllByRecursion P (take n xs)
all-take P zero xs all = tt
all-take P (suc n) [] all = tt
all-take P (suc n) (x ∷ xs) all = (all.0, all-take P n xs all.1)

all-drop : {X : Type 0} (P : X → Type 0) (n : ℕ) (xs : List X) → AllByRecursion P xs → AllByRecursion P (drop n xs)
all-drop P zero xs all = all
all-drop P (suc n) [] all = all
all-drop P (suc n) (x ∷ xs) all = all-drop P n xs all.1

pub other-at : (table : List Page) (pid : ℕ) (page : Page) → pid ≢ 1 → slice_get (slice_set table pid page) 1 ≡ slice_get table 1
other-at table pid page other = set-other table pid 1 page (λ e. other (sym e))

pub added-at : (table : List Page) (page : Page) → 2 ≤ length table → slice_get (table ++ page ∷ []) 1 ≡ slice_get table 1
added-at table page both = other-before table page 1 (λ last. omega (arith, both, last))

-- ---- the chain of the counter's page

-- messages leave the counter
abbrev pub Leave : List (Event Message) → ℕ → Type 0
Leave events n = AllByRecursion (SparesCounter (CountsAgain n)) events

abbrev Counts : List Messages → ℕ → Type 0
Counts chains n = Makes (slice_index_or chains 1 []) (Counter n)

counts-within : (chains : List Messages) (n : ℕ) → Counts chains n → 1 < length chains
counts-within chains n made = grind (arith, get_or_past chains 1 [])

-- a new chain of another page
other-new : (chains : List Messages) (id : ℕ) (m : Message) (n : ℕ) → id ≢ 1 → Counts chains n → Counts (chains_with_new effect_of chains id m) n
other-new chains id m n apart made = by (id == length chains)
  where
    by : (b : Bool) → Counts (cond b (chains ++ (m ∷ []) ∷ []) (slice_set chains id (m ∷ []))) n
    by true = subst (λ c. Makes c (Counter n)) (sym (get_or-append chains ((m ∷ []) ∷ []) [] 1 (counts-within chains n made))) made
    by false = subst (λ c. Makes c (Counter n)) (sym (get_or-set_other chains id 1 (m ∷ []) [] (λ e. apart (sym e)))) made

-- or of the page itself, where it holds the counter again
own-new : (chains : List Messages) (m : Message) (n : ℕ) → IsUpdate m (Put (Counter n)) → Counts chains n → Counts (chains_with_new effect_of chains 1 m) n
own-new chains m n puts made =
    let lt = counts-within chains n made in
    rw (ne_eqb 1 (length chains) (λ e. omega (arith, e, lt)))
    (subst (λ c. Makes c (Counter n)) (sym (get_or-set_same chains 1 (m ∷ []) [] lt)) (Counter n, puts, refl))

other-change : (kind : LogKind) (chains : List Messages) (id : ℕ) (m : Message) (n : ℕ) → id ≢ 1 → Counts chains n → Counts (chains_with_change effect_of kind chains id m) n
other-change effects.Free chains id m n apart made = other-new chains id m n apart made
other-change effects.Replace chains id m n apart made = other-new chains id m n apart made
other-change effects.Link chains id m n apart made = subst (λ c. Makes c (Counter n)) (sym (get_or-set_other chains id 1 _ [] (λ e. apart (sym e)))) made
other-change effects.Skip chains id m n apart made = made
other-change effects.Corrupted chains id m n apart made = made

counts-from : (chains : List Messages) (event : Event Message) (n : ℕ) → SparesCounter (CountsAgain n) event → Counts chains n → Counts (chains_from effect_of chains event) n
counts-from chains (Change id m) n (inl apart) made = other-change (effect_of m) chains id m n apart made
counts-from chains (Change id m) n (inr puts) made = elim (eqb_tells id 1) [
  | inl same ↦ rw (same.1, reads_effect m.kind m.payload (Put (Counter n)) puts) (own-new chains m n puts made)
  | inr apart ↦ other-change (effect_of m) chains id m n apart.1 made
]
counts-from chains Pin n spared made = made
counts-from chains Seal n spared made = made
counts-from chains Cancel n spared made = made

counts-after : (chains : List Messages) (events : List (Event Message)) (n : ℕ) → Leave events n → Counts chains n → Counts (chains_after effect_of chains events) n
counts-after chains [] n leave made = made
counts-after chains (event ∷ events) n leave made = counts-after (chains_from effect_of chains event) events n leave.1 (counts-from chains event n leave.0 made)

-- the counter stays counted behind them
pub stays-counted : (old new : log.LogState Message) (events : List (Event Message)) (n : ℕ) → log.Adds effect_of old events new → Leave events n → StaysCounted n old → StaysCounted n new
stays-counted old new events n added leave stays =
    let all : Leave (old.pending ++ events) n = all-append _ old.pending events stays.pending leave in
    record {
      durable = rw added.stable (counts-after old.stable (take added.cut (old.pending ++ events)) n (all-take _ added.cut _ all) stays.durable);
      pending = rw added.pending (all-drop _ added.cut _ all);
    }

-- ---- calls

-- unless a write fault is kept, messages came that leave the counter
abbrev pub Spares : {L : Type 0} → Ghosts L → StickyLog L → StickyLog L → Type 0
Spares g old new = g.tells → new.fault ≡ false → (events : List (Event Message)) × Went g old new events × ((n : ℕ) → Leave events n)

-- one of another page
pub spares-other : {L : Type 0} (g : Ghosts L) {old new : StickyLog L} {pid : ℕ} {m : Message} → pid ≢ 1 → Went g old new (Change pid m ∷ []) → Spares g old new
spares-other g {pid = pid} {m = m} apart went = λ told clear. (Change pid m ∷ [], went, λ n. (inl apart, tt))

pub spares-none : {L : Type 0} (g : Ghosts L) {old new : StickyLog L} → Went g old new [] → Spares g old new
spares-none g went = λ told clear. ([], went, λ n. tt)

module _ {L : Type 0} (g : Ghosts L) {old new : StickyLog L} where
  -- a refused call adds nothing, or keeps a write fault
  pub spares-refused : (T : Type 0) (refusal : Refusal) (events : List (Event Message)) → (let told : Result T Refusal = Err refusal in Went g old new (begun_by told events) × (new.fault ≡ is_write_fault told)) → Spares g old new
  spares-refused T (Io Write) events refused = λ told clear. absurd (true≢false (sym refused.1 ∙ clear))
  spares-refused T (Io Read) events refused = spares-none g refused.0
  spares-refused T refusal events refused = spares-none g refused.0

  pub spares-link : (T : Type 0) (pid : ℕ) (q : Page) (link : NodeLink) (refusal : Refusal) → (g.tells → RefusesAppended g old pid q link new refusal) → (let told : Result T Refusal = Err refusal in new.fault ≡ is_write_fault told) → Spares g old new
  spares-link T pid q link refusal refused fault = λ told clear.
      ⊎_elim (λ none. ([], none.0, λ n. tt)) (λ stuck. absurd (true≢false (sym (fault ∙ ap (λ (e : Refusal). let told : Result T Refusal = Err e in is_write_fault told) stuck.0) ∙ clear))) (refused told)

  module _ {k next : ℕ} {table : List Page} {free : List ℕ} (whole : IsWhole g.tells g.state k next old table free) (ready : old.fault ≡ false) where
    -- the counter's page stays as it was
    pub whole-added : (g.tells → new.fault ≡ false → (events : List (Event Message)) × log.Adds effect_of (unplaced_state (g.state old.log)) events (unplaced_state (g.state new.log))
        × ((page : Page) (n : ℕ) → slice_get table 1 ≡ Some page → page.kept ≡ page_content.Counter n → Leave events n))
        → {pages : List Page} {free_then : List ℕ} → slice_get pages 1 ≡ slice_get table 1 → IsConsistent g.tells g.state new pages free_then → IsWhole g.tells g.state k next new pages free_then
    whole-added spares {pages} {free_then} same consistent = record {
      consistent = consistent;
      positive = whole.positive;
      counted = λ some clear told page n at holds few.
          let before = whole.counted some ready told page n (sym same ∙ at) holds few in
          let came = spares told clear in
          stays-counted (unplaced_state (g.state old.log)) (unplaced_state (g.state new.log)) came.0 n came.1 (came.2 page n (sym same ∙ at) holds) before;
    }

    pub whole-then : Spares g old new → {pages : List Page} {free_then : List ℕ} → slice_get pages 1 ≡ slice_get table 1 → IsConsistent g.tells g.state new pages free_then → IsWhole g.tells g.state k next new pages free_then
    whole-then spares = whole-added (λ told clear. let came = spares told clear in (came.0, came.1.added told clear, λ page n _ _. came.2 n))

pub behind-counter : (pid : ℕ) → 2 ≤ pid → pid ≢ 1
behind-counter pid from is = omega (arith, from, is)

-- the chain of the counter's page makes the counter that is kept
counts-kept : (chains : List Chain) (table : List Page) (page : Page) (n : ℕ) → AllZip IsKept chains table → slice_get table 1 ≡ Some page → page.kept ≡ page_content.Counter n → Counts (map messages_of chains) n
counts-kept chains table page n beside at holds =
    subst (λ (m : Messages). Makes m (Counter n)) (sym (get_or-map messages_of chains 1 [])) (subst (HoldsChain (slice_index_or chains 1 [])) holds (kept-at chains table 1 page beside at).holds)

-- what is stable is all, where nothing is pending
stable-now : (state : log.LogState Entry) → state.pending ≡ [] → map messages_of (log.now effect_of_entry state) ≡ (unplaced_state state).stable
stable-now state none = rw none refl

module _ {L : Type 0} (g : Ghosts L) (k next : ℕ) (sticky_log : StickyLog L) (table : List Page) where
  -- nothing is pending
  pub counted-stable : (sticky_log.fault ≡ false → g.tells → AllZip IsKept (log.now effect_of_entry (g.state sticky_log.log)) table) → (g.state sticky_log.log).pending ≡ [] → IsCounted g.tells g.state k next sticky_log table
  counted-stable beside none some clear told page n at holds few = record {
    durable = subst (λ (l : List Messages). Counts l n) (stable-now (g.state sticky_log.log) none) (counts-kept (log.now effect_of_entry (g.state sticky_log.log)) table page n (beside clear told) at holds);
    pending = subst (λ l. AllByRecursion (SparesCounter (CountsAgain n)) (unplaced_events l)) (sym none) tt;
  }

  -- a page left memory
  pub counted-out : IsCounted g.tells g.state k next sticky_log table → (pid : ℕ) (q out : Page) → slice_get table pid ≡ Some q → IsPagedOut q out → IsCounted g.tells g.state k next sticky_log (slice_set table pid out)
  counted-out counted pid q out there is some clear told page n at holds few =
      ⊎_elim (λ same. counted some clear told q n (sym (ap (slice_get table) same.1) ∙ there) (let back : q.kept ≡ page_content.Counter n = grind (arith, set-at) in back) few)
      (λ other. counted some clear told page n (sym (other-at table pid out other.1) ∙ at) holds few) (eqb_tells pid 1)

-- ---- numbers

-- the id behind the next one needs no less
pub whole-next : {L : Type 0} (g : Ghosts L) {k next : ℕ} {sticky_log : StickyLog L} {table : List Page} {free : List ℕ} → IsWhole g.tells g.state k next sticky_log table free → IsWhole g.tells g.state k (next + 1) sticky_log table free
whole-next g {k} {next} whole = record {
  consistent = whole.consistent;
  positive = whole.positive;
  counted = λ some clear told page n at holds few. whole.counted some clear told page n at holds (let up : interval_start k next ≤ interval_start k (next + 1) = grind arith in omega (arith, up, few));
}

-- ---- what is durable

-- an id that the counter covers, as far as is durable
pub covered-next : {L : Type 0} (g : Ghosts L) {k next : ℕ} {sticky_log : StickyLog L} {table : List Page} {free : List ℕ} → IsWhole g.tells g.state k next sticky_log table free → sticky_log.fault ≡ false
    → {counter : Token × ℕ} → IsCounterIn table counter → interval_start k next ≤ interval_start k counter.1 → g.tells → (held : Logged) → IsLogged (unplaced_state (g.state sticky_log.log)) held → IsBelowCounter k held.stable next
covered-next g {k} {next} {sticky_log} {table} whole clear {counter} found few told held logged =
    let stays = whole.counted whole.positive clear told found.page counter.1 found.at found.counter few in
    let state = unplaced_state (g.state sticky_log.log) in
    let within = counts-within state.stable counter.1 stays.durable in
    let stands = zip-first Holds state.stable held.stable 1 _ logged.stable (slice_get-get_or state.stable 1 [] within) in
    let counts = stands.1 ∙ ap (λ (content : Content). Some content) (holds-made _ stands.0 (Counter counter.1) stands.2 stays.durable) in
    let some = whole.positive in
    let below : next < counter.1 + k = grind arith in
    (counter.1, counts, below)

-- ---- an opening

pub positive : (config : Config) → fault_of config ≡ None → 0 < config.idgen_persist_interval
positive config sound = grind arith

-- A counter that was found is two intervals below the next id, and else all is durable.
pub opened-counted : {L : Type 0} (g : Ghosts L) (k : ℕ) (sticky_log : StickyLog L) (table pages : List Page) (counter : Option ℕ)
    → (sticky_log.fault ≡ false → g.tells → AllZip IsKept (log.now effect_of_entry (g.state sticky_log.log)) pages) → AreFound table counter
    → (1 < length table → pages ≡ table) → (length table < 2 → (g.state sticky_log.log).pending ≡ []) → IsCounted g.tells g.state k (next_id k counter) sticky_log pages
opened-counted g k sticky_log table pages counter beside found same stable some clear told page n at holds needs =
    ⊎_elim (λ many.
    let own = at-id (λ pid (page : Page). IsFoundAt counter pid page.kept) table 1 page found.0 (sym (ap (λ (l : List Page). slice_get l 1) (same many)) ∙ at) in
    absurd (let more : interval_start k (n + 2 * k) ≤ interval_start k n = subst (λ c. interval_start k (next_id k c) ≤ interval_start k n) (own.2 ∙ ap (λ m. Some m) (let same : own.0 ≡ n = cc in same)) needs in grind arith))
    (λ few. counted-stable g k (next_id k counter) sticky_log pages beside (stable (omega (arith, few))) some clear told page n at holds needs) (cases_lt 1 (length table))
