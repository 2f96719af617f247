-- Allocating a page, as a step of the machine.
use Rattle.sled_pagecache.proofs.Names.{Recency, ◌≡◌, ◌≢◌, inl, inr, ◌≤◌, ◌+◌, ◌-◌, ◌^◌, ℕ, suc, Bool, true, false, cond, List, [], ◌∷◌, ◌++◌, length, take, Option, Some, None, Result, Ok, Err, slice_get, slice_set, refl, sym, ◌∙◌, ap, arith, eq-eqb, ne_eqb, slice_get_within, Error, Unsupported, Refusal, PagesUsedUp, StampUsedUp, Node, Put, Change, IsUpdate, message_of, Ghosts, WholeNode, RefusesPage, Cache, chain_length, HasNoRoom, ActOver, Represents, Acts, Went, IsCaused, begun_by, Logged, free_ids, page, State, with_page, free_token, later_token, greatest_free, Outcome, outcome, no_change, RefusesSwap, AreOwn, IsConsistent, Token, token, Allocated, Allocate, Config, StickyLog, error_by, StampedPage, KeptPage, at-id, view, length-append, nil_from_length, take_more, past-end, get_or_from_slice_get, take_all, AddsPage, ReusesPage}
use Rattle.sled_pagecache.proofs.Steps.Puts.{unless-clear, MayPut, may-set, may-add, nothing-appended, put-refused, put-set, put-added}
use Rattle.sled_pagecache.proofs.Table.StatePages.{AreKnown, known-length}
use Rattle.sled_pagecache.specs.Table as shown

-- ---- the last of a list

pub ends-nowhere : (xs : List ℕ) → slice_get xs (length xs - 1) ≡ None → xs ≡ []
ends-nowhere xs at = nil_from_length xs (omega (arith, past-end xs (length xs - 1) at))

-- ---- the free page with the greatest id

nil_behind : (b : Bool) (x : ℕ) (xs ys : List ℕ) → cond b (x ∷ xs) ys ≡ [] → (b ≡ false) × (ys ≡ [])
nil_behind b x xs ys none = grind arith

-- no page is free
pub none-free : (first : ℕ) (table : List KeptPage) → free_ids first table ≡ [] → (pages : List StampedPage) → AreKnown pages table → greatest_free first pages ≡ None
none-free first [] none [] known = refl
none-free first (q ∷ table) none (p ∷ pages) known =
    let full = nil_behind (shown.is_free q.kept) first _ _ none in
    rw (none-free (first + 1) table full.1 pages known.1, known.0.free, full.0)
none-free first table none pages known = absurd known

-- the last free id, and its page
pub record IsLastFree (first : ℕ) (table : List KeptPage) (before : List ℕ) (pid : ℕ) : Type 0 where
  pub place : ℕ
  pub is : pid ≡ first + place
  pub page : KeptPage
  pub at : slice_get table place ≡ Some page
  pub free : shown.is_free page.kept ≡ true
  pub taken : (other : KeptPage) → shown.is_free other.kept ≡ false → free_ids first (slice_set table place other) ≡ before
  pub greatest : (pages : List StampedPage) → AreKnown pages table → greatest_free first pages ≡ Some (token pid page.stamp)

pub last-free : (first : ℕ) (table : List KeptPage) (before : List ℕ) (pid : ℕ) → free_ids first table ≡ before ++ pid ∷ [] → IsLastFree first table before pid
last-free first [] before pid is = absurd (omega (arith, length-append before (pid ∷ []), ap length is))
last-free first (q ∷ table) before pid is = by (shown.is_free q.kept) refl before is (λ rest. last-free (first + 1) table rest pid)
  where
    -- one of the others is the last
    behind : (b : Bool) (rest before : List ℕ) → shown.is_free q.kept ≡ b → cond b (first ∷ rest) rest ≡ before → IsLastFree (first + 1) table rest pid → IsLastFree first (q ∷ table) before pid
    behind b rest before is_b same last = record {
      place = suc last.place;
      is = let is = last.is in omega arith;
      page = last.page;
      at = last.at;
      free = last.free;
      taken = λ other no. let others = last.taken other no in rw (is_b, others) same;
      greatest = elim [ [] ↦ λ known. absurd known | p ∷ pages ↦ λ known. ap (λ o. later_token o (free_token first p)) (last.greatest pages known.1) ];
    }

    by : (b : Bool) → shown.is_free q.kept ≡ b → (before : List ℕ) → cond b (first ∷ free_ids (first + 1) table) (free_ids (first + 1) table) ≡ before ++ pid ∷ []
        → ((rest : List ℕ) → free_ids (first + 1) table ≡ rest ++ pid ∷ [] → IsLastFree (first + 1) table rest pid) → IsLastFree first (q ∷ table) before pid
    by false full before is others = behind false before before full refl (others before is)
    by true free (n ∷ before) is others = behind true before (n ∷ before) free (cc) (others before (cc))
    -- this one is
    by true free [] is others =
        let same : first ≡ pid = cc in
        let none : free_ids (first + 1) table ≡ [] = cc in
        record {
          place = 0;
          is = omega arith;
          page = q;
          at = refl;
          free = free;
          taken = λ other no. rw no none;
          greatest = elim [ [] ↦ λ known. absurd known | p ∷ pages ↦ λ known. rw (none-free (first + 1) table none pages known.1, known.0.free, free, known.0.stamp, same) ];
        }

pub last-at : (table : List KeptPage) (front : List ℕ) (pid : ℕ) (last : IsLastFree 0 table front pid) → slice_get table pid ≡ Some last.page
last-at table front pid last = ap (slice_get table) (let is = last.is in let place : pid ≡ last.place = omega arith in place) ∙ last.at

-- the last of the ids that are kept, which was read, is such a one
pub last-read : (table : List KeptPage) (free : List ℕ) (read : Option ℕ) (pid : ℕ) → free ≡ free_ids 0 table
    → read ≡ slice_get free (length free - 1) → read ≡ Some pid → IsLastFree 0 table (take (length free - 1) free) pid
last-read table free read pid kept at is =
    let last = sym at ∙ is in
    let within = slice_get_within free (length free - 1) pid last in
    let ends : take (length free - 1 + 1) free ≡ take (length free - 1) free ++ pid ∷ [] = take_more free (length free - 1) pid within ∙ ap (λ id. take (length free - 1) free ++ id ∷ []) (get_or_from_slice_get free (length free - 1) pid pid last) in
    last-free 0 table (take (length free - 1) free) pid (sym kept ∙ sym (take_all (length free - 1 + 1) free (omega arith)) ∙ ends)

-- it is free no more
pub taken-last : (table : List KeptPage) (front : List ℕ) (pid : ℕ) (last : IsLastFree 0 table front pid) (changed : KeptPage) → shown.is_free changed.kept ≡ false → front ≡ free_ids 0 (slice_set table pid changed)
taken-last table front pid last changed full =
    sym (last.taken changed full) ∙ ap (λ n. free_ids 0 (slice_set table n changed)) (let is = last.is in let place : last.place ≡ pid = omega arith in place)

-- it isn't one of the cache's own
pub free-from : (table : List KeptPage) (pid : ℕ) (q : KeptPage) → AreOwn table → slice_get table pid ≡ Some q → shown.is_free q.kept ≡ true → 2 ≤ pid
free-from table pid q own at free = let fits = at-id _ table pid q own at in grind arith

-- ---- the call, told of the table

module _ {L : Type 0} (g : Ghosts L) (next : ℕ) (config : Config) (recovered : Bool) (lru : Recency) (before : StickyLog L) (table : List KeptPage) (free : List ℕ) (ready : before.fault ≡ false) (kept : IsConsistent g.tells g.state before table free)
    (node : WholeNode) (after : StickyLog L) (pages : List KeptPage) (reads : IsUpdate (message_of (Put (Node node))) (Put (Node node))) where
  abbrev cache : StickyLog L → List KeptPage → Cache L
  cache sticky_log now = view next config recovered lru sticky_log now

  -- no page is free
  module _ (none : free ≡ []) where
    adds : (s : State) → s.fault ≡ false → AreKnown s.pages table → (answer : Result (ℕ × Token) Error) (out : Outcome) → AddsPage (chain_length g.state (cache before table)) (HasNoRoom g before.log) s node answer out → ActOver g (cache before table) s (Allocate node) (Allocated answer) out
    adds s clear are answer out h = unless-clear s answer out _ clear (rw (none-free 0 table (sym kept.free ∙ none) s.pages are) h)

    may-new : length table ≢ 2 ^ 37 → (held : Logged) (s : State) → Represents g (cache before table) held s → s.fault ≡ false → MayPut g before.log held (length table) (Node node)
    may-new room held s is clear = may-add g next config recovered lru before table ready (kept.beside ready) held s is clear node kept.both (let few = kept.few in omega (arith, few, room))

    pub adds-refused : pages ≡ table → (refusal : Refusal) → RefusesPage (length table) refusal
        → (let told : Result (Unit {0}) Refusal = Err refusal in Went g before after (begun_by told (Change (length table) (message_of (Put (Node node))) ∷ [])))
        → (let told : Result (Unit {0}) Refusal = Err refusal in IsCaused g before after (g.is_full before.log (length (message_of (Put (Node node))).payload)) told)
        → Acts g (cache before table) (Allocate node) (Allocated (Err (error_by refusal))) (cache after pages)
    adds-refused back refusal (inl (many, is)) =
        rw is (λ went cause. nothing-appended g next config recovered lru before table ready (kept.beside ready) after (Allocate node) pages back (Allocated (Err (Unsupported PagesUsedUp))) went cause.fault
        (λ held s _ clear are. adds s clear are (Err (Unsupported PagesUsedUp)) (no_change s) (rw (eq-eqb (length s.pages) (2 ^ 37) (known-length s.pages table are ∙ many)) (refl, refl))))
    adds-refused back refusal (inr (room, of)) =
        put-refused g next config recovered lru before table ready (kept.beside ready) after (Allocate node) (length table) (Node node) reads (may-new room) (Unit {0}) pages back (λ e. Allocated (Err e))
        (λ held s _ clear are e out fails. adds s clear are (Err e) out (rw (known-length s.pages table are, ne_eqb (length table) (2 ^ 37) room) fails))
        refusal of

    pub adds-done : length table ≢ 2 ^ 37 → Went g before after (Change (length table) (message_of (Put (Node node))) ∷ []) → after.fault ≡ false
        → (added : KeptPage) → added.stamp ≡ 1 → pages ≡ table ++ added ∷ [] → (pid : ℕ) → pid ≡ length table → (made : Token) → made ≡ token pid 1
        → Acts g (cache before table) (Allocate node) (Allocated (Ok (pid, made))) (cache after pages)
    adds-done room went clear_after added first behind pid last made is =
        rw behind (put-added g next config recovered lru before table ready (kept.beside ready) after (Allocate node) (length table) (Node node) reads (may-new room) went clear_after (Allocated (Ok (pid, made))) 1 added first refl
        (λ held s _ clear are.
        adds s clear are (Ok (pid, made)) (outcome (record s { pages = s.pages ++ page 1 (Node node) ∷ [] }) (Change (length table) (Put (Node node)) ∷ []))
        (rw (known-length s.pages table are, ne_eqb (length table) (2 ^ 37) room) (refl, (last, is ∙ ap (λ n. token n 1) last, refl)))))

  -- the greatest free page is taken
  module _ (front : List ℕ) (pid : ℕ) (last : IsLastFree 0 table front pid) where
    may-reuse : (held : Logged) (s : State) → Represents g (cache before table) held s → s.fault ≡ false → MayPut g before.log held pid (Node node)
    may-reuse held s is clear =
        may-set g next config recovered lru before table ready (kept.beside ready) held s is clear pid (Node node) tt (free-from table pid last.page kept.own (last-at table front pid last) last.free) (slice_get_within table pid last.page (last-at table front pid last))

    reuses : (s : State) → s.fault ≡ false → AreKnown s.pages table → (answer : Result (ℕ × Token) Error) (out : Outcome) → ReusesPage (chain_length g.state (cache before table)) (HasNoRoom g before.log) s node (token pid last.page.stamp) answer out → ActOver g (cache before table) s (Allocate node) (Allocated answer) out
    reuses s clear are answer out h = unless-clear s answer out _ clear (rw (last.greatest s.pages are) h)

    pub reuses-refused : pages ≡ table → (refusal : Refusal) → RefusesSwap last.page.stamp refusal
        → (let told : Result (Unit {0}) Refusal = Err refusal in Went g before after (begun_by told (Change pid (message_of (Put (Node node))) ∷ [])))
        → (let told : Result (Unit {0}) Refusal = Err refusal in IsCaused g before after (g.is_full before.log (length (message_of (Put (Node node))).payload)) told)
        → Acts g (cache before table) (Allocate node) (Allocated (Err (error_by refusal))) (cache after pages)
    reuses-refused back refusal (inl (greatest, is)) =
        rw is (λ went cause. nothing-appended g next config recovered lru before table ready (kept.beside ready) after (Allocate node) pages back (Allocated (Err (Unsupported StampUsedUp))) went cause.fault
        (λ held s _ clear are. reuses s clear are (Err (Unsupported StampUsedUp)) (no_change s) (rw (eq-eqb last.page.stamp (2 ^ 64 - 1) greatest) (refl, refl))))
    reuses-refused back refusal (inr (below, of)) =
        put-refused g next config recovered lru before table ready (kept.beside ready) after (Allocate node) pid (Node node) reads may-reuse (Unit {0}) pages back (λ e. Allocated (Err e))
        (λ held s _ clear are e out fails. reuses s clear are (Err e) out (rw (ne_eqb last.page.stamp (2 ^ 64 - 1) below) fails))
        refusal of

    pub reuses-done : last.page.stamp ≢ 2 ^ 64 - 1 → Went g before after (Change pid (message_of (Put (Node node))) ∷ []) → after.fault ≡ false
        → (changed : KeptPage) → changed.stamp ≡ last.page.stamp + 1 → pages ≡ slice_set table pid changed → (made : Token) → made ≡ token pid changed.stamp
        → Acts g (cache before table) (Allocate node) (Allocated (Ok (pid, made))) (cache after pages)
    reuses-done below went clear_after changed risen back made is =
        rw back (put-set g next config recovered lru before table ready (kept.beside ready) after (Allocate node) pid (Node node) reads may-reuse went clear_after (Allocated (Ok (pid, made))) (last.page.stamp + 1) changed risen (slice_get_within table pid last.page (last-at table front pid last))
        (λ held s _ clear are.
        reuses s clear are (Ok (pid, made)) (outcome (with_page s pid (page (last.page.stamp + 1) (Node node))) (Change pid (Put (Node node)) ∷ []))
        (rw (ne_eqb last.page.stamp (2 ^ 64 - 1) below) (refl, (refl, is ∙ ap (λ n. token pid n) risen, refl)))))
