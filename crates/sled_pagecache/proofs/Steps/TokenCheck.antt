-- What the tests of a swap answer is a step of the machine, for each call that makes them.
use Rattle.sled_pagecache.proofs.Names.{Recency, ◌≡◌, ◌+◌, ℕ, Bool, true, false, List, [], Option, Some, None, Ok, Err, slice_get, slice_set, refl, sym, ◌∙◌, ap, subst, ne_eqb, map-set, MatchBool, Write, Unsupported, ReservedId, Content, Free, Put, Node, Messages, effect_of, Ghosts, WholeNode, Keeps, stamps_after_swap, Cache, chain_length, HasNoRoom, ActOver, Acts, Went-none, Judges, IsRejected, IsFresh, State, page_at, Outcome, no_change, is_reserved, Swapped, SwapsPage, Swaps, SwapsContent, LinksContent, stamps_in, IsBeside, Token, token, IsAnswered, Answer, Freed, Linked, Replaced, Call, Config, StickyLog, Rejection, Refused, Stale, Gone, answer_to, IfOk, IfErr, OnOk, OnErr, IsBlamed, HasNoName, EvictsAtMost, same_Some, Page, error_by, NodeLink, map-at, view, IsLeft, unplaced_state, arith}
use Rattle.sled_base.specs.declared.types.Error.TheVariants.{Io}
use Rattle.sled_base.specs.declared.types.Refusal.TheVariants as refusals
use Rattle.sled_pagecache.proofs.Steps.KeptStamps.{keeps-err, keeps-ok, keeps-stuck}
use Rattle.sled_pagecache.proofs.Steps.CacheSteps.{steps-stuck}
use Rattle.sled_pagecache.proofs.Memory.Eviction.{leaves-same}
use Rattle.sled_pagecache.proofs.Steps.Puts.{nothing-appended, unless-clear}
use Rattle.sled_pagecache.proofs.Table.StatePages.{AreKnown, found-known, found-none}
use Rattle.sled_pagecache.specs.declared.pagecache.handles.call.Call.TheVariants as call

-- a call that tests its token, and goes on with the content of its page
pub record IsSwap {L R : Type 0} (g : Ghosts L) (cache : Cache L) (old : Token) (rejected : R) (call : Call) (answered : Swapped R → Answer) (goes_on : State → Swapped R → Outcome → Content → Type 0) : Type 0 where
  pub step : (s : State) (answer : Swapped R) (out : Outcome) → Swaps s old rejected answer out (goes_on s answer out) → ActOver g cache s call (answered answer) out

module _ {L : Type 0} (g : Ghosts L) (cache : Cache L) (old : Token) where
  pub link-swap : (link : NodeLink) → IsSwap g cache old link (call.Link old link) Linked (λ s answer out. LinksContent (chain_length g.state cache) (HasNoRoom g cache.log) s old link answer out)
  link-swap link = record { step = λ s answer out h. h }

  pub replace-swap : (node : WholeNode) → IsSwap g cache old node (call.Replace old node) Replaced (λ s answer out content. SwapsContent (chain_length g.state cache) (HasNoRoom g cache.log) s old (Put (Node node)) (Node node) answer out)
  replace-swap node = record { step = λ s answer out h. h }

  pub free-swap : IsSwap g cache old tt (call.Free old) Freed (λ s answer out content. SwapsContent (chain_length g.state cache) (HasNoRoom g cache.log) s old (Put Free) Free answer out)
  free-swap = record { step = λ s answer out h. h }

-- What a swap answers whose token is rejected: nothing changes.
pub record Unswapped {L R : Type 0} (g : Ghosts L) (cache : Cache L) (pid : ℕ) (old : Token) (given : R) (call : Call) (answered : Swapped R → Answer) (answer : Swapped R) : Type 0 where
  pub step : Acts g cache call (answered answer) cache
  pub blame : IsBlamed g cache cache answer
  pub keeps : Keeps cache cache answer (stamps_after_swap cache.stamps)
  pub token : IfOk answer (IsAnswered cache.stamps old given)
  pub unmade : IfOk answer (λ swapped. OnOk swapped ⊥)
  pub leaves : IfErr answer (EvictsAtMost cache pid cache g.tells)
  pub unnamed : IfErr answer HasNoName

-- what is said of a swap that wasn't made
pub unless-made : {R : Type 0} (P : Type 0) (answer : Swapped R) → IfOk answer (λ swapped. OnOk swapped ⊥) → IfOk answer (λ swapped. OnOk swapped P)
unless-made P answer unmade = grind arith

-- and of one that handed back what it was given
pub handed-back : {R : Type 0} (P : Type 0) (answer : Swapped R) → P → IfOk answer (λ swapped. OnErr swapped P)
handed-back P answer p = grind arith

-- one whose token was rejected wasn't made
pub rejected-unmade : {R : Type 0} (P : Type 0) (rejection : Rejection) (given : R) → IfOk (answer_to rejection given) (λ swapped. OnOk swapped P)
rejected-unmade P (Refused refusal) given = tt
rejected-unmade P (Stale present) given = tt
rejected-unmade P Gone given = tt

module _ {L : Type 0} (g : Ghosts L) (next : ℕ) (config : Config) (recovered : Bool) (lru : Recency) (sticky_log : StickyLog L) (table : List Page) (beside : sticky_log.fault ≡ false → IsBeside g.tells g.state sticky_log.log table)
    (only : (pages : List Messages) → g.tells → (g.state sticky_log.log).usable ≡ true → g.left_since sticky_log.log (g.moment sticky_log.log) pages → IsLeft effect_of (unplaced_state (g.state sticky_log.log)) [] pages)
    {R : Type 0} (old : Token) (pid : ℕ) (same : old.pid ≡ pid) (rejected : R) (call : Call) (answered : Swapped R → Answer) (goes_on : State → Swapped R → Outcome → Content → Type 0)
    (swap : IsSwap g (view next config recovered lru sticky_log table) old rejected call answered goes_on) where
  abbrev cache : Cache L
  cache = view next config recovered lru sticky_log table

  still : (answer : Swapped R) → sticky_log.fault ≡ false → ((s : State) → s.fault ≡ false → AreKnown s.pages table → ActOver g cache s call (answered answer) (no_change s)) → Acts g cache call (answered answer) cache
  still answer ready step =
      nothing-appended g next config recovered lru sticky_log table ready (beside ready) sticky_log call table refl (answered answer)
      (Went-none g sticky_log (beside ready).usable only) ready (λ held s is clear are. step s clear are)

  -- the token is handed back, or nothing is
  hands : (back : Option (Token × R)) → is_reserved pid ≡ false → sticky_log.fault ≡ false → IsAnswered (stamps_in table) old rejected (Err back)
      → (let answer : Swapped R = Ok (Err back) in ((s : State) → AreKnown s.pages table → SwapsPage s old rejected (page_at s pid) answer (no_change s) (goes_on s answer (no_change s))) → Unswapped g cache pid old rejected call answered answer)
  hands back free ready token is =
      let answer : Swapped R = Ok (Err back) in
      let keeps = keeps-ok cache cache (stamps_after_swap {R = R} (stamps_in table)) (Err back) ready ready refl refl in
      let step = still answer ready (λ s clear are. swap.step s answer (no_change s)
      (unless-clear s answer (no_change s) _ clear (rw (ap is_reserved same ∙ free, ap (page_at s) same) (is s are)))) in
      grind arith

  pub unswapped : (rejection : Rejection) → Judges sticky_log.fault table pid old (Err rejection) → (answer : Swapped R) → answer ≡ answer_to rejection rejected → Unswapped g cache pid old rejected call answered answer
  unswapped (Refused refusal) judges answer is = rw is (by sticky_log.fault refl judges)
    where
      -- a write fault was kept, or the page is the cache's own
      by : (fault : Bool) → sticky_log.fault ≡ fault → MatchBool fault (refusal ≡ refusals.Io Write) ((is_reserved pid ≡ true) × (refusal ≡ refusals.Unsupported ReservedId))
          → Unswapped g cache pid old rejected call answered (Err (error_by refusal))
      by true kept is = rw is (
          let step = steps-stuck g cache call (answered (Err (Io Write))) kept (λ s stuck. swap.step s (Err (Io Write)) (no_change s) (rw stuck (refl, refl))) in
          let keeps = keeps-stuck cache cache (stamps_after_swap {R = R} (stamps_in table)) kept refl in
          grind (arith, leaves-same cache g.tells pid (Io Write)))
      by false ready (own, is) = rw is (
          let step = still (Err (Unsupported ReservedId)) ready (λ s clear are. swap.step s (Err (Unsupported ReservedId)) (no_change s) (rw (clear, ap is_reserved same ∙ own) (refl, refl))) in
          let keeps = keeps-err cache cache (stamps_after_swap {R = R} (stamps_in table)) (Unit {0}) (refusals.Unsupported ReservedId) ready ready refl refl in
          grind (arith, leaves-same cache g.tells pid (Unsupported ReservedId)))
  unswapped (Stale present) (ready, free, judged) answer is = rw is (by (slice_get table pid) refl judged)
    where
      by : (o : Option Page) → slice_get table pid ≡ o → IsRejected o pid old (Stale present) → Unswapped g cache pid old rejected call answered (Ok (Err (Some (present, rejected))))
      by None at judged = absurd cc
      by (Some q) at (full, other, is) =
          hands (Some (present, rejected)) free ready (rw is (sym same, ap (slice_get (stamps_in table)) same ∙ map-at (λ (p : Page). p.stamp) table pid q at, other, refl))
          (λ s are.
          let found = found-known s.pages table pid q are at in
          rw (found.is, found.known.free, full, found.known.stamp, ne_eqb q.stamp old.stamp other, is, same) (refl, refl))
  unswapped Gone (ready, free, judged) answer is = rw is (hands None free ready tt (λ s are. by s are (slice_get table pid) refl judged))
    where
      by : (s : State) → AreKnown s.pages table → (o : Option Page) → slice_get table pid ≡ o → IsRejected o pid old Gone
          → SwapsPage s old rejected (page_at s pid) (Ok (Err None)) (no_change s) (goes_on s (Ok (Err None)) (no_change s))
      by s are None at judged = rw (found-none s.pages table pid are at) (refl, refl)
      by s are (Some q) at judged = let found = found-known s.pages table pid q are at in rw (found.is, found.known.free, judged) (refl, refl)

-- the page that was read there is the token's
pub fresh-at : {fault : Bool} {table : List Page} {pid : ℕ} {old : Token} {q : Page} → (page : Page) × IsFresh fault table pid old page → slice_get table pid ≡ Some q → IsFresh fault table pid old q
fresh-at {fault} {table} {pid} {old} {q} (page, fresh) at = subst (IsFresh fault table pid old) (same_Some page q (sym fresh.at ∙ at)) fresh

-- ---- what is known over any log

module _ {L : Type 0} (next : ℕ) (config : Config) (recovered : Bool) (lru : Recency) (sticky_log : StickyLog L) (table : List Page) (pid : ℕ) (old : Token) (q : Page) (fresh : IsFresh sticky_log.fault table pid old q) where
  -- the token's page was at its stamp
  pub fresh-answered : old.pid ≡ pid → (R : Type 0) (given : R) → (made : Token) → made ≡ token old.pid (old.stamp + 1) → IsAnswered (stamps_in table) old given (Ok made)
  fresh-answered same R given made is = (ap (slice_get (stamps_in table)) same ∙ map-at (λ (p : Page). p.stamp) table pid q fresh.at ∙ ap (λ n. Some n) fresh.stamp, is)

  -- and has risen
  pub keeps-fresh : (R : Type 0) (after : StickyLog L) (page : Page) → after.fault ≡ false → after.batch ≡ sticky_log.batch → page.stamp ≡ q.stamp + 1 → (made : Token) → made ≡ token pid (old.stamp + 1)
      → (let answer : Swapped R = Ok (Ok made) in Keeps (view next config recovered lru sticky_log table) (view next config recovered lru after (slice_set table pid page)) answer (stamps_after_swap (stamps_in table)))
  keeps-fresh R after page free batch raised made is =
      keeps-ok (view next config recovered lru sticky_log table) (view next config recovered lru after (slice_set table pid page)) (stamps_after_swap {R = R} (stamps_in table)) (Ok made) fresh.clear free
      (rw is (map-set (λ (p : Page). p.stamp) table pid page ∙ ap (λ n. slice_set (stamps_in table) pid n) (raised ∙ ap (λ n. n + 1) fresh.stamp))) batch
