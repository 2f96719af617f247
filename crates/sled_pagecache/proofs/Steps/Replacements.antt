-- Putting another content on a page, as a step of the machine.
use Rattle.sled_pagecache.proofs.Names.{Recency, ◌≡◌, ◌≢◌, inl, inr, ◌+◌, ◌-◌, ◌^◌, ℕ, Bool, false, List, [], ◌∷◌, length, Some, Result, Ok, Err, slice_get, slice_set, refl, sym, ◌∙◌, ap, eq-eqb, ne_eqb, slice_get_within, Unsupported, Refusal, StampUsedUp, Content, Put, Change, IsUpdate, message_of, Ghosts, Cache, chain_length, HasNoRoom, ActOver, Represents, Acts, Went, IsCaused, begun_by, Logged, page, State, page_at, with_page, is_reserved, Does, Outcome, outcome, no_change, Swapped, SwapsContent, RefusesSwap, IsBeside, Token, token, Answer, Call, Config, StickyLog, error_by, KeptPage, behind-own, view}
use Rattle.sled_pagecache.proofs.Steps.TokenCheck.{IsSwap}
use Rattle.sled_pagecache.proofs.CacheLog.ProperPages.{IsPut}
use Rattle.sled_pagecache.proofs.Steps.Puts.{unless-clear, MayPut, may-set, nothing-appended, put-refused, put-set}
use Rattle.sled_pagecache.proofs.Table.StatePages.{AreKnown, found-known}
use Rattle.sled_pagecache.specs.Step.{UnlessLastStamp}
use Rattle.sled_pagecache.specs.Table as kept

module _ {L : Type 0} (g : Ghosts L) (next : ℕ) (config : Config) (recovered : Bool) (lru : Recency) (before : StickyLog L) (table : List KeptPage) (ready : before.fault ≡ false) (beside : IsBeside g.tells g.state before.log table)
    (old : Token) (pid : ℕ) {R : Type 0} (rejected : R) (content : Content) (put : IsPut content) (call : Call) (answered : Swapped R → Answer)
    (swap : let cache = view next config recovered lru before table in IsSwap g cache old rejected call answered (λ s answer out _. SwapsContent (chain_length g.state cache) (HasNoRoom g before.log) s old (Put content) content answer out))
    (same : old.pid ≡ pid) (pages : List KeptPage) (back : pages ≡ table) where
  abbrev cache : StickyLog L → List KeptPage → Cache L
  cache sticky_log kept = view next config recovered lru sticky_log kept

  -- the page is to be changed
  module _ (after : StickyLog L) (free : is_reserved pid ≡ false) (q : KeptPage) (at : slice_get table pid ≡ Some q) (full : kept.is_free q.kept ≡ false) (stamp : q.stamp ≡ old.stamp)
      (reads : IsUpdate (message_of (Put content)) (Put content)) where
    may : (held : Logged) (s : State) → Represents g (cache before table) held s → s.fault ≡ false → MayPut g before.log held pid content
    may held s is clear = may-set g next config recovered lru before table ready beside held s is clear pid content put (behind-own pid free) (slice_get_within table pid q at)

    -- the machine finds the page at the stamp of the token
    step : (s : State) → s.fault ≡ false → AreKnown s.pages table → (answer : Swapped R) (out : Outcome)
        → UnlessLastStamp s old.stamp answer out (Does (chain_length g.state (cache before table)) (HasNoRoom g before.log) s (Change pid (Put content)) answer out (λ swapped t. (swapped ≡ Ok (token pid (old.stamp + 1))) × (t ≡ with_page s pid (page (old.stamp + 1) content))))
        → ActOver g (cache before table) s call (answered answer) out
    step s clear are answer out h =
        let found = found-known s.pages table pid q are at in
        swap.step s answer out
        (unless-clear s answer out _ clear (rw (ap is_reserved same ∙ free, ap (page_at s) same ∙ found.is, found.known.free ∙ full, eq-eqb found.page.stamp old.stamp (found.known.stamp ∙ stamp)) (rw same h)))

    pub swaps-refused : (refusal : Refusal) → RefusesSwap q.stamp refusal
        → (let told : Result (Unit {0}) Refusal = Err refusal in Went g before after (begun_by told (Change pid (message_of (Put content)) ∷ [])))
        → (let told : Result (Unit {0}) Refusal = Err refusal in IsCaused g before after (g.is_full before.log (length (message_of (Put content)).payload)) told)
        → Acts g (cache before table) call (answered (Err (error_by refusal))) (cache after pages)
    swaps-refused refusal (inl (last, is)) =
        rw is (λ went cause. nothing-appended g next config recovered lru before table ready beside after call pages back (answered (Err (Unsupported StampUsedUp))) went cause.fault
        (λ held s _ clear are. step s clear are (Err (Unsupported StampUsedUp)) (no_change s) (rw (eq-eqb old.stamp (2 ^ 64 - 1) (sym stamp ∙ last)) (refl, refl))))
    swaps-refused refusal (inr (below, of)) =
        put-refused g next config recovered lru before table ready beside after call pid content reads may (Unit {0}) pages back (λ e. answered (Err e))
        (λ held s _ clear are e out fails. step s clear are (Err e) out (rw (ne_eqb old.stamp (2 ^ 64 - 1) (λ last. below (stamp ∙ last))) fails))
        refusal of

    pub swaps-done : q.stamp ≢ 2 ^ 64 - 1 → Went g before after (Change pid (message_of (Put content)) ∷ []) → after.fault ≡ false
        → (changed : KeptPage) → changed.stamp ≡ q.stamp + 1 → (made : Token) → made ≡ token pid (old.stamp + 1)
        → Acts g (cache before table) call (answered (Ok (Ok made))) (cache after (slice_set table pid changed))
    swaps-done below went clear_after changed risen made is =
        put-set g next config recovered lru before table ready beside after call pid content reads may went clear_after (answered (Ok (Ok made))) (old.stamp + 1) changed (risen ∙ ap (λ n. n + 1) stamp) (slice_get_within table pid q at)
        (λ held s _ clear are. step s clear are (Ok (Ok made)) (outcome (with_page s pid (page (old.stamp + 1) content)) (Change pid (Put content) ∷ [])) (rw (ne_eqb old.stamp (2 ^ 64 - 1) (λ last. below (stamp ∙ last))) (refl, (ap (λ t. Ok t) is, refl))))
