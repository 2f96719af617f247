-- A page that was moved, or not: the table beside its log, and a step of the machine.
use Rattle.sled_pagecache.proofs.Names.{is_open, open_after, Event, Chain, Went, false≢true, past-two, other-at, set-at, HoldsChain, IsConsistent, IsCounter, IsFreeOrNode, IsRoots, eqb_tells, same_Some, view, Read, Write, LogFull, IsOfLog, is_write_fault, at-id, holds-at, holds_now, kept-at, map-at, put-back, error_of, Recency, Error, Refusal, begin_page, chains_from, chains_with_change, Content, Put, contents_from, effect_of_update, Change, Message, Messages, effect_of, effect_of_entry, messages_of, Hold, Holds, MayChange, Ghosts, Cache, Represents, StepOver, Steps, HasNoRoomAgain, IsSameOpening, due_in, HoldsAgain, MovesOne, RefusesOne, RefusesRewrite, chain_at, Logged, is_free, IsProper, StampedPage, State, page_at, Due, MovesContent, WritesAgain, Outcome, outcome, IsOwnAt, stamps_in, Accesses, AttemptedGc, AttemptGc, Config, StickyLog, Page, Bool, Err, List, Ok, Result, Some, arith, cond, false, inl, inr, length, map, refl, slice_get, slice_set, subst, suc, sym, true, zero, ℕ, ne_eqb, map-set, slice_get_within, IsWhole, [], ◌++◌, ◌∙◌, ◌∷◌, ◌≡◌, ◌≤◌, now as log_holds, ap}
use Rattle.sled_base.specs.declared.types.Error.TheVariants as error
use Rattle.sled_pagecache.proofs.Moves.PageMoves.{not-resident}
use Rattle.sled_base.specs.declared.types.Refusal.TheVariants as refusals
use Rattle.sled_log.specs.Contents as content
use Rattle.sled_log.specs.Inside.HoldingLaws.{counts_effect}
use Rattle.sled_log.specs.LogState as log
use Rattle.sled_log.specs.Reading.{CountsAs}
use Rattle.sled_pagecache.proofs.Steps.CacheSteps.{LeadsTo, steps-went}
use Rattle.sled_pagecache.proofs.CacheLog.ToldContents.{proper-now}
use Rattle.sled_pagecache.proofs.Steps.CallOutcomes.{leads-unread}
use Rattle.sled_pagecache.proofs.Ids.DurableCounter.{stays-counted}
use Rattle.sled_pagecache.proofs.Table.StateChains.{full-stands, unread, unread-content}
use Rattle.sled_pagecache.proofs.Table.PageChains.{kept-same}
use Rattle.sled_pagecache.proofs.Memory.PageIn.{still-consistent}
use Rattle.sled_pagecache.proofs.CacheLog.ProperPages.{put-own}
use Rattle.sled_pagecache.proofs.Steps.Puts.{holds_unplaced, unless-clear}
use Rattle.sled_pagecache.proofs.Table.StatePages.{found-known, kept-free, known-in, one-short}
use Rattle.sled_pagecache.proofs.CacheLog.ProperMessages.{stay-one}
use Rattle.sled_pagecache.proofs.Table.ChangedTables.{consistent-put-own, free-same}
use Rattle.sled_pagecache.specs.Logged.{now}
use Rattle.sled_pagecache.specs.Logged as logged
use Rattle.sled_pagecache.specs.State.{is_free as leaves_free, page as stamped}
use Rattle.sled_pagecache.specs.Step.{Page as IsDue}
use Rattle.sled_pagecache.specs.declared.pagecache.table.page_entry.PageContent.TheVariants as page_content

-- ---- a content that is put again

may-again : (contents : List Content) (pid : ℕ) (c : Content) → slice_get contents pid ≡ Some c → MayChange contents pid (Put c)
may-again contents pid content.Free at = slice_get_within contents pid content.Free at
may-again contents pid (content.Counter n) at = let lt = slice_get_within contents pid (content.Counter n) at in omega (arith, lt)
may-again contents pid (content.Roots roots) at = let lt = slice_get_within contents pid (content.Roots roots) at in omega (arith, lt)
may-again contents pid (content.Node node) at = let lt = slice_get_within contents pid (content.Node node) at in omega (arith, lt)
may-again contents pid content.Damaged at = at

same-again : (contents : List Content) (pid : ℕ) (c : Content) → slice_get contents pid ≡ Some c → contents_from contents (Change pid (Put c)) ≡ contents
same-again contents pid c at =
    ap (λ b. cond b (contents ++ c ∷ []) (slice_set contents pid c)) (ne_eqb pid (length contents) (λ e. absurd (let lt = slice_get_within contents pid c at in omega (arith, e, lt)))) ∙ put-back contents pid c at

puts-new : (c : Content) (pages : List Messages) (pid : ℕ) (m : Message) → chains_with_change effect_of (effect_of_update (Put c)) pages pid m ≡ begin_page effect_of pages pid m
puts-new content.Free pages pid m = refl
puts-new (content.Counter n) pages pid m = refl
puts-new (content.Roots roots) pages pid m = refl
puts-new (content.Node node) pages pid m = refl
puts-new content.Damaged pages pid m = refl

proper-again : (pages : List Messages) (contents : List Content) (pid : ℕ) (m : Message) (c : Content) → Hold pages contents → IsProper pages contents → slice_get contents pid ≡ Some c → CountsAs m (Put c)
    → IsProper (chains_from effect_of pages (Change pid m)) (contents_from contents (Change pid (Put c)))
proper-again pages contents pid m c hold proper at counts =
    rw (counts_effect m (Put c) counts, puts-new c pages pid m)
    (put-own pages contents hold proper pid m c (at-id logged.IsOwnAt contents pid c proper.own at) (slice_get_within contents pid c at))

-- what is written again of a content moves it
content-moves : {L : Type 0} (due : L → Due) (full : L → ℕ → Content → Type 0) (l : L) (s : State) (pid : ℕ) (c : Content) (answer : Result Bool Error) (out : Outcome)
    → WritesAgain due full l s pid c answer out → MovesContent due full l s pid c answer out
content-moves due full l s pid content.Free answer out h = h
content-moves due full l s pid (content.Counter n) answer out h = h
content-moves due full l s pid (content.Roots roots) answer out h = h
content-moves due full l s pid (content.Node node) answer out h = h
content-moves due full l s pid content.Damaged answer out h = inr h

-- ---- the page

module _ {L : Type 0} (g : Ghosts L) (next : ℕ) (config : Config) (recovered : Bool) (lru : Recency) (before : StickyLog L) (table : List Page) (free : List ℕ) (whole : IsWhole g.tells g.state config.idgen_persist_interval next before table free)
    (clear : before.fault ≡ false) (pid : ℕ) (q : Page) (at : slice_get table pid ≡ Some q) where
  abbrev was : Cache L
  was = view next config recovered lru before table

  -- it isn't the cache's own where it doesn't lie in memory
  away-behind : q.kept ≡ page_content.OnLog → 2 ≤ pid
  away-behind away = by pid (subst (IsOwnAt pid) away (at-id (λ pid (page : Page). IsOwnAt pid page.kept) table pid q whole.consistent.own at))
    where
      by : (pid : ℕ) → IsOwnAt pid page_content.OnLog → 2 ≤ pid
      by zero own = absurd own
      by (suc zero) own = absurd own
      by (suc (suc n)) own = omega arith

  -- in a state that the cache is in
  pub record Stands (held : Logged) (s : State) : Type 0 where
    pub page : StampedPage
    pub there : page_at s pid ≡ Some page
    pub freed : leaves_free page.content ≡ is_free q.kept
    pub holds : Holds (messages_of (chain_at (g.state before.log) pid)) page.content
    pub now : slice_get (now held) pid ≡ Some page.content

  stands : (held : Logged) (s : State) → Represents g was held s → s.fault ≡ false → Stands held s
  stands held s is free =
      let known = known-in g was table held s is free refl (whole.consistent.beside clear) in
      let found = found-known s.pages table pid q known at in
      let hold = subst (λ (l : List Content). Hold (map messages_of (log_holds effect_of_entry (g.state before.log))) l) (sym (is.known free).contents) (holds_now (g.state before.log) held (is.known free).logged) in
      record {
        page = found.page;
        there = found.is;
        freed = found.known.free;
        holds = holds-at s.pages (log_holds effect_of_entry (g.state before.log)) pid found.page hold found.is;
        now = ap (λ (l : List Content). slice_get l pid) (sym (is.known free).contents) ∙ map-at (λ (p : StampedPage). p.content) s.pages pid found.page found.is;
      }

  module _ (due : g.tells → due_in g config before.log ≡ IsDue pid) (after : StickyLog L) (page : Page) where
    abbrev is_now : Cache L
    is_now = view next config recovered lru after (slice_set table pid page)

    same-opening : IsSameOpening was is_now
    same-opening = record { config = refl; recovered = refl }

    still-stamped : page.stamp ≡ q.stamp → stamps_in (slice_set table pid page) ≡ stamps_in table
    still-stamped stamp =
        map-set (λ (p : Page). p.stamp) table pid page ∙ ap (λ (n : ℕ). slice_set (stamps_in table) pid n) stamp ∙ put-back (stamps_in table) pid q.stamp (map-at (λ (p : Page). p.stamp) table pid q at)

    tidied : g.tells → (s : State) → s.fault ≡ false → (p : StampedPage) → page_at s pid ≡ Some p → (answer : Result Bool Error) (out : Outcome)
        → MovesContent (due_in g config) (HasNoRoomAgain g) before.log s pid p.content answer out → StepOver g was s AttemptGc (AttemptedGc answer) out
    tidied told s free p there answer out h = unless-clear s answer out _ free (rw (due told, there) h)

    -- a message of it was told, which counts as what it holds
    leads-again : (held : Logged) (s : State) (is : Represents g was held s) → s.fault ≡ false → (m : Message) → HoldsAgain g before pid q m → page.stamp ≡ q.stamp → (answer : Result Bool Error) (t : State)
        → ((stands : Stands held s) → WritesAgain (due_in g config) (HasNoRoomAgain g) before.log s pid stands.page.content answer (outcome t (Change pid (Put stands.page.content) ∷ [])))
        → t.pages ≡ s.pages → t.next ≡ s.next → t.fault ≡ after.fault → t.batch ≡ s.batch → LeadsTo g was is_now held s AttemptGc (AttemptedGc answer) (Change pid m ∷ [])
    leads-again held s is free m again stamp answer t writes pages same_next fault batch =
        let st = stands held s is free in
        let counts = again is.tells st.page.content st.freed st.holds in
        let logged = (is.known free).logged in
        let pages_now = log.now effect_of (log.unplaced_state (g.state before.log)) in
        let proper = proper-now (log.unplaced_state (g.state before.log)) held logged in
        record {
          out = outcome t (Change pid (Put st.page.content) ∷ []);
          step = tidied is.tells s free st.page st.there answer _ (content-moves (due_in g config) (HasNoRoomAgain g) before.log s pid st.page.content answer _ (writes st));
          told = ((refl, counts), may-again (now held) pid st.page.content st.now, tt);
          stays = stay-one pages_now (now held) _ _ proper (proper-again pages_now (now held) pid m st.page.content (holds_unplaced g was held s is free) proper st.now counts);
          stamps = ap (map (λ (p : StampedPage). p.stamp)) pages ∙ is.stamps ∙ sym (still-stamped stamp);
          next = same_next ∙ is.next;
          fault = fault;
          batch = batch;
          marks = λ _. sym batch;
          contents = λ _. ap (map (λ (p : StampedPage). p.content)) pages ∙ (is.known free).contents ∙ sym (same-again (now held) pid st.page.content st.now);
        }

    pub moved-acts : {accesses between : Accesses} → MovesOne g before pid q after accesses between page → Steps g was AttemptGc (AttemptedGc (Ok true)) is_now
    moved-acts moved =
        steps-went g was is_now before after AttemptGc (AttemptedGc (Ok true)) (Change pid moved.message ∷ []) same-opening refl refl refl clear moved.went
        (λ held s is free. leads-again held s is free moved.message moved.again moved.stamp (Ok true) s (λ st. inr (refl, (refl, refl))) refl refl (free ∙ sym moved.fault) refl)

    -- ---- it was refused

    module _ (accesses between : Accesses) (refusal : Refusal) (refused : RefusesOne g before pid q after accesses between page refusal) where
      -- the log refused it
      refused-by : (s : State) (c : Content) (r : Refusal) → IsOfLog r → (r ≡ refusals.Unsupported LogFull → HasNoRoomAgain g before.log pid c) → WritesAgain (due_in g config) (HasNoRoomAgain g) before.log s pid c (Err (error_of r)) (unread s r)
      refused-by s c refusals.OutOfMemory of full = inl refl
      refused-by s c (refusals.Io Read) of full = inl refl
      refused-by s c (refusals.Io Write) of full = inl refl
      refused-by s c (refusals.Unsupported LogFull) of full = inr (full refl, refl)
      refused-by s c r of full = absurd of

      unwritten : (held : Logged) (s : State) (is : Represents g was held s) → s.fault ≡ false → RefusesRewrite (chain_at (g.state before.log) pid) q refusal
          → StepOver g was s AttemptGc (AttemptedGc (Err (error_of refusal))) (unread s refusal)
      unwritten held s is free (inr (away, why)) =
          let is_away = not-resident q.kept away in
          let chain = chain_at (g.state before.log) pid in
          let full = kept-free chain q.kept (kept-at (log_holds effect_of_entry (g.state before.log)) table pid q ((whole.consistent.beside clear).kept is.tells) at).holds ∙ ap is_free is_away in
          let stands = full-stands g was held s is free pid (away-behind is_away) full in
          tidied is.tells s free (stamped stands.stamp stands.content) stands.there (Err (error_of refusal)) (unread s refusal)
          (unread-content s pid chain stands (λ c. MovesContent (due_in g config) (HasNoRoomAgain g) before.log s pid c (Err (error_of refusal)) (unread s refusal)) Bool refusal why (λ node h. inl h) (λ h. inl h))
      unwritten held s is free (inl of) =
          let st = stands held s is free in
          tidied is.tells s free st.page st.there (Err (error_of refusal)) (unread s refusal)
          (content-moves (due_in g config) (HasNoRoomAgain g) before.log s pid st.page.content (Err (error_of refusal)) (unread s refusal)
          (refused-by s st.page.content refusal of (λ full. refused.cause.full (ap (λ (r : Refusal). let told : Result (Unit {0}) Refusal = Err r in told) full) is.tells st.page.content st.freed st.holds)))

      pub refused-acts : g.tells → Steps g was AttemptGc (AttemptedGc (Err (error_of refusal))) is_now
      refused-acts told = elim refused.begun [
        | inl none ↦ steps-went g was is_now before after AttemptGc (AttemptedGc (Err (error_of refusal))) [] same-opening refl refl refl clear none
            (λ held s is free. leads-unread g was is_now held s is free AttemptGc (AttemptedGc (Err (error_of refusal))) refl refusal (unwritten held s is free (refused.refused told)) (still-stamped refused.stamp) refused.cause.fault)
        | inr some ↦ subst (λ r. Steps g was AttemptGc (AttemptedGc (Err (error_of r))) is_now) (sym some.0)
            (steps-went g was is_now before after AttemptGc (AttemptedGc (Err (error.Io Write))) (Change pid some.1 ∷ []) same-opening refl refl refl clear some.3
            (λ held s is free. leads-again held s is free some.1 some.2 refused.stamp (Err (error.Io Write)) (record s { fault = true }) (λ st. inr refl) refl refl
            (sym (refused.cause.fault ∙ ap (λ (r : Refusal). let told : Result (Unit {0}) Refusal = Err r in is_write_fault told) some.0)) refl))
      ]

  -- ---- the table

  module _ (after : StickyLog L) (page : Page) (accesses between : Accesses) (moved : MovesOne g before pid q after accesses between page) where
    own-then : IsOwnAt pid page.kept
    own-then = elim moved.holds [
      | inl same ↦ subst (IsOwnAt pid) (sym same) (at-id (λ pid (page : Page). IsOwnAt pid page.kept) table pid q whole.consistent.own at)
      | inr read ↦ subst (IsOwnAt pid) (sym read.2) ((past-two IsRoots IsCounter IsFreeOrNode pid (page_content.Node read.1) (away-behind read.0)).0 tt)
    ]

    pub free-then : is_free page.kept ≡ is_free q.kept
    free-then = elim moved.holds [ inl same ↦ ap is_free same | inr read ↦ ap is_free read.2 ∙ ap is_free (sym read.0) ]

    -- a counter that is kept was
    counter-then : (n : ℕ) → page.kept ≡ page_content.Counter n → q.kept ≡ page_content.Counter n
    counter-then n is = elim moved.holds [ inl same ↦ sym same ∙ is | inr read ↦ absurd (let not = sym read.2 ∙ is in cc) ]

    consistent-then : IsConsistent g.tells g.state after (slice_set table pid page) free
    consistent-then =
        consistent-put-own g before after table free free whole.consistent clear pid moved.message moved.went page own-then (one-short page moved.stamps) moved.kept moved.sized moved.others
        (whole.consistent.free ∙ sym (free-same 0 table pid page q at free-then))

    pub whole-moved : IsWhole g.tells g.state config.idgen_persist_interval next after (slice_set table pid page) free
    whole-moved = record {
      consistent = consistent-then;
      positive = whole.positive;
      counted = λ some ready told p n there holds few. elim (eqb_tells pid 1) [
        | inl own ↦
            let held : q.kept ≡ page_content.Counter n = counter-then n (ap (λ (p : Page). p.kept) (same_Some page p (sym (set-at table pid q page at) ∙ ap (slice_get (slice_set table pid page)) own.1 ∙ there)) ∙ holds) in
            let kept_is = kept-at (log_holds effect_of_entry (g.state before.log)) table pid q ((whole.consistent.beside clear).kept told) at in
            let made = subst (HoldsChain (chain_at (g.state before.log) pid)) held kept_is.holds in
            let counts : CountsAs moved.message (Put (content.Counter n)) = moved.again told (content.Counter n) (sym (ap is_free held)) made in
            stays-counted _ _ (Change pid moved.message ∷ []) n (moved.went.added told ready) (inr counts, tt) (whole.counted some clear told q n (sym (ap (slice_get table) own.1) ∙ at) held few)
        | inr other ↦
            stays-counted _ _ (Change pid moved.message ∷ []) n (moved.went.added told ready) (inl other.1, tt) (whole.counted some clear told p n (sym (other-at table pid 1 page (λ e. other.1 (sym e))) ∙ there) holds few)
      ];
    }

  module _ (after : StickyLog L) (page : Page) (accesses between : Accesses) (refusal : Refusal) (refused : RefusesOne g before pid q after accesses between page refusal) where
    pub whole-unmoved : IsWhole g.tells g.state config.idgen_persist_interval next after (slice_set table pid page) free
    whole-unmoved = record {
      consistent = elim refused.begun [
        | inl none ↦ stays [] none refl
        | inr some ↦ stays (Change pid some.1 ∷ []) some.3 refl
      ];
      positive = whole.positive;
      counted = λ some ready told p n there holds few. elim refused.begun [
        | inl none ↦
            let at_counter = was-there p n there holds in
            stays-counted _ _ [] n (none.added told ready) tt (whole.counted some clear told at_counter.0 n at_counter.1 at_counter.2 few)
        | inr written ↦ absurd (let stuck = refused.cause.fault ∙ ap (λ (r : Refusal). let told : Result (Unit {0}) Refusal = Err r in is_write_fault told) written.0 in false≢true (sym ready ∙ stuck))
      ];
    }
      where
        chain : Chain
        chain = chain_at (g.state before.log) pid

        stays : (events : List (Event Message)) → Went g before after events → open_after (is_open (g.state before.log).pending) events ≡ is_open (g.state before.log).pending → IsConsistent g.tells g.state after (slice_set table pid page) free
        stays events went marks =
            still-consistent g before after table free pid q page whole.consistent clear at events went marks refused.same
            (λ told _. kept-same chain q page refused.infos refused.stays (kept-at (log_holds effect_of_entry (g.state before.log)) table pid q ((whole.consistent.beside clear).kept told) at)) refused.infos (ap is_free refused.stays)
            (subst (IsOwnAt pid) (sym refused.stays) (at-id (λ pid (page : Page). IsOwnAt pid page.kept) table pid q whole.consistent.own at))

        -- the counter's page was so
        was-there : (p : Page) (n : ℕ) → slice_get (slice_set table pid page) 1 ≡ Some p → p.kept ≡ page_content.Counter n → (r : Page) × (slice_get table 1 ≡ Some r) × (r.kept ≡ page_content.Counter n)
        was-there p n there holds = elim (eqb_tells pid 1) [
          | inl own ↦ (q, sym (ap (slice_get table) own.1) ∙ at, sym refused.stays ∙ ap (λ (p : Page). p.kept) (same_Some page p (sym (set-at table pid q page at) ∙ ap (slice_get (slice_set table pid page)) own.1 ∙ there)) ∙ holds)
          | inr other ↦ (p, sym (other-at table pid 1 page (λ e. other.1 (sym e))) ∙ there, holds)
        ]
