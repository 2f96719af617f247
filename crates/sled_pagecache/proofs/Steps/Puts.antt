-- A call that puts a content on one page, as a step of the machine, told of the table that the cache keeps.
use Rattle.sled_pagecache.proofs.Names.{Recency, ◌≡◌, ◌≤◌, ◌<◌, ◌^◌, ℕ, Bool, true, false, List, [], ◌∷◌, ◌++◌, length, Result, Err, slice_set, refl, sym, ◌∙◌, ap, subst, arith, eq-eqb, ne_eqb, length-map, map-append, map-set, MatchBool, Read, Write, Error, Unsupported, Refusal, LogFull, chains_from, Node, Put, contents_from, Content, Change, effect_of, IsUpdate, MayChange, Hold, message_of, Ghosts, WholeNode, Cache, chain_length, Represents, HasNoRoom, ActOver, Acts, IsBlamed, Went, IsCaused, IsOfLog, begun_by, Logged, sticky_log_of, IsProper, page, State, with_page, Outcome, outcome, no_change, IsRefused, UnlessFaulty, Fails, stamps_in, IsBeside, Answer, Call, Config, StickyLog, error_by, StampedPage, KeptPage, view, log_now, unplaced_state, Messages, holds_now, now-unplaced}
use Rattle.sled_base.specs.declared.types.Error.TheVariants.{Io, OutOfMemory}
use Rattle.sled_base.specs.declared.types.Refusal.TheVariants as refusals
use Rattle.sled_pagecache.proofs.Steps.CacheSteps.{steps-went}
use Rattle.sled_pagecache.proofs.CacheLog.ToldContents.{proper-now}
use Rattle.sled_pagecache.proofs.Steps.CallOutcomes.{steps-untold, leads-begun, leads-set, leads-to}
use Rattle.sled_pagecache.proofs.CacheLog.ProperPages.{IsPut, put-proper, add-proper}
use Rattle.sled_pagecache.proofs.Table.StatePages.{AreKnown, known-in, known-length}
use Rattle.sled_pagecache.specs.Logged.{now}

-- no write fault is kept
pub unless-clear : {T : Type 0} (s : State) (answer : Result T Error) (out : Outcome) (goes_on : Type 0) → s.fault ≡ false → goes_on → UnlessFaulty s answer out goes_on
unless-clear s answer out goes_on clear h = subst (λ b. MatchBool b (IsRefused s answer out (Io Write)) goes_on) (sym clear) h

module _ {L : Type 0} (g : Ghosts L) where
  -- a content may be put on the page, which leaves pages as a cache does
  pub record MayPut (l : L) (held : Logged) (pid : ℕ) (content : Content) : Type 0 where
    pub may : MayChange (now held) pid (Put content)
    pub proper : IsProper (chains_from effect_of (log_now effect_of (unplaced_state (g.state l))) (Change pid (message_of (Put content)))) (contents_from (now held) (Change pid (Put content)))

  -- what the log holds makes the contents, which are as many as the pages
  pub holds_unplaced : (cache : Cache L) (held : Logged) (s : State) → Represents g cache held s → s.fault ≡ false → Hold (log_now effect_of (unplaced_state (g.state cache.log))) (now held)
  holds_unplaced cache held s is clear = subst (λ (l : List Messages). Hold l (now held)) (now-unplaced (g.state cache.log)) (holds_now (g.state cache.log) held (is.known clear).logged)

  module _ (next : ℕ) (config : Config) (recovered : Bool) (lru : Recency) where
    abbrev cache : StickyLog L → List KeptPage → Cache L
    cache sticky_log table = view next config recovered lru sticky_log table

    module _ (before : StickyLog L) (table : List KeptPage) (ready : before.fault ≡ false) (beside : IsBeside g.tells g.state before.log table) where
      known : (held : Logged) (s : State) → Represents g (cache before table) held s → s.fault ≡ false → AreKnown s.pages table
      known held s is clear = known-in g (cache before table) table held s is clear refl beside

      pub many : (held : Logged) (s : State) → Represents g (cache before table) held s → s.fault ≡ false → length (now held) ≡ length table
      many held s is clear =
          ap length (sym (is.known clear).contents) ∙ length-map s.pages (λ (p : StampedPage). p.content) ∙ known-length s.pages table (known held s is clear)

      -- on a page from 2 on, or on the next new one
      pub may-set : (held : Logged) (s : State) → Represents g (cache before table) held s → s.fault ≡ false → (pid : ℕ) (content : Content) → IsPut content → 2 ≤ pid → pid < length table → MayPut before.log held pid content
      may-set held s is clear pid content put from there =
          let same = many held s is clear in
          let within : pid < length (now held) = omega (arith, same, there) in
          record {
            may = grind arith;
            proper = put-proper (log_now effect_of (unplaced_state (g.state before.log))) (now held) (holds_unplaced (cache before table) held s is clear) (proper-now (unplaced_state (g.state before.log)) held (is.known clear).logged) pid from content put within;
          }

      pub may-add : (held : Logged) (s : State) → Represents g (cache before table) held s → s.fault ≡ false → (node : WholeNode) → 2 ≤ length table → length table < 2 ^ 37 → MayPut before.log held (length table) (Node node)
      may-add held s is clear node from room =
          let same = many held s is clear in
          record {
            may = omega (arith, same);
            proper = add-proper (log_now effect_of (unplaced_state (g.state before.log))) (now held) (holds_unplaced (cache before table) held s is clear) (proper-now (unplaced_state (g.state before.log)) held (is.known clear).logged) (length table) from node (sym same) (omega (arith, same, room));
          }

      module _ (after : StickyLog L) (call : Call) where
        -- nothing was told to the log, and nothing changes
        pub nothing-appended : (pages : List KeptPage) → pages ≡ table → (answer : Answer) → Went g before after [] → after.fault ≡ false
            → ((held : Logged) (s : State) → Represents g (cache before table) held s → s.fault ≡ false → AreKnown s.pages table → ActOver g (cache before table) s call answer (no_change s))
            → Acts g (cache before table) call answer (cache after pages)
        nothing-appended pages back answer went free step =
            steps-untold g next config recovered lru before table ready call after pages back answer went free (λ held s is clear. step held s is clear (known held s is clear))

        module _ (pid : ℕ) (content : Content) (reads : IsUpdate (message_of (Put content)) (Put content))
            (may : (held : Logged) (s : State) → Represents g (cache before table) held s → s.fault ≡ false → MayPut before.log held pid content) where
          -- the log refused it, or failed
          pub put-refused : (T : Type 0) (pages : List KeptPage) → pages ≡ table → (answer : Error → Answer)
              → ((held : Logged) (s : State) → Represents g (cache before table) held s → s.fault ≡ false → AreKnown s.pages table → (e : Error) (out : Outcome) → Fails (chain_length g.state (cache before table)) (HasNoRoom g before.log) s (Change pid (Put content)) e out → ActOver g (cache before table) s call (answer e) out)
              → (refusal : Refusal) → IsOfLog refusal
              → (let told : Result T Refusal = Err refusal in Went g before after (begun_by told (Change pid (message_of (Put content)) ∷ [])))
              → (let told : Result T Refusal = Err refusal in IsCaused g before after (g.is_full before.log (length (message_of (Put content)).payload)) told)
              → Acts g (cache before table) call (answer (error_by refusal)) (cache after pages)
          put-refused T pages back answer step refusals.OutOfMemory of went cause =
              nothing-appended pages back (answer OutOfMemory) went cause.fault (λ held s is clear are. step held s is clear are OutOfMemory (no_change s) refl)
          put-refused T pages back answer step (refusals.Io Read) of went cause =
              nothing-appended pages back (answer (Io Read)) went cause.fault (λ held s is clear are. step held s is clear are (Io Read) (no_change s) refl)
          put-refused T pages back answer step (refusals.Io Write) of went cause =
              steps-went g (cache before table) (cache after pages) before after call (answer (Io Write)) (Change pid (message_of (Put content)) ∷ []) (record { config = refl; recovered = refl }) refl refl refl ready went
              (λ held s is clear.
              let m = may held s is clear in
              leads-begun g (cache before table) (cache after pages) held s is clear call (answer (Io Write)) refl pid (Put content) reads m.may m.proper
              (step held s is clear (known held s is clear) (Io Write) (outcome (record s { fault = true }) (Change pid (Put content) ∷ [])) refl) (ap stamps_in back) cause.fault)
          put-refused T pages back answer step (refusals.Unsupported LogFull) of went cause =
              nothing-appended pages back (answer (Unsupported LogFull)) went cause.fault (λ held s is clear are. step held s is clear are (Unsupported LogFull) (no_change s) (cause.full refl, refl))
          put-refused T pages back answer step refusal of went cause = absurd of

          module _ (went : Went g before after (Change pid (message_of (Put content)) ∷ [])) (free : after.fault ≡ false) (answer : Answer) (stamp : ℕ) (q : KeptPage) (at : q.stamp ≡ stamp) where
            -- the page that was there holds it
            pub put-set : pid < length table → ((held : Logged) (s : State) → Represents g (cache before table) held s → s.fault ≡ false → AreKnown s.pages table → ActOver g (cache before table) s call answer (outcome (with_page s pid (page stamp content)) (Change pid (Put content) ∷ [])))
                → Acts g (cache before table) call answer (cache after (slice_set table pid q))
            put-set there step =
                steps-went g (cache before table) (cache after (slice_set table pid q)) before after call answer (Change pid (message_of (Put content)) ∷ []) (record { config = refl; recovered = refl }) refl refl refl ready went
                (λ held s is clear.
                let m = may held s is clear in
                let same = many held s is clear in
                leads-set g (cache before table) (cache after (slice_set table pid q)) held s is clear call answer refl pid (Put content) reads m.may m.proper stamp content (step held s is clear (known held s is clear))
                (rw (ne_eqb pid (length (now held)) (λ last. omega (arith, last, there, same))) refl)
                (map-set (λ (p : KeptPage). p.stamp) table pid q ∙ ap (λ n. slice_set (stamps_in table) pid n) at)
                free)

            -- a new page holds it
            pub put-added : pid ≡ length table → ((held : Logged) (s : State) → Represents g (cache before table) held s → s.fault ≡ false → AreKnown s.pages table → ActOver g (cache before table) s call answer (outcome (record s { pages = s.pages ++ page stamp content ∷ [] }) (Change pid (Put content) ∷ [])))
                → Acts g (cache before table) call answer (cache after (table ++ q ∷ []))
            put-added last step =
                steps-went g (cache before table) (cache after (table ++ q ∷ [])) before after call answer (Change pid (message_of (Put content)) ∷ []) (record { config = refl; recovered = refl }) refl refl refl ready went
                (λ held s is clear.
                let m = may held s is clear in
                leads-to g (cache before table) (cache after (table ++ q ∷ [])) held s is clear call answer refl pid (Put content) reads m.may m.proper (record s { pages = s.pages ++ page stamp content ∷ [] }) (step held s is clear (known held s is clear))
                (map-append (λ (p : StampedPage). p.stamp) s.pages (page stamp content ∷ []) ∙ ap (λ (l : List ℕ). l ++ stamp ∷ []) is.stamps ∙ sym (map-append (λ (p : KeptPage). p.stamp) table (q ∷ []) ∙ ap (λ n. stamps_in table ++ n ∷ []) at)) refl (clear ∙ sym free) refl
                (λ _. rw (eq-eqb pid (length (now held)) (last ∙ sym (many held s is clear)))
                (map-append (λ (p : StampedPage). p.content) s.pages (page stamp content ∷ []) ∙ ap (λ (l : List Content). l ++ content ∷ []) (is.known clear).contents)))

  -- a fault is told only where its count grew
  pub blamed : {T U : Type 0} (old new : Cache L) (no_room : Type 0) (refusal : Refusal)
      → (let told : Result T Refusal = Err refusal in IsCaused g (sticky_log_of old) (sticky_log_of new) no_room told)
      → (let answer : Result U Error = Err (error_by refusal) in IsBlamed g old new answer)
  blamed old new no_room refusal cause = grind arith
