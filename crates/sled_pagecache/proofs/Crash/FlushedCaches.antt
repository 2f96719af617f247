-- A cache that is opened again over what a crash left of one that was flushed.
use Rattle.sled_pagecache.proofs.Names.{◌≡◌, ◌≤◌, ◌<◌, ◌+◌, ℕ, true, List, [], ◌∷◌, ◌++◌, length, map, take, drop, min, refl, sym, ◌∙◌, ap, subst, arith, drop-nil, append-nil, length-map, AllZip-long, Result, Ok, Err, IfOk, IfErr, Error, Update, Content, contents_from, contents_after, Event, seen_event, Message, Messages, Chain, Entry, message_in, AreEvents, Holds, unplaced_state, Ghosts, LogFull, missing_pages, changes_of_start, opened_state, Cache, Logged, IsLogged, Started, stable_state, stable_contents, Config, State, page, contents_of, error_of, replicate, length-append, length-set, length-replicate, drop_all, LogState, LogError, most_pages, IsRow, StepInRow, changes_of, IsOpened, IsUnopened, StampedPage, Outcome, Answer, Call, nil_from_length, inl, inr, ⊎_elim, ◌⊎◌, ◌≢◌}
use Rattle.sled_pagecache.proofs.Opening.Endings.{by-settings, sound-settings}
use Rattle.sled_pagecache.proofs.CacheLog.ProperMessages.{no-changes}
use Rattle.sled_base.specs.declared.types.Error.TheVariants as errors
use Rattle.sled_log.specs.Calls.{refusal_of}
use Rattle.sled_log.specs.declared.log.LogError.TheVariants as failures
use Rattle.sled_pagecache.proofs.Crash.ReopenedCaches.{after-none, IsKeptAs, empty-logged, kept-logged, kept-prefix}
use Rattle.sled_pagecache.specs.Reopening.{RefusesReopening, AreFlushedThen, IsFlushed, ReopensAfter, HasFlushed}
use Rattle.sled_pagecache.specs.Logged.{IsLeft, now}

-- ---- contents

-- no change takes a page away
after-no-shorter : (contents : List Content) (events : List (Event Update)) → length contents ≤ length (contents_after contents events)
after-no-shorter contents [] = omega arith
after-no-shorter contents (event ∷ events) = grind (arith, after-no-shorter (contents_from contents event) events, length-append {A = Content}, length-set {A = Content})

-- ---- events

no-messages : (contents : List Content) (messages : List (Event Entry)) (changes : List (Event Update)) → changes ≡ [] → AreEvents contents (map (seen_event message_in) messages) changes → messages ≡ []
no-messages contents [] changes none are = refl
no-messages contents (message ∷ messages) changes none are = absurd (rw none at are)

-- ---- crash states

-- no crash leaves more pages than a cache has, so none leaves whatever pages one likes
not-all : (n : ℕ) (held : Logged) (begun : List (Event Update)) → most_pages < n → ((pages : List Messages) → IsLeft held begun pages) → ⊥
not-all n held begun above all =
    let none : Messages = [] in
    let left = all (replicate n none) in
    let few = left.is.proper.few in
    let long = AllZip-long Holds (replicate n none) (contents_after held.stable (take left.cut (held.pending ++ left.came))) left.is.holds in
    absurd (omega (arith, above, few, long, length-replicate n none))

-- a log at which nothing is pending
at-rest : {L : Type 0} (g : Ghosts L) (log : L) → (g.state log).usable ≡ true → (g.state log).pending ≡ [] → (let state = unplaced_state (g.state log) in state ≡ stable_state state.stable true)
at-rest g log usable none =
    let stable = (unplaced_state (g.state log)).stable in
    ap (λ (events : List (Event Entry)). record { stable = stable; pending = map (seen_event message_in) events; usable = (g.state log).usable }) none ∙ ap (stable_state stable) usable

-- ---- opening

-- why no cache was opened
pub refuses : {L : Type 0} (g : Ghosts L) (log after : L) (config : Config) (held : Logged) (error : Error) → IsUnopened g log held error after
    → RefusesReopening config error ⊎ ((error ≡ errors.Unsupported LogFull) × (changes_of_start (now held) ≢ []))
refuses g log after config held errors.OutOfMemory un = inl tt
refuses g log after config held (errors.Io device) un = inl tt
refuses g log after config held (errors.Unsupported LogFull) un =
    let never : changes_of_start (now held) ≢ [] = λ none.
    let empty : length un.begun + length un.rest ≡ 0 = sym (length-append un.begun un.rest) ∙ ap length (un.are ∙ none) in
    absurd (rw (nil_from_length un.rest (omega arith)) at ((un.full refl).at_once (nil_from_length un.begun (omega arith)))) in
    inr (refl, never)
refuses g log after config held other un = absurd un.why

-- a cache that was opened is durable where nothing is pending
opened-flushed : {L : Type 0} (g : Ghosts L) (log : L) (config : Config) (held : Logged) (cache : Cache L) → (opens : IsOpened g log config held cache) → opens.held_then.pending ≡ [] → 2 ≤ length (opened_state config (now held)).pages
    → IsFlushed g cache (opened_state config (now held))
opened-flushed g log config held cache opens waits both = record {
  held = opens.held_then;
  is = opens.is;
  clear = refl;
  none = no-messages opens.held_then.stable (g.state cache.log).pending opens.held_then.pending waits (opens.is.known refl).logged.pending;
  both = both;
}

module _ {L : Type 0} (g : Ghosts L) (first : Cache L) (calls : List (Call × Answer)) (s : State) (flushed : IsFlushed g first s) where
  -- it holds its pages, and nothing else
  holds-pages : flushed.held ≡ stable_contents (contents_of s)
  holds-pages =
      let none-waits : flushed.held.pending ≡ [] = no-changes flushed.held.stable _ flushed.held.pending (ap (map (seen_event message_in)) flushed.none) (flushed.is.known flushed.clear).logged.pending in
      let stable : flushed.held.stable ≡ contents_of s = sym ((flushed.is.known flushed.clear).contents ∙ ap (contents_after flushed.held.stable) none-waits) in
      ap (λ (changes : List (Event Update)). record { stable = flushed.held.stable; pending = changes }) none-waits ∙ ap stable_contents stable

  module _ (last : Cache L) (step : StepInRow g first calls last) (m : ℕ) (since : g.moment first.log ≤ m) (crashed : L) (same : crashed ≡ last.log)
      (since_earlier : (t u : ℕ) (pages : List Messages) → g.tells → t ≤ u → g.left_since crashed u pages → g.left_since crashed t pages) where
    pub row : IsRow g first calls last flushed.held s
    row = step.from_each flushed.held s flushed.is

    -- the moment of the crash
    abbrev pub moment : ℕ
    moment = min m (g.moment crashed)

    crash-state : (pages : List Messages) → g.left_since crashed moment pages → IsLeft (stable_contents (contents_of s)) (changes_of row.outs) pages
    crash-state pages left =
        let later = (row.crash flushed.clear).later in
        let is-since : g.moment first.log ≤ moment = (let still = ap g.moment same in omega (arith, since, later, still)) in
        subst (λ (h : Logged). IsLeft h (changes_of row.outs) pages) holds-pages
        ((row.crash flushed.clear).each pages (subst (λ (l : L). g.left_since l (g.moment first.log) pages) same (since_earlier (g.moment first.log) moment pages flushed.is.tells is-since left)))

    -- where the log isn't opened
    pub reopens-unopened : (failure : LogError) (error : Error) → error ≡ error_of (refusal_of failure) → (config : Config) → (failure ≡ failures.Corruption → (pages : List Messages) → g.left_since crashed moment pages) → (failure ≡ failures.Full → ⊥) → ReopensAfter g first s calls last config (Err error)
    reopens-unopened failure error is config corrupt full =
        let never : ((pages : List Messages) → g.left_since crashed moment pages) → ⊥ = λ all. not-all (most_pages + 1) (stable_contents (contents_of s)) (changes_of row.outs) (omega arith) (λ pages. crash-state pages (all pages)) in
        let why : RefusesReopening config (error_of (refusal_of failure)) = grind (arith, never) in
        record { outs = row.outs; t = row.t; steps = row.steps; opens = tt; refused = rw is why }

    module _ (log : L) (usable : (g.state log).usable ≡ true) (none : (g.state log).pending ≡ []) (left : g.left_since crashed moment (unplaced_state (g.state log)).stable) (config : Config) where
      abbrev pub pages : List Messages
      pages = (unplaced_state (g.state log)).stable

      -- what the crash left
      abbrev kept : IsKeptAs pages (AreFlushedThen s (changes_of row.outs))
      kept = kept-prefix (stable_contents (contents_of s)) (changes_of row.outs) pages (crash-state pages left)

      both : 2 ≤ length kept.0
      both = (let old = flushed.both in omega (arith, old, length-map s.pages (λ (p : StampedPage). p.content), after-no-shorter))

      logged : IsLogged (unplaced_state (g.state log)) (stable_contents kept.0)
      logged = subst (λ (state : LogState Message). IsLogged state (stable_contents kept.0)) (sym (at-rest g log usable none)) (kept-logged pages kept.0 kept.1 true)

      pub reopens-opened : (cache : Cache L) (result : Result (Cache L) (Error × L)) → result ≡ Ok cache → Started g log config result → ReopensAfter g first s calls last config (Ok cache)
      reopens-opened cache result is start =
          let begun = rw is at start in
          let opens = begun.opens (sound-settings g log config cache begun) (stable_contents kept.0) logged in
          let waits : opens.held_then.pending ≡ [] = opens.added.pending ∙ ap (drop opens.added.cut) (drop_all (length kept.0) _ both) ∙ drop-nil opens.added.cut in
          let long : 2 ≤ length (opened_state config kept.0).pages = omega (arith, both, length-append (map (page 0) kept.0) (map (page 1) (missing_pages kept.0)), length-map kept.0 (page 0)) in
          record {
            outs = row.outs;
            t = row.t;
            steps = row.steps;
            opens = record { contents = kept.0; are = kept.2; flushed = opened-flushed g log config (stable_contents kept.0) cache opens waits long };
            refused = tt;
          }

      pub reopens-refused : (error : Error) (after : L) (result : Result (Cache L) (Error × L)) → result ≡ Err (error, after) → Started g log config result → ReopensAfter g first s calls last config (Err error)
      reopens-refused error after result is start =
          let begun = rw is at start in
          let why : RefusesReopening config error =
          by-settings config (λ why wrong. subst (λ (r : Result (Cache L) (Error × L)). IfErr r (λ e. RefusesReopening config e.0)) (sym (begun.settings why wrong)) wrong)
          (λ sound. ⊎_elim (λ why. why) (λ full. absurd (full.1 (drop_all (length kept.0) _ both))) (refuses g log after config (stable_contents kept.0) error (begun.opens sound (stable_contents kept.0) logged))) in
          record { outs = row.outs; t = row.t; steps = row.steps; opens = tt; refused = why }

-- with no calls since, what is opened again is what was flushed
pub flushed-again : {L : Type 0} (g : Ghosts L) (first last : Cache L) (s : State) (config : Config) (result : Result (Cache L) Error) → 2 ≤ length s.pages → ReopensAfter g first s [] last config result → IfOk result (HasFlushed g s config) × IfErr result (RefusesReopening config)
flushed-again g first last s config (Err error) both after = (tt, after.refused)
flushed-again g first last s config (Ok cache) both after =
    let none-out : after.outs ≡ [] = grind (arith, after.steps) in
    let are : AreFlushedThen s [] after.opens.contents = subst (λ (outs : List Outcome). AreFlushedThen s (changes_of outs) after.opens.contents) none-out after.opens.are in
    let same = after-none (stable_contents (contents_of s)) after.opens.contents refl are in
    let none : missing_pages (contents_of s) ≡ [] = drop_all (length (contents_of s)) _ (omega (arith, both, length-map s.pages (λ (p : StampedPage). p.content))) in (
      record {
        flushed = subst (λ (contents : List Content). IsFlushed g cache (opened_state config contents)) same after.opens.flushed;
        pages = ap (λ (contents : List Content). map (page 0) (contents_of s) ++ map (page 1) contents) none ∙ append-nil (map (page 0) (contents_of s));
      },
      tt,
    )

-- ---- a cache over an empty log

pub starts-flushed : {L : Type 0} (g : Ghosts L) (log : L) → (g.state log).usable ≡ true → (g.state log).pending ≡ [] → (g.state log).stable ≡ []
    → (config : Config) (cache : Cache L) (result : Result (Cache L) (Error × L)) → result ≡ Ok cache → Started g log config result → IsFlushed g cache (opened_state config [])
starts-flushed g log usable none stable config cache result is start =
    let empty = at-rest g log usable none ∙ ap (λ (chains : List Chain). stable_state (map (map message_in) chains) true) stable in
    let begun = rw is at start in
    let opens = begun.opens (sound-settings g log config cache begun) (stable_contents []) (rw empty (empty-logged true)) in
    opened-flushed g log config (stable_contents []) cache opens (opens.stable (λ e. absurd cc)) (omega arith)
