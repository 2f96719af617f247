-- Why every run of openings shows pages after a prefix of the changes, which holds all that was flushed, and gives no generated id twice:
-- what opens over a log, however a cache over it ended, begins above every id that was answered.
use Rattle.sled_pagecache.proofs.Names.{Counter, Roots, drop_all, seen_event, map, message_in, Answer, Cache, Call, Config, Content, Err, Error, Generated, Ghosts, Represents, IsLogged, IsStep, List, Logged, Messages, Ok, Result, Started, State, Outcome, [], ◌∷◌, ◌++◌, ap, append-nil, append_assoc, arith, changes_of_start, false, inl, inr, IfErr, IsErrAnd, stable_contents, opened_state, refl, subst, sym, true, unplaced_state, ℕ, ◌≡◌, ◌≢◌, ◌≤◌, ◌+◌, ◌⊎◌, ⊎_elim, ◌∙◌, true≢false, Update, Event, StepOver, Adds, IsPrefix, IsPrefix-all, IsPrefix-none, Crashed, CrashedIn, CrashedRewriting, Ending, HandedOn, Rewritten, IsEmpty, IsRun, Lasted, Leaves, LeavesUnopened, Opening, HoldsCrash, KeepIntervals, OnlyNow, left-now, CoversId, IsCovered, IsMade, ReportsBytes, Opens, MayBeOpened, Unsupported, Write, has_own, cases_Bool, cases_lt, contents_after, contents_of, id_in, ids_in, ids_of, length, length-drop, AddsEvents-then, CrashKeeps-added, CrashKeeps-more, IsFair-none, contents_after-append, log_after, step-stuck}
use Rattle.sled_log.specs.LogState.{LogState}
use Rattle.sled_log.specs.Messages.{Entry}
use Rattle.sled_disk.specs.Served.{StaysALog}
use Rattle.sled_pagecache.specs.Openings.{AreMadeServed, Refused}
use Rattle.sled_pagecache.specs.Served.{IsServed}
use Rattle.sled_pagecache.proofs.CacheLog.ToldContents.{proper-now}
use Rattle.sled_pagecache.proofs.Ids.RisingCounter.{BeginsAbove, CountsTo, IsSafe, Rises, first-at, now-added, rises-over, rises-parts, safe-added, safe-crash, start-counts, start-rises}
use Rattle.sled_pagecache.proofs.Opening.Endings.{by-settings, crash-since, sound-settings}
use Rattle.sled_pagecache.proofs.Ids.IdRuns.{RiseFrom}
use Rattle.sled_pagecache.proofs.CacheLog.ProperMessages.{no-changes}
use Rattle.sled_base.specs.declared.types.Error.TheVariants.{Io}
use Rattle.sled_pagecache.proofs.Crash.FlushedCaches.{refuses}
use Rattle.sled_pagecache.proofs.Ids.IdSteps.{Passes, call-passes, none-given, wrote-none}
use Rattle.sled_pagecache.proofs.CacheLog.ServedCaches.{represents-over}
use Rattle.sled_pagecache.proofs.Crash.ReopenedCaches.{IsKeptAs, crash-holds, empty-logged, kept-prefix}
use Rattle.sled_pagecache.specs.Prefixes.{AreStepsServed, History, Crashes, history_after_answer, with_begun, begun_by_start, history_after_call, history_after_calls, with_made, pages_by_now, history_after_start, history_after_start_with, history_from, Survives, with_all_flushed, Ends, EndsUnopened, HasPagesOf, IsOpenedOf, RefusesAfter, ShowPrefixes}
use Rattle.sled_pagecache.specs.Logged.{IsLeft, now, AreKept}
use Rattle.sled_pagecache.specs.Inside.SequenceLaws.{adds-none}

-- The log holds what the history says, no write has failed, and all that is flushed is durable. What opens over it begins at the bound or
-- above.
record Tells (h : History) (least bound : ℕ) (held : Logged) : Type 0 where
  pub added : Adds (stable_contents h.pages) h.changes held
  pub flushed : h.flushed ≤ added.cut
  pub clear : h.begun ≡ []
  pub safe : IsSafe least bound held

-- messages that a crash left are pages that survive it, and what opens over them begins at the bound or above
abbrev SurviveAs : History → ℕ → ℕ → List Messages → Type 0
SurviveAs h least bound pages = IsKeptAs pages (λ contents. Survives h contents × BeginsAbove least bound contents)

-- nothing came yet
tells-nothing : (contents : List Content) (least bound : ℕ) → BeginsAbove least bound contents → Tells (history_from contents) least bound (stable_contents contents)
tells-nothing contents least bound above = record {
  added = record { cut = 0; fair = IsFair-none []; stable = refl; pending = refl };
  flushed = omega arith;
  clear = refl;
  safe = record { rises = tt; above = above };
}

module _ (h : History) (least bound : ℕ) (held : Logged) (told : Tells h least bound held) where
  -- the pages by now are what the log holds
  tells-now : now held ≡ pages_by_now h
  tells-now = now-added (stable_contents h.pages) held h.changes told.added

  -- more was added
  tells-made : (changes : List (Event Update)) → Rises (now held) changes → (held_then : Logged) → Adds held changes held_then → Tells (with_made changes h) least bound held_then
  tells-made changes rises held_then added =
      let (both, cut) = AddsEvents-then contents_after contents_after-append h.pages held.stable held_then.stable [] held.pending held_then.pending h.changes changes told.added added in
      let flushed = told.flushed in
      record { added = both; flushed = omega (arith, flushed, cut); clear = told.clear; safe = safe-added least bound held told.safe changes rises held_then added }

  -- nothing is pending
  tells-flushed : held.pending ≡ [] → Tells (with_all_flushed h) least bound held
  tells-flushed none = record {
    added = told.added;
    flushed = omega (arith, length-drop told.added.cut h.changes, ap length (sym told.added.pending ∙ none));
    clear = told.clear;
    safe = told.safe;
  }

  -- what a crash leaves where a part of these changes has begun
  survive : (part all : List (Event Update)) → IsPrefix part all → Rises (now held) all → (pages : List Messages) → IsLeft held part pages → SurviveAs (with_begun all h) least bound pages
  survive part all prefix rises pages some =
      let left = CrashKeeps-more contents_after contents_after-append held.stable held.pending part all (AreKept pages) prefix some in
      let (contents, kept, after) = kept-prefix held all pages left in
      let behind = CrashKeeps-added contents_after contents_after-append h.pages held.stable [] held.pending h.changes all (λ kept. contents ≡ kept) told.added after in
      let flushed = told.flushed in
      let cut = behind.1 in (
        contents,
        kept,
        (
          rw told.clear (record { prefix = behind.0; holds = omega (arith, flushed, cut) }),
          safe-crash least bound held told.safe all rises pages left,
        ),
      )

-- the changes of a start were made
tells-start : (changes : List (Event Update)) (h : History) (least bound : ℕ) (held : Logged) → Tells (with_made changes h) least bound held → (changes ≢ [] → held.pending ≡ []) → Tells (history_after_start_with changes h) least bound held
tells-start changes h least bound held told none = grind (arith, tells-flushed (with_made changes h) least bound held told, append-nil h.changes)

-- the answer covers the id that it gives
covers : {L : Type 0} (g : Ghosts L) (answer : Answer) (id : ℕ) (new : Cache L) → id_in answer ≡ id ∷ [] → CoversId g answer new → IsCovered g new id
covers g answer id new is covered = grind arith

module _ {L : Type 0} (g : Ghosts L) (tells : g.tells)
    (only_now : OnlyNow g)
    (since_earlier : (l : L) (t u : ℕ) (pages : List Messages) → t ≤ u → g.left_since l u pages → g.left_since l t pages) where
  -- an answer, that flushes all or doesn't
  tells-answer : (old new : Cache L) (answer : Answer) (changes : List (Event Update)) (h : History) (least bound : ℕ) (held : Logged) → Tells (with_made changes h) least bound held → ReportsBytes g old answer new
      → ((g.state new.log).pending ≡ [] → held.pending ≡ []) → ((id : ℕ) → answer ≡ Generated (Ok id) → new ≡ record old { next = old.next + 1 } → changes ≡ []) → Tells (history_after_answer answer changes h) least bound held
  tells-answer old new answer changes h least bound held told bytes none wrote = grind (arith, tells-flushed (with_made changes h) least bound held told)

  record IsFound (h : History) (least bound : ℕ) (l : L) : Type 0 where
    pub held : Logged
    pub logged : IsLogged (unplaced_state (g.state l)) held
    pub told : Tells h least bound held

  -- the history ends so, and then a log is found that is left
  abbrev Lands : (History → Type 0) → ℕ → ℕ → L → Type 0
  Lands Ends least bound left = (after : History) × Ends after × IsFound after least bound left

  -- a crash state that is opened
  crash-found : (h : History) (least bound since : ℕ) (crashed l : L) → HoldsCrash g crashed since l → ((pages : List Messages) → g.left_since crashed since pages → SurviveAs h least bound pages) → Lands (Crashes h) least bound l
  crash-found h least bound since crashed l crash each =
      let (contents, are, logged) = crash-holds g since_earlier crashed since (λ contents. Survives h contents × BeginsAbove least bound contents) each l crash in
      (history_from contents, (contents, are.0, refl), record { held = stable_contents contents; logged = logged; told = tells-nothing contents least bound are.1 })

  -- ---- a cache between two calls

  -- it goes on, and every id so far is below the bound
  record GoesOn (h : History) (interval bound : ℕ) (cache : Cache L) (held : Logged) (s : State) : Type 0 where
    pub clear : s.fault ≡ false
    pub told : Tells h interval bound held
    pub interval_is : cache.config.idgen_persist_interval ≡ interval
    pub next : bound ≤ s.next
    pub counts : (counter : ℕ) × CountsTo (now held) counter

  -- a write fault is kept, and what crashes leave since the call that met it is known
  record IsFaulty (h : History) (interval bound : ℕ) (cache : Cache L) (s : State) : Type 0 where
    pub kept : s.fault ≡ true
    pub since : ℕ
    pub earlier : since ≤ g.moment cache.log
    pub left : (pages : List Messages) → g.left_since cache.log since pages → SurviveAs h interval bound pages

  record Stands (h : History) (interval bound : ℕ) (cache : Cache L) (s : State) : Type 0 where
    pub held : Logged
    pub is : Represents g cache held s
    pub so : GoesOn h interval bound cache held s ⊎ IsFaulty h interval bound cache s

  -- A call, as the machine may answer it, and what it leaves. All ids so far are below another bound then.
  record Goes (h : History) (interval bound : ℕ) (old : Cache L) (s : State) (call : Call) (answer : Answer) (new : Cache L) : Type 0 where
    pub out : Outcome
    pub step : StepOver g old s call answer out
    pub bound_then : ℕ
    pub stands : Stands (history_after_call answer out h) interval bound_then new out.state
    pub rise : (more : List ℕ) → RiseFrom bound_then more → RiseFrom bound (id_in answer ++ more)
    pub inside : ℕ
    pub later : inside ≤ g.moment old.log
    pub left : (pages : List Messages) → g.left_since new.log inside pages → SurviveAs (with_begun out.changes h) interval bound pages

  module _ (h : History) (interval bound : ℕ) (old new : Cache L) (s : State) (call : Call) (answer : Answer) (made : IsMade g old call answer new) (held : Logged) (is : Represents g old held s) where
    one : IsStep g old call answer new held s
    one = made.step.from_each held s is

    module _ (on : GoesOn h interval bound old held s) where
      contents : contents_of s ≡ now held
      contents = (is.known on.clear).contents

      passes : Passes s (id_in answer) one.out
      passes = call-passes g old s on.counts.0 (rw contents on.counts.1) call answer one.out one.step

      rises : Rises (now held) one.out.changes
      rises = rw contents at passes.rises

      left : (pages : List Messages) → g.left_since new.log (g.moment old.log) pages → SurviveAs (with_begun one.out.changes h) interval bound pages
      left pages since = survive h interval bound held on.told one.out.changes one.out.changes (IsPrefix-all one.out.changes) rises pages ((one.crash on.clear).each pages since)

      goes-on : (free : one.out.state.fault ≡ false) (bound_then : ℕ) → bound_then ≤ one.out.state.next → BeginsAbove interval bound_then one.held_then.stable → Stands (history_after_call answer one.out h) interval bound_then new one.out.state
      goes-on free bound_then next above = record {
        held = one.held_then;
        is = one.is;
        so = inl (record {
          clear = free;
          told = rw free (record { added = told.added; flushed = told.flushed; clear = told.clear; safe = record { rises = told.safe.rises; above = above } });
          interval_is = ap (λ (c : Config). c.idgen_persist_interval) made.step.opening.config ∙ on.interval_is;
          next = next;
          counts = (passes.counter, rw (now-added held one.held_then one.out.changes (one.added free), ← contents) passes.counts);
        });
      }
        where
          told : Tells (history_after_answer answer one.out.changes h) interval bound one.held_then
          told =
              tells-answer old new answer one.out.changes h interval bound one.held_then (tells-made h interval bound held on.told one.out.changes rises one.held_then (one.added free)) made.bytes
              (λ is. no-changes one.held_then.stable _ one.held_then.pending (ap (map (seen_event message_in)) is) (one.is.known free).logged.pending)
              (λ id given next. wrote-none g old s call id one.out (subst (λ a. StepOver g old s call a one.out) given one.step) (one.is.stamps ∙ ap (λ (c : Cache L). c.stamps) next ∙ sym is.stamps))

      -- an id that it gives is below the counter that is durable
      above-id : id_in answer ≡ s.next ∷ [] → one.out.state.fault ≡ false → BeginsAbove interval (s.next + 1) one.held_then.stable
      above-id gives free wide more =
          let below = covers g answer s.next new gives made.covered tells one.held_then (one.is.known free).logged in
          let same : new.config.idgen_persist_interval ≡ interval = ap (λ (c : Config). c.idgen_persist_interval) made.step.opening.config ∙ on.interval_is in
          omega (arith, below.2, same, more, first-at wide one.held_then.stable below.0 below.1)

      clear-goes : Goes h interval bound old s call answer new
      clear-goes =
          ⊎_elim
          (λ none. goes bound
          (⊎_elim (λ kept. record { held = one.held_then; is = one.is; so = inr (record { kept = kept; since = g.moment old.log; earlier = (one.crash on.clear).later; left = rw kept left }) })
          (λ free. goes-on free bound (omega (arith, on.next, passes.next)) (safe-added interval bound held on.told.safe one.out.changes rises one.held_then (one.added free)).above) (cases_Bool one.out.state.fault))
          (λ more below. rw none below))
          (λ given. goes (s.next + 1) (goes-on given.1 (s.next + 1) (omega (arith, given.2)) (above-id given.0 given.1)) (λ more below. rw given.0 (on.next, below))) passes.given
        where
          goes : (bound_then : ℕ) → Stands (history_after_call answer one.out h) interval bound_then new one.out.state → ((more : List ℕ) → RiseFrom bound_then more → RiseFrom bound (id_in answer ++ more)) → Goes h interval bound old s call answer new
          goes bound_then stands rise =
              record { out = one.out; step = one.step; bound_then = bound_then; stands = stands; rise = rise; inside = g.moment old.log; later = omega arith; left = left }

    -- with a write fault kept it writes nothing, and leaves it so
    stuck-goes : IsFaulty h interval bound old s → Goes h interval bound old s call answer new
    stuck-goes faulty =
        let unchanged = step-stuck g old s call answer one.out one.step faulty.kept in
        let kept : one.out.state.fault ≡ true = ap (λ (o : Outcome). o.state.fault) unchanged ∙ faulty.kept in
        let same : h.begun ++ one.out.changes ≡ h.begun = ap (λ (o : Outcome). h.begun ++ o.changes) unchanged ∙ append-nil h.begun in
        let left : (pages : List Messages) → g.left_since new.log faulty.since pages → SurviveAs (with_begun one.out.changes h) interval bound pages = λ pages since. rw same (faulty.left pages (rw (one.stuck faulty.kept) at since)) in
        record {
          out = one.out;
          step = one.step;
          bound_then = bound;
          stands = record { held = one.held_then; is = one.is; so = inr (record { kept = kept; since = faulty.since; earlier = rw (one.stuck faulty.kept) faulty.earlier; left = rw kept left }) };
          rise = λ more below. rw (none-given g old s faulty.kept call answer one.out one.step) below;
          inside = faulty.since;
          later = faulty.earlier;
          left = left;
        }

  call-goes : (h : History) (interval bound : ℕ) (old new : Cache L) (s : State) (call : Call) (answer : Answer) → Stands h interval bound old s → IsMade g old call answer new → Goes h interval bound old s call answer new
  call-goes h interval bound old new s call answer stands made =
      ⊎_elim (clear-goes h interval bound old new s call answer made stands.held stands.is) (stuck-goes h interval bound old new s call answer made stands.held stands.is) stands.so

  -- the calls of an opening
  record Went (h : History) (interval bound : ℕ) (first : Cache L) (s : State) (calls : List (Call × Answer)) (last : Cache L) : Type 0 where
    pub outs : List Outcome
    pub t : State
    pub steps : AreStepsServed g first s calls outs last t
    pub bound_then : ℕ
    pub stands : Stands (history_after_calls calls outs h) interval bound_then last t
    pub rise : (more : List ℕ) → RiseFrom bound_then more → RiseFrom bound (ids_in calls ++ more)

  -- a cache that was served stands as it stood
  serve : (h : History) (interval bound : ℕ) (old : Cache L) (log : L) (s : State) → StaysALog g old.log log → Stands h interval bound old s → Stands h interval bound (record old { log = log }) s
  serve h interval bound old log s stays stands = record {
    held = stands.held;
    is = represents-over g old log stands.held s stays stands.is;
    so = ⊎_elim
        (λ on. inl (record { clear = on.clear; told = on.told; interval_is = on.interval_is; next = on.next; counts = on.counts }))
        (λ stuck. inr (record {
          kept = stuck.kept;
          since = stuck.since;
          earlier = let le = stuck.earlier in let later = stays.later tells in omega (arith, le, later);
          left = λ pages since. stuck.left pages (stays.nothing_else tells stuck.since pages stuck.earlier since);
        })) stands.so;
  }

  served-stands : (h : History) (interval bound : ℕ) (old new : Cache L) (s : State) → IsServed g old new → Stands h interval bound old s → Stands h interval bound new s
  served-stands h interval bound old new s served stands = subst (λ (cache : Cache L). Stands h interval bound cache s) (sym served.same) (serve h interval bound old new.log s served.stays stands)

  calls-go : (h : History) (interval bound : ℕ) (first last : Cache L) (s : State) (calls : List (Call × Answer)) → Stands h interval bound first s → AreMadeServed g first calls last → Went h interval bound first s calls last
  calls-go h interval bound first last s [] stands served =
      record { outs = []; t = s; steps = (served, refl); bound_then = bound; stands = served-stands h interval bound first last s served stands; rise = λ more below. below }
  calls-go h interval bound first last s (call ∷ calls) stands (begun, mid, served, here, others) =
      let one = call-goes h interval bound begun mid s call.0 call.1 (served-stands h interval bound first begun s served stands) here in
      let rest = calls-go (history_after_call call.1 one.out h) interval one.bound_then mid last one.out.state calls one.stands others in
      record {
        outs = one.out ∷ rest.outs;
        t = rest.t;
        steps = (begun, mid, served, here, one.step, (one.stands.held, one.stands.is), rest.steps);
        bound_then = rest.bound_then;
        stands = rest.stands;
        rise = λ more below. rw append_assoc (one.rise (ids_in calls ++ more) (rest.rise more below));
      }

  -- ---- an opening

  module _ (h : History) (l : L) (config : Config) where
    module _ (bound : ℕ) (found : IsFound h config.idgen_persist_interval bound l) where
      begins-so : (first : Cache L) → Started g l config (Ok first) → IsOpenedOf g h config first × Stands (history_after_start h) config.idgen_persist_interval bound first (opened_state config (pages_by_now h))
      begins-so first begun =
          let k = config.idgen_persist_interval in
          let start = begun.opens (sound-settings g l config first begun) found.held found.logged in
          let changes = changes_of_start (now found.held) in
          let rises = start-rises (now found.held) in
          let counts = start-counts (now found.held) (proper-now (unplaced_state (g.state l)) found.held found.logged).own in
          let pages_are = tells-now h k bound found.held found.told in
          let all = tells-made h k bound found.held found.told changes rises start.held_then start.added in
          let stands : Stands (history_after_start_with changes h) k bound first (opened_state config (now found.held)) = record {
            held = start.held_then;
            is = start.is;
            so = inl (record {
              clear = refl;
              told = tells-start changes h k bound start.held_then all
                  (λ some. start.stable (λ none. some (drop_all (length (now found.held)) _ (omega (arith, length-drop (length (now found.held)) (Roots [] ∷ Counter 0 ∷ []), ap length none)))));
              interval_is = ap (λ (c : Config). c.idgen_persist_interval) start.config_is;
              next = omega (arith, found.told.safe.above k (omega arith), rises-over found.held.stable found.held.pending found.told.safe.rises k);
              counts = (counts.0, rw (now-added found.held start.held_then changes start.added) counts.1);
            });
          } in (
            record { state = (start.held_then, rw pages_are at start.is); config_is = start.config_is; recovered = start.recovered ∙ ap has_own pages_are },
            subst (λ (contents : List Content). Stands (history_after_start_with (changes_of_start contents) h) k bound first (opened_state config contents)) pages_are stands,
          )

    module _ (least bound : ℕ) (found : IsFound h least bound l) where
      pages_are : now found.held ≡ pages_by_now h
      pages_are = tells-now h least bound found.held found.told

      -- why no cache was opened
      why-refused : (result : Result (Cache L) (Error × L)) → Started g l config result → IfErr result (λ e. RefusesAfter h config e.0)
      why-refused (Ok cache) begun = tt
      why-refused (Err refused) begun =
          by-settings config (λ why wrong. subst (λ (r : Result (Cache L) (Error × L)). IfErr r (λ e. RefusesAfter h config e.0)) (sym (begun.settings why wrong)) (inl wrong))
          (λ sound. rw (← pages_are) (refuses g l refused.1 config found.held refused.0 (begun.opens sound found.held found.logged)))

      -- What is left where none was: some of the changes of a start have begun. A crash came since, or the log came back with them.
      unopened : (result : Result (Cache L) (Error × L)) (left : L) → MayBeOpened g l → Started g l config result → LeavesUnopened g l result left → Lands (EndsUnopened h) least bound left
      unopened result left may begun leaves =
          by-settings config (λ why wrong. untouched (Unsupported why) (begun.settings why wrong)) (λ sound. of_result result (begun.opens sound found.held found.logged) leaves)
        where
          all : List (Event Update)
          all = changes_of_start (now found.held)

          by-crash : (crashed : L) (part : List (Event Update)) → IsPrefix part all → HoldsCrash g crashed (g.moment l) left → ((pages : List Messages) → g.left_since crashed (g.moment l) pages → IsLeft found.held part pages) → Lands (EndsUnopened h) least bound left
          by-crash crashed part prefix crash each =
              let (after, crashes, is) = crash-found (with_begun (begun_by_start h) h) least bound (g.moment l) crashed left crash
              (λ pages since. survive h least bound found.held found.told part (begun_by_start h) (rw pages_are at prefix) (rw (← pages_are) (start-rises (now found.held))) pages (each pages since)) in
              (after, inl crashes, is)

          by-return : (part : List (Event Update)) → IsPrefix part all → (held_then : Logged) (after : L) → left ≡ after → IsLogged (unplaced_state (g.state after)) held_then → Adds found.held part held_then → Lands (EndsUnopened h) least bound left
          by-return part prefix held_then after is logged added =
              let rises = (rises-parts (now found.held) part prefix.0 (rw prefix.1 (start-rises (now found.held)))).0 in (
                with_made part h,
                inr (part, rw pages_are at prefix, refl),
                record { held = held_then; logged = rw is logged; told = tells-made h least bound found.held found.told part rises held_then added },
              )

          untouched : (e : Error) → result ≡ Err (e, l) → Lands (EndsUnopened h) least bound left
          untouched e same =
              ⊎_elim
              (λ crash. by-crash l [] (IsPrefix-none all) (subst (λ r. HoldsCrash g (log_after r) (g.moment l) left) same crash)
              (λ pages since. left-now (unplaced_state (g.state l)) found.held pages found.logged (only_now l pages tells may.0 since)))
              (λ handed. by-return [] (IsPrefix-none all) found.held l (subst (λ r. IsErrAnd r (λ e. (e.0 ≢ Io Write) × (left ≡ e.1))) same handed).1 found.logged (adds-none found.held)) leaves

          of_result : (result : Result (Cache L) (Error × L)) → Opens g l config found.held result → LeavesUnopened g l result left → Lands (EndsUnopened h) least bound left
          of_result (Ok cache) start leaves = ⊎_elim (λ crash. by-crash cache.log all (IsPrefix-all all) crash start.crash.each) (λ handed. absurd handed) leaves
          of_result (Err refused) start leaves =
              ⊎_elim (λ crash. by-crash refused.1 start.begun (start.rest, start.are) crash start.crash.each)
              (λ handed. let adds = start.added handed.0 in by-return start.begun (start.rest, start.are) adds.held_then refused.1 handed.1 adds.logged adds.added) leaves

  -- how it ends
  module _ (h : History) (interval bound : ℕ) (last : Cache L) (t : State) (left : L) (stands : Stands h interval bound last t) where
    ends : (ending : Ending) → Leaves g last ending left → Lands (Ends g last t h ending) interval bound left
    ends Crashed crash =
        ⊎_elim
        (λ on.
        let known = stands.is.known on.clear in
        crash-found h interval bound (g.moment last.log) last.log left crash
        (λ pages since.
        subst (λ (l : List (Event Update)). SurviveAs (record h { begun = l }) interval bound pages) (append-nil h.begun)
        (survive h interval bound stands.held on.told [] [] (IsPrefix-none []) tt pages (left-now (unplaced_state (g.state last.log)) stands.held pages known.logged (only_now last.log pages tells known.usable since)))))
        (λ stuck. crash-found h interval bound stuck.since last.log left (crash-since g last.log left stuck.since (g.moment last.log) stuck.earlier crash) stuck.left) stands.so
    ends (CrashedIn call answer) (new, made, crash) =
        let one = call-goes h interval bound last new t call answer stands made in
        let (after, crashes, is) = crash-found (with_begun one.out.changes h) interval bound one.inside new.log left (crash-since g new.log left one.inside (g.moment last.log) one.later crash) one.left in
        (after, (one.out, one.step, crashes), is)
    ends CrashedRewriting (then, stays, crash) =
        let one = stays.from_each stands.held t stands.is in
        let none : one.out.changes ≡ [] = ap (λ (o : Outcome). o.changes) one.step in
        ⊎_elim
        (λ on. crash-found h interval bound (g.moment last.log) then.log left crash
        (λ pages since.
        subst (λ (l : List (Event Update)). SurviveAs (record h { begun = l }) interval bound pages) (append-nil h.begun)
        (survive h interval bound stands.held on.told [] [] (IsPrefix-none []) tt pages (subst (λ (l : List (Event Update)). IsLeft stands.held l pages) none ((one.crash on.clear).each pages since)))))
        (λ stuck. crash-found h interval bound stuck.since then.log left (crash-since g then.log left stuck.since (g.moment last.log) stuck.earlier crash)
        (λ pages since. stuck.left pages (rw (one.stuck stuck.kept) at since))) stands.so
    ends HandedOn (clear, same) =
        ⊎_elim
        (λ on. (h, (on.clear, refl), subst (IsFound h interval bound) (sym same) (record { held = stands.held; logged = (stands.is.known on.clear).logged; told = on.told })))
        (λ stuck. absurd (true≢false (sym stuck.kept ∙ stands.is.fault ∙ clear))) stands.so
    ends Rewritten (clear, rewritten) =
        ⊎_elim
        (λ on.
        let held = stands.held in
        let safe = on.told.safe in
        let told = tells-nothing (now held) interval bound (λ k wide. omega (arith, safe.above k wide, rises-over held.stable held.pending safe.rises k)) in (
          history_from (pages_by_now h),
          (on.clear, refl),
          record {
            held = stable_contents (now held);
            logged = rewritten.contents tells tells held (stands.is.known on.clear).logged;
            told = subst (λ (contents : List Content). Tells (history_from contents) interval bound (stable_contents (now held))) (tells-now h interval bound held on.told) told;
          },
        ))
        (λ stuck. absurd (true≢false (sym stuck.kept ∙ stands.is.fault ∙ clear))) stands.so

  -- ---- openings one after another

  -- The bound by which a log is found, where a cache is opened with this interval: it is lost where the interval is shorter.
  widened : (h : History) (least k bound : ℕ) (l : L) → IsFound h least bound l → (bound_then : ℕ) × IsFound h k bound_then l × (least ≤ k → bound_then ≡ bound)
  widened h least k bound l found =
      ⊎_elim (λ narrow. (0, with_bound 0 (λ interval wide. omega arith), λ wide. absurd (omega (arith, narrow, wide))))
      (λ more. (bound, with_bound bound (λ interval wide. found.told.safe.above interval (omega (arith, more, wide))), λ wide. refl)) (cases_lt k least)
    where
      with_bound : (bound_then : ℕ) → BeginsAbove k bound_then found.held.stable → IsFound h k bound_then l
      with_bound bound_then above =
          let told : Tells h k bound_then found.held = record { added = found.told.added; flushed = found.told.flushed; clear = found.told.clear; safe = record { rises = found.told.safe.rises; above = above } } in
          record { held = found.held; logged = found.logged; told = told }

  -- a log that was served is found as it was
  served-found : (h : History) (least bound : ℕ) (old new : L) → IsFound h least bound old → StaysALog g old new → IsFound h least bound new
  served-found h least bound old new found stays =
      record { held = found.held; logged = subst (λ (state : LogState Entry). IsLogged (unplaced_state state) found.held) (sym (stays.state tells)) found.logged; told = found.told }

  abbrev Shows : History → ℕ → ℕ → List (Opening L) → Type 0
  Shows h least bound openings = ShowPrefixes g h openings × (KeepIntervals least openings → RiseFrom bound (ids_of openings))

  run-shows : (h : History) (least bound : ℕ) (l : L) (openings : List (Opening L)) → IsFound h least bound l → IsRun g l openings → Shows h least bound openings
  run-shows h least bound l [] found run = (tt, λ keeps. tt)
  run-shows h least bound l (Refused config result left ∷ openings) found (log, stays, start, leaves, run) =
      let begun = served-found h least bound l log found stays in
      let (after, ends, is) = unopened h log config least bound begun result left start.0 start.1 leaves in
      let (shows, rise) = run-shows after least bound left openings is run in
      ((why-refused h log config least bound begun result start.1, after, ends, shows), rise)
  run-shows h least bound l (Lasted config first calls last ending left ∷ openings) found (log, stays, start, made, leaves, run) =
      let k = config.idgen_persist_interval in
      let (bound_then, found_then, same) = widened h least k bound log (served-found h least bound l log found stays) in
      let (opens, stands) = begins-so h log config bound_then found_then first start.1 in
      let all = calls-go (history_after_start h) k bound_then first last (opened_state config (pages_by_now h)) calls stands made in
      let then = history_after_calls calls all.outs (history_after_start h) in
      let has-pages : HasPagesOf then all.t = λ free.
      ⊎_elim (λ on. (all.stands.is.known free).contents ∙ tells-now then k all.bound_then all.stands.held on.told) (λ stuck. absurd (true≢false (sym stuck.kept ∙ free))) all.stands.so in
      let (after, end, is) = ends then k all.bound_then last all.t left all.stands ending leaves in
      let (shows, rise) = run-shows after k all.bound_then left openings is run in (
        (opens, all.outs, all.t, all.steps, has-pages, after, end, shows),
        λ keeps. subst (λ b. RiseFrom b (ids_in calls ++ ids_of openings)) (same keeps.0) (all.rise (ids_of openings) (rise keeps.1)),
      )

  pub every-shows : (l : L) (openings : List (Opening L)) → IsEmpty g l → IsRun g l openings → Shows (history_from []) 0 0 openings
  every-shows l openings empty =
      run-shows (history_from []) 0 0 l openings
      (record { held = stable_contents []; logged = rw empty (empty-logged true); told = tells-nothing [] 0 0 (λ interval wide. omega arith) })
