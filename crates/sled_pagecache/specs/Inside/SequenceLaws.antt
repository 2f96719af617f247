-- What follows for calls of the page cache in a row: no call and one call are rows, and a row after another makes a longer one.
use Rattle.std.proofs.Common.{◌≡◌, inl, inr, ⊎_elim, ℕ, Bool, true, false, List, [], ◌∷◌, ◌++◌, take, refl, sym, ◌∙◌, ap, subst, arith}
use Rattle.std.specs.Prelude.{MatchBool, nat_lt, Ok, Err, Result}
use Rattle.std.proofs.lemmas.Bool.{false≢true}
use Rattle.std.proofs.lemmas.List.{append-nil}
use Rattle.std.proofs.lemmas.List.Concat.{flat_map-append}
use Rattle.sled_log.specs.Events.{IsFair, Event, Seal, Cancel}
use Rattle.sled_log.specs.Chains.{chains_after}
use Rattle.sled_log.specs.Contents.{Update, contents_after}
use Rattle.sled_log.specs.Inside.HoldingLaws.{holds-after}
use Rattle.sled_log.specs.Inside.Laws.{AddsEvents-none, AddsEvents-then, CrashKeeps-behind, CrashKeeps-more, CrashesSinceLeave-none}
use Rattle.sled_log.specs.Messages.{Message, Messages, effect_of}
use Rattle.sled_log.specs.Inside.ReadingLaws.{contents_after-append, events-take, reads-fair}
use Rattle.sled_log.specs.Inside.RunLaws.{CrashesSinceLeave-weaker}
use Rattle.sled_log.specs.LogState as log
use Rattle.sled_log.specs.LogState.{IsPrefix, CrashesSinceLeave}
use Rattle.sled_log.specs.declared.log.Log.{Ghosts}
use Rattle.sled_base.specs.declared.types.Error.{Error}
use Rattle.sled_base.specs.declared.types.Device.TheVariants.{Write}
use Rattle.sled_base.specs.declared.types.Error.TheVariants.{Io}
use Rattle.sled_pagecache.specs.Cache.{Cache, chain_length}
use Rattle.sled_pagecache.specs.Calls.{HasNoRoomAgain, IsBehind, IsDone, StepOver, Steps}
use Rattle.sled_pagecache.specs.Due.{due_in}
use Rattle.sled_pagecache.specs.Limits.{most_messages}
use Rattle.sled_pagecache.specs.Logged.{Logged, IsLogged, AreKept, Adds, IsLeft}
use Rattle.sled_pagecache.specs.Rows.{changes_of, AreSteps, IsRow, StepInRow, IsMade, AreMade}
use Rattle.sled_pagecache.specs.State.{State}
use Rattle.sled_pagecache.specs.Step.{Outcome, Closes, IsRefused, Swapped, TidiesIfSwapped, no_change, outcome}
use Rattle.sled_pagecache.specs.declared.pagecache.handles.call.Answer.{Answer}
use Rattle.sled_pagecache.specs.declared.pagecache.handles.call.Answer.TheVariants.{Allocated, Got, Linked, Replaced, Freed, GotMeta, GotIdgen, Generated, Flushed, Sized, Amplified, TookSnapshot, FoundRoot, RootSwapped, Pinned, Sealed, Cancelled, AttemptedGc}
use Rattle.sled_pagecache.specs.declared.pagecache.handles.call.Call.{Call}
use Rattle.sled_pagecache.specs.declared.pagecache.handles.call.Call.TheVariants as call
use Rattle.sled_pagecache.specs.declared.pagecache.handles.call.Call.TheVariants.{Allocate, Get, Link, Replace, GetMeta, GetIdgen, GenerateId, Flush, SizeOnDisk, SpaceAmplification, TakeFuzzySnapshot, MetaPidForName, CasRoot, AttemptGc}

-- ---- changes that are added after others

-- nothing was added, and nothing moved
pub adds-none : (held : Logged) → Adds held [] held
adds-none held = AddsEvents-none contents_after contents_after-append held.stable held.pending refl

adds-then : (held mid new : Logged) (first second : List (Event Update)) → Adds held first mid → Adds mid second new → Adds held (first ++ second) new
adds-then held mid new first second a b = (AddsEvents-then contents_after contents_after-append held.stable mid.stable new.stable held.pending mid.pending new.pending first second a b).0

-- what a crash leaves in the second
left-behind : (held mid : Logged) (first second : List (Event Update)) (pages : List Messages) → Adds held first mid → IsLeft mid second pages → IsLeft held (first ++ second) pages
left-behind held mid first second pages = CrashKeeps-behind contents_after contents_after-append held.stable mid.stable held.pending mid.pending first second (AreKept pages)

-- what it leaves if more are added
left-more : (held : Logged) (first all : List (Event Update)) (pages : List Messages) → IsPrefix first all → IsLeft held first pages → IsLeft held all pages
left-more held first all pages = CrashKeeps-more contents_after contents_after-append held.stable held.pending first all (AreKept pages)

-- ---- crashes

-- what was added of nothing
pub none-came : {E : Type 0} (came : List (Event E)) → IsPrefix came [] → came ≡ []
none-came [] b = refl
none-came (event ∷ came) b = let e = b.1 in absurd cc

-- what a crash leaves of a log between two calls
pub left-now : (state : log.LogState Message) (held : Logged) (pages : List Messages) → IsLogged state held → log.IsLeft effect_of state [] pages → IsLeft held [] pages
left-now state held pages logged left =
    let all : state.pending ++ left.came ≡ state.pending = ap (λ (l : List (Event Message)). state.pending ++ l) (none-came left.came left.beginning) ∙ append-nil state.pending in
    let fair : IsFair state.pending left.cut = subst (λ (l : List (Event Message)). IsFair l left.cut) all left.fair in
    let is : pages ≡ chains_after effect_of state.stable (take left.cut state.pending) = left.is ∙ ap (λ (l : List (Event Message)). chains_after effect_of state.stable (take left.cut l)) all in
    let known : held.pending ≡ held.pending ++ [] = sym (append-nil held.pending) in
    record {
      came = [];
      beginning = ([], refl);
      cut = left.cut;
      fair = subst (λ (l : List (Event Update)). IsFair l left.cut) known (reads-fair held.stable state.pending held.pending left.cut logged.pending fair);
      is =
          subst (λ (l : List (Event Update)). AreKept pages (contents_after held.stable (take left.cut l))) known
          (subst (λ (l : List Messages). AreKept l (contents_after held.stable (take left.cut held.pending))) (sym is)
          (record {
            holds = holds-after state.stable held.stable (take left.cut state.pending) (take left.cut held.pending) logged.stable (events-take held.stable left.cut state.pending held.pending logged.pending);
            proper = logged.proper left.cut;
          }));
    }

module _ {L : Type 0} (moment : L → ℕ) (left_since : L → ℕ → List Messages → Type 0) where
  -- what crashes leave of two calls is what they leave of one of them
  stops-then : (old mid new : L) (P Q R : List Messages → Type 0) → ((pages : List Messages) → P pages → R pages) → ((pages : List Messages) → Q pages → R pages)
      → CrashesSinceLeave moment left_since old mid P → CrashesSinceLeave moment left_since mid new Q → CrashesSinceLeave moment left_since old new R
  stops-then old mid new P Q R of_one of_two one two = record {
    later = omega (arith, one.later, two.later);
    each = λ c left. ⊎_elim (λ l. of_one c (one.each c l)) (of_two c) (two.before (moment old) c one.later left);
    before = λ t c le left. ⊎_elim (λ l. ⊎_elim (λ m. inl m) (λ m. inr (of_one c m)) (one.before t c le l)) (λ l. inr (of_two c l)) (two.before t c (omega (arith, le, one.later)) left);
    kept = λ t c le left. two.kept t c (omega (arith, le, one.later)) (one.kept t c le left);
  }

-- ---- steps in a row

taken : (A B : Type 0) (test : Bool) → test ≡ true → MatchBool test A B → A
taken A B true is h = h
taken A B false is h = absurd (false≢true is)

-- after a write error nothing changes, except that a batch may be closed
abbrev pub IsStuck : State → Outcome → Type 0
IsStuck s out = out ≡ no_change (record s { batch = out.state.batch })

same-stuck : (s : State) (out : Outcome) → out ≡ no_change s → IsStuck s out
same-stuck s out is = subst (IsStuck s) (sym is) refl

closes-stuck : (mark : Event Update) (s : State) (answer : Result (Unit {0}) Error) (out : Outcome) → Closes mark s answer out → s.fault ≡ true → IsStuck s out
closes-stuck mark s answer out step kept = subst (IsStuck s) (sym (taken _ _ s.fault kept step.1).1) refl

module _ {L : Type 0} (g : Ghosts L) where
  -- a swap that failed is followed by no move
  abbrev Behind : {R : Type 0} → Cache L → Swapped R → Outcome → Outcome → Type 0
  Behind cache answer swap out = TidiesIfSwapped (due_in g cache.config) (HasNoRoomAgain g) (IsBehind g cache.log) answer swap out

  none-behind : {R : Type 0} (cache : Cache L) (s : State) (swap out : Outcome) (answer : Swapped R) → IsRefused s answer swap (Io Write) → Behind cache answer swap out → IsStuck s out
  none-behind cache s swap out (Ok (Ok made)) stuck behind = let e = stuck.0 in absurd cc
  none-behind cache s swap out (Ok (Err back)) stuck behind = same-stuck s out (behind ∙ stuck.1)
  none-behind cache s swap out (Err e) stuck behind = same-stuck s out (behind ∙ stuck.1)

  none-joined : {R : Type 0} (cache : Cache L) (s : State) (swap out : Outcome) (answer : Swapped R) (joins : Bool) → IsRefused s answer swap (Io Write) → MatchBool joins (out ≡ swap) (Behind cache answer swap out) → IsStuck s out
  none-joined cache s swap out answer true stuck is = same-stuck s out (is ∙ stuck.1)
  none-joined cache s swap out answer false stuck behind = none-behind cache s swap out answer stuck behind

  -- after a write error a call changes nothing, except that it may close the batch
  pub step-stuck : (cache : Cache L) (s : State) (call : Call) (answer : Answer) (out : Outcome) → StepOver g cache s call answer out → s.fault ≡ true → IsStuck s out
  step-stuck cache s (Allocate node) (Allocated answer) out step kept = same-stuck s out (taken _ _ s.fault kept step).1
  step-stuck cache s (Get pid) (Got answer) out step kept = same-stuck s out (taken _ _ s.fault kept step).1
  step-stuck cache s (Link old link) (Linked answer) out (swap, act, behind) kept = none-joined cache s swap out answer (nat_lt (chain_length g.state cache old.pid) most_messages) (taken _ _ s.fault kept act) behind
  step-stuck cache s (Replace old node) (Replaced answer) out (swap, act, behind) kept = none-behind cache s swap out answer (taken _ _ s.fault kept act) behind
  step-stuck cache s (call.Free old) (Freed answer) out step kept = same-stuck s out (taken _ _ s.fault kept step).1
  step-stuck cache s GetMeta (GotMeta answer) out step kept = same-stuck s out (taken _ _ s.fault kept step).1
  step-stuck cache s (MetaPidForName name) (FoundRoot answer) out step kept = same-stuck s out (taken _ _ s.fault kept step).1
  step-stuck cache s (CasRoot name old new) (RootSwapped answer) out step kept = same-stuck s out (taken _ _ s.fault kept step).1
  step-stuck cache s GetIdgen (GotIdgen answer) out step kept = same-stuck s out (taken _ _ s.fault kept step).1
  step-stuck cache s GenerateId (Generated answer) out step kept = same-stuck s out (taken _ _ s.fault kept step).1
  step-stuck cache s Flush (Flushed answer) out step kept = same-stuck s out (taken _ _ s.fault kept step).1
  step-stuck cache s SizeOnDisk (Sized answer) out step kept = same-stuck s out (taken _ _ s.fault kept step).1
  step-stuck cache s SpaceAmplification (Amplified answer) out step kept = same-stuck s out (taken _ _ s.fault kept step).1
  step-stuck cache s TakeFuzzySnapshot (TookSnapshot answer) out step kept = same-stuck s out (taken _ _ s.fault kept step).1
  step-stuck cache s call.Pin (Pinned answer) out step kept = same-stuck s out (taken _ _ s.fault kept step).1
  step-stuck cache s call.Seal (Sealed answer) out step kept = closes-stuck Seal s answer out step kept
  step-stuck cache s call.Cancel (Cancelled answer) out step kept = closes-stuck Cancel s answer out step kept
  step-stuck cache s AttemptGc (AttemptedGc answer) out step kept = same-stuck s out (taken _ _ s.fault kept step).1
  step-stuck cache s asked answer out step kept = absurd step

  module _ (Makes : Cache L → Call → Answer → Cache L → Type 0) where
    steps-stuck : (old new : Cache L) (s t : State) (calls : List (Call × Answer)) (outs : List Outcome) → AreSteps g Makes old s calls outs new t → s.fault ≡ true → t.fault ≡ true
    steps-stuck old new s t [] [] steps kept = ap (λ u. u.fault) steps.1 ∙ kept
    steps-stuck old new s t [] (out ∷ outs) steps kept = absurd steps
    steps-stuck old new s t (made ∷ calls) [] steps kept = absurd steps
    steps-stuck old new s t (made ∷ calls) (out ∷ outs) (mid, called, step, is, steps) kept =
        steps-stuck mid new out.state t calls outs steps (ap (λ (o : Outcome). o.state.fault) (step-stuck old s made.0 made.1 out step kept) ∙ kept)

    -- steps after others
    steps-then : (old mid new : Cache L) (s u t : State) (calls others : List (Call × Answer)) (outs more : List Outcome)
        → AreSteps g Makes old s calls outs mid u → AreSteps g Makes mid u others more new t → AreSteps g Makes old s (calls ++ others) (outs ++ more) new t
    steps-then old mid new s u t [] others [] more none steps = subst (λ cache. AreSteps g Makes cache s others more new t) none.0 (subst (λ from. AreSteps g Makes mid from others more new t) none.1 steps)
    steps-then old mid new s u t [] others (out ∷ outs) more first steps = absurd first
    steps-then old mid new s u t (made ∷ calls) others [] more first steps = absurd first
    steps-then old mid new s u t (made ∷ calls) others (out ∷ outs) more (next, called, step, is, first) steps =
        (next, called, step, is, steps-then next mid new out.state u t calls others outs more first steps)

  -- what they write comes after what the others write
  changes-then : (outs more : List Outcome) → changes_of (outs ++ more) ≡ changes_of outs ++ changes_of more
  changes-then outs more = flat_map-append (λ (out : Outcome). out.changes) outs more

  -- ---- calls in a row

  module _ (old mid new : Cache L) (calls others : List (Call × Answer)) (held : Logged) (s : State) (row : IsRow g old calls mid held s) (next : IsRow g mid others new row.held_then row.t) where
    abbrev all : List (Event Update)
    all = changes_of row.outs ++ changes_of next.outs

    -- there was no write error before calls after which there is none
    clear_before : next.t.fault ≡ false → row.t.fault ≡ false
    clear_before free = by row.t.fault refl
      where
        by : (fault : Bool) → row.t.fault ≡ fault → row.t.fault ≡ false
        by false clear = clear
        by true kept = absurd (false≢true (sym free ∙ steps-stuck (Steps g) mid new row.t next.t others next.outs next.steps kept))

    crash : s.fault ≡ false → CrashesSinceLeave g.moment g.left_since old.log new.log (IsLeft held all)
    crash free = by row.t.fault refl
      where
        of_first : (pages : List Messages) → IsLeft held (changes_of row.outs) pages → IsLeft held all pages
        of_first pages left = left-more held (changes_of row.outs) all pages (changes_of next.outs, refl) left

        by : (fault : Bool) → row.t.fault ≡ fault → CrashesSinceLeave g.moment g.left_since old.log new.log (IsLeft held all)
        by true kept =
            subst (λ l. CrashesSinceLeave g.moment g.left_since old.log l (IsLeft held all)) (sym (next.stuck kept))
            (CrashesSinceLeave-weaker g.state g.moment g.left_since g.counts old.log mid.log (IsLeft held (changes_of row.outs)) (IsLeft held all) of_first (row.crash free))
        by false clear =
            stops-then g.moment g.left_since old.log mid.log new.log (IsLeft held (changes_of row.outs)) (IsLeft row.held_then (changes_of next.outs)) (IsLeft held all) of_first
            (λ pages left. left-behind held row.held_then (changes_of row.outs) (changes_of next.outs) pages (row.added clear) left)
            (row.crash free) (next.crash clear)

    longer : IsRow g old (calls ++ others) new held s
    longer = record {
      held_then = next.held_then;
      t = next.t;
      is = next.is;
      outs = row.outs ++ next.outs;
      steps = steps-then (Steps g) old mid new s row.t next.t calls others row.outs next.outs row.steps next.steps;
      added = λ free. subst (λ (l : List (Event Update)). Adds held l next.held_then) (sym (changes-then row.outs next.outs)) (adds-then held row.held_then next.held_then (changes_of row.outs) (changes_of next.outs) (row.added (clear_before free)) (next.added free));
      crash = λ free. subst (λ (l : List (Event Update)). CrashesSinceLeave g.moment g.left_since old.log new.log (IsLeft held l)) (sym (changes-then row.outs next.outs)) (crash free);
      stuck = λ kept. next.stuck (steps-stuck (Steps g) old mid s row.t calls row.outs row.steps kept) ∙ row.stuck kept;
    }

  -- what is done after what was done before, with no write error between them, as one
  module _ {First Second : State → Outcome → Type 0} (old mid new : Cache L) (held : Logged) (s : State) (first : IsDone g First old mid held s) (second : IsDone g Second mid new first.held_then first.out.state) where
    abbrev pub out_of_both : Outcome
    out_of_both = outcome second.out.state (first.out.changes ++ second.out.changes)

    pub done-then : {Both : State → Outcome → Type 0} → s.fault ≡ false → first.out.state.fault ≡ false → Both s out_of_both → IsDone g Both old new held s
    done-then clear still does = record {
      out = out_of_both;
      step = does;
      held_then = second.held_then;
      is = second.is;
      added = λ free. adds-then held first.held_then second.held_then first.out.changes second.out.changes (first.added still) (second.added free);
      crash = λ _. stops-then g.moment g.left_since old.log mid.log new.log (IsLeft held first.out.changes) (IsLeft first.held_then second.out.changes) (IsLeft held out_of_both.changes)
          (λ pages left. left-more held first.out.changes out_of_both.changes pages (second.out.changes, refl) left)
          (λ pages left. left-behind held first.held_then first.out.changes second.out.changes pages (first.added still) left)
          (first.crash clear) (second.crash still);
      stuck = λ kept. absurd (false≢true (sym clear ∙ kept));
    }

  -- what a crash leaves between two calls, as every log promises
  abbrev pub OnlyNow : Type 0
  OnlyNow = (l : L) (pages : List Messages) → g.tells → (g.state l).usable ≡ true → g.left_since l (g.moment l) pages → log.IsLeft effect_of (log.unplaced_state (g.state l)) [] pages

  -- no call
  pub row-none : (cache : Cache L) → OnlyNow → StepInRow g cache [] cache
  row-none cache only_now = record {
    opening = record { config = refl; recovered = refl };
    from_each = λ held s is. record {
      held_then = held;
      t = s;
      is = is;
      outs = [];
      steps = (refl, refl);
      added = λ _. adds-none held;
      crash = λ free. CrashesSinceLeave-none g.moment g.left_since cache.log (IsLeft held []) (λ pages left. left-now (log.unplaced_state (g.state cache.log)) held pages (is.known free).logged (only_now cache.log pages is.tells (is.known free).usable left));
      stuck = λ _. refl;
    };
  }

  -- one call
  pub row-one : (old new : Cache L) (call : Call) (answer : Answer) → Steps g old call answer new → StepInRow g old ((call, answer) ∷ []) new
  row-one old new call answer steps = record {
    opening = steps.opening;
    from_each = λ held s is.
        let next = steps.from_each held s is in
        let all = sym (append-nil next.out.changes) in
        record {
          held_then = next.held_then;
          t = next.out.state;
          is = next.is;
          outs = next.out ∷ [];
          steps = (new, steps, next.step, (next.held_then, next.is), (refl, refl));
          added = λ free. subst (λ (l : List (Event Update)). Adds held l next.held_then) all (next.added free);
          crash = λ free. subst (λ (l : List (Event Update)). CrashesSinceLeave g.moment g.left_since old.log new.log (IsLeft held l)) all (next.crash free);
          stuck = next.stuck;
        };
  }

  -- a call after others, with the changes and the state that it leaves
  pub record IsLonger (old new : Cache L) (calls : List (Call × Answer)) (held : Logged) (s : State) (changes : List (Event Update)) (t : State) : Type 0 where
    pub row : IsRow g old calls new held s
    pub writes : changes_of row.outs ≡ changes
    pub leaves : row.t ≡ t

  pub one-longer : (old mid new : Cache L) (calls : List (Call × Answer)) (call : Call) (answer : Answer) (held : Logged) (s : State) (row : IsRow g old calls mid held s) (steps : Steps g mid call answer new)
      → (let out = (steps.from_each row.held_then row.t row.is).out in IsLonger old new (calls ++ (call, answer) ∷ []) held s (changes_of row.outs ++ out.changes) out.state)
  unfolding longer row-one
  one-longer old mid new calls call answer held s row steps =
      let out = (steps.from_each row.held_then row.t row.is).out in
      record {
        row = longer old mid new calls ((call, answer) ∷ []) held s row ((row-one mid new call answer steps).from_each row.held_then row.t row.is);
        writes = changes-then row.outs (out ∷ []) ∙ ap (λ (l : List (Event Update)). changes_of row.outs ++ l) (append-nil out.changes);
        leaves = refl;
      }

  -- calls after others
  pub row-then : (old mid new : Cache L) (calls others : List (Call × Answer)) → StepInRow g old calls mid → StepInRow g mid others new → StepInRow g old (calls ++ others) new
  row-then old mid new calls others row next = record {
    opening = record { config = next.opening.config ∙ row.opening.config; recovered = next.opening.recovered ∙ row.opening.recovered };
    from_each = λ held s is.
        let so = row.from_each held s is in
        longer old mid new calls others held s so (next.from_each so.held_then so.t so.is);
  }

  -- calls that were made one after another
  pub made-row : (old new : Cache L) (calls : List (Call × Answer)) → OnlyNow → AreMade g old calls new → StepInRow g old calls new
  made-row old new [] only_now same = subst (StepInRow g old []) (sym same) (row-none old only_now)
  made-row old new (made ∷ calls) only_now (mid, first, others) = row-then old mid new (made ∷ []) calls (row-one old mid made.0 made.1 first.step) (made-row mid new calls only_now others)

  -- calls that were made after others
  pub made-then : (old mid new : Cache L) (calls others : List (Call × Answer)) → AreMade g old calls mid → AreMade g mid others new → AreMade g old (calls ++ others) new
  made-then old mid new [] others same made = subst (λ from. AreMade g from others new) same made
  made-then old mid new (call ∷ calls) others (next, first, rest) made = (next, first, made-then next mid new calls others rest made)

  -- one call more was made
  pub made-more : (old mid new : Cache L) (calls : List (Call × Answer)) (call : Call) (answer : Answer) → AreMade g old calls mid → IsMade g mid call answer new → AreMade g old (calls ++ (call, answer) ∷ []) new
  made-more old mid new calls call answer made last = made-then old mid new calls ((call, answer) ∷ []) made (new, last, refl)

-- what holds of a cache holds of the same one by another name
pub also-of : {L : Type 0} (P : Cache L → Type 0) (one : Cache L) → P one → {other : Cache L} → one ≡ other → P other
also-of P one holds same = subst P same holds
