-- A batch stands whole after a crash, or none of it does.
use Rattle.sled_pagecache.proofs.Names.{AreAfterPrefix, ◌≡◌, ◌⊎◌, inl, inr, ◌≤◌, ℕ, true, false, List, [], ◌∷◌, ◌++◌, take, drop, Result, Ok, refl, sym, ◌∙◌, ap, subst, true≢false, append-nil, take-nil, AllByRecursion, Error, Event, Pin, Seal, Update, contents_after, is_open, Messages, unplaced_state, Ghosts, Cache, Represents, IsStep, Steps, Logged, State, contents_of, Outcome, no_change, Answer, Call, Flush, Flushed, row-one, row-then, contents_after-append, AreThoseOf, AreWithout, ClosesNone, RunsBatch, StandsInPart, StandsWhole, with_pin, CrashReopens, OnlyNow, IsLonger, left-now, one-longer, step-stuck, AreSteps, IsMade, IsRow, changes_of, Pinned, Sealed, Cancelled, IsPrefix, zero, suc, length, arith, false≢true, Change, Cancel, open_after, IsFair, is_cancelled, ⊎_elim, cases_lt, cases_Bool, Content, length-append, append_assoc, take-append-drop, open_after-append, ◌-◌, ◌+◌}
use Rattle.std.proofs.Math.Seq.{drop-append-add, take-append-add}
use Rattle.std.proofs.lemmas.List.{drop-append-le, take-append-le}
use Rattle.sled_pagecache.proofs.Ids.RisingCounter.{now-added}
use Rattle.sled_pagecache.proofs.CacheLog.ProperMessages.{no-changes}
use Rattle.sled_pagecache.proofs.CacheLog.ProperPages.{all-append}
use Rattle.sled_pagecache.proofs.Crash.ReopenedCaches.{after-none, IsKeptAs, crash-reopens, crash-reopens-to, kept-prefix}
use Rattle.sled_pagecache.proofs.Steps.CallForms.{IsChange, call-inside}
use Rattle.sled_pagecache.specs.Logged.{AreKept, IsLeft, now}
use Rattle.sled_pagecache.specs.Batches.{Stand}
use Rattle.sled_pagecache.specs.declared.pagecache.handles.call.Call.TheVariants as call

-- ---- cuts that split no batch

module _ {E : Type 0} where
  -- a batch that is closed before more comes is cancelled before it, or not
  closed-before : (xs zs : List (Event E)) → open_after true xs ≡ false → is_cancelled (xs ++ zs) ≡ is_cancelled xs
  closed-before [] zs closed = absurd (true≢false closed)
  closed-before (Change id said ∷ xs) zs closed = closed-before xs zs closed
  closed-before (Pin ∷ xs) zs closed = closed-before xs zs closed
  closed-before (Seal ∷ xs) zs closed = refl
  closed-before (Cancel ∷ xs) zs closed = refl

  -- a cut of events behind others is one of those, or one of these
  cut-behind : (pending came : List (Event E)) (cut : ℕ) → is_open pending ≡ false → IsFair (pending ++ came) cut
      → (IsFair pending cut × (take cut (pending ++ came) ≡ take cut pending)) ⊎ ((n : ℕ) × IsFair came (suc n) × (take cut (pending ++ came) ≡ pending ++ take (suc n) came))
  cut-behind pending came cut closed fair = ⊎_elim (λ past. inr (behind (cut - length pending - 1) (omega arith))) (λ within. inl (before within)) (cases_lt (length pending) cut)
    where
      before : cut ≤ length pending → IsFair pending cut × (take cut (pending ++ came) ≡ take cut pending)
      before within =
          let same = take-append-le cut pending came within in
          let ends = open_after-append false (take cut pending) (drop cut pending) in
          let closes : is_open (take cut pending) ≡ true → open_after true (drop cut pending) ≡ false = λ opened. ap (λ b. open_after b (drop cut pending)) (sym opened) ∙ sym ends ∙ ap is_open (take-append-drop cut pending) ∙ closed in (
            record {
              within = within;
              no_part = λ opened. sym (closed-before (drop cut pending) came (closes opened)) ∙ ap is_cancelled (sym (drop-append-le cut pending came within)) ∙ fair.no_part (ap is_open same ∙ opened);
            },
            same,
          )

      behind : (n : ℕ) → cut ≡ length pending + suc n → (n : ℕ) × IsFair came (suc n) × (take cut (pending ++ came) ≡ pending ++ take (suc n) came)
      behind n is =
          let same : take cut (pending ++ came) ≡ pending ++ take (suc n) came = rw is (take-append-add pending came (suc n)) in
          let rest : drop cut (pending ++ came) ≡ drop (suc n) came = rw is (drop-append-add pending came (suc n)) in
          let opens = open_after-append false pending (take (suc n) came) in (
            n,
            record {
              within = let within = fair.within in omega (arith, is, length-append pending came);
              no_part = λ opened. ap is_cancelled (sym rest) ∙ fair.no_part (ap is_open same ∙ opens ∙ ap (λ b. open_after b (take (suc n) came)) closed ∙ opened);
            },
            same,
          )

  -- what has come of a batch that is sealed isn't cancelled
  none-cancelled : (cs came rest : List (Event E)) → AllByRecursion IsChange cs → came ++ rest ≡ cs ++ Seal ∷ [] → is_cancelled came ≡ false
  none-cancelled cs [] rest all is = refl
  none-cancelled [] (event ∷ came) rest all is = let first : event ≡ Seal = cc in rw first refl
  none-cancelled (Change id said ∷ cs) (event ∷ came) rest all is = let first : event ≡ Change id said = cc in rw first (none-cancelled cs came rest all.1 cc)
  none-cancelled (mark ∷ cs) (event ∷ came) rest all is = absurd all.0

  -- a cut inside it is behind all of it
  inside-sealed : (cs came rest : List (Event E)) (n : ℕ) → AllByRecursion IsChange cs → came ++ rest ≡ cs ++ Seal ∷ [] → n ≤ length came → (open_after true (take n came) ≡ true → is_cancelled (drop n came) ≡ true) → take n came ≡ cs ++ Seal ∷ []
  inside-sealed cs came rest zero all is within none = absurd (false≢true (sym (none-cancelled cs came rest all is) ∙ none refl))
  inside-sealed cs [] rest (suc n) all is within none = absurd (omega (arith, within))
  inside-sealed [] (event ∷ []) rest (suc n) all is within none = let first : event ≡ Seal = cc in rw (first, take-nil n) refl
  inside-sealed [] (event ∷ other ∷ came) rest (suc n) all is within none = absurd cc
  inside-sealed (Change id said ∷ cs) (event ∷ came) rest (suc n) all is within none =
      let first : event ≡ Change id said = cc in
      rw first (ap (λ l. Change id said ∷ l) (inside-sealed cs came rest n all.1 (cc) (omega (arith, within)) (rw first at none)))
  inside-sealed (mark ∷ cs) (event ∷ came) rest (suc n) all is within none = absurd all.0

  all-came : (cs came : List (Event E)) (n : ℕ) → AllByRecursion IsChange cs → IsPrefix came (Pin ∷ cs ++ Seal ∷ []) → IsFair came (suc n) → take (suc n) came ≡ Pin ∷ cs ++ Seal ∷ []
  all-came cs [] n all prefix fair = absurd (let within = fair.within in omega arith)
  all-came cs (event ∷ came) n all (rest, is) fair =
      let first : event ≡ Pin = cc in
      let within = fair.within in
      rw first (ap (λ l. Pin ∷ l) (inside-sealed cs came rest n all (cc) (omega arith) (rw first at fair.no_part)))

-- ---- what a crash leaves of a batch

module _ (held : Logged) (closed : is_open held.pending ≡ false) (pages : List Messages) where
  -- none of it, or all
  left-sealed : (cs : List (Event Update)) → AllByRecursion IsChange cs → (left : IsLeft held (Pin ∷ cs ++ Seal ∷ []) pages)
      → IsLeft held [] pages ⊎ ((length cs + 2 ≤ length left.came) × AreKept pages (contents_after held.stable (held.pending ++ (Pin ∷ cs ++ Seal ∷ []))))
  left-sealed cs all left =
      ⊎_elim
      (λ before. inl (record {
        came = [];
        beginning = ([], refl);
        cut = left.cut;
        fair = subst (λ (l : List (Event Update)). IsFair l left.cut) (sym (append-nil held.pending)) before.0;
        is = subst (λ (l : List (Event Update)). AreKept pages (contents_after held.stable l)) (before.1 ∙ ap (take left.cut) (sym (append-nil held.pending))) left.is;
      }))
      (λ (n, fair, same).
      let whole = all-came cs left.came n all left.beginning fair in
      let long : length cs + 2 ≤ length left.came = omega (arith, ap length whole, length-append cs (Seal ∷ []), length-append (take (suc n) left.came) (drop (suc n) left.came), ap length (take-append-drop (suc n) left.came)) in
      inr (long, subst (λ (l : List (Event Update)). AreKept pages (contents_after held.stable l)) (same ∙ ap (λ l. held.pending ++ l) whole) left.is))
      (cut-behind held.pending left.came left.cut closed left.fair)

  -- before it is sealed, none
  left-open : (cs : List (Event Update)) → AllByRecursion IsChange cs → IsLeft held (Pin ∷ cs) pages → IsLeft held [] pages
  left-open cs all left =
      let (rest, is) = left.beginning in
      ⊎_elim (λ none. none) (λ whole. absurd (omega (arith, whole.0, ap length is, length-append left.came rest)))
      (left-sealed cs all (record { came = left.came; beginning = (rest ++ Seal ∷ [], sym (append_assoc left.came rest (Seal ∷ [])) ∙ ap (λ l. l ++ Seal ∷ []) is); cut = left.cut; fair = left.fair; is = left.is }))

module _ {L : Type 0} (g : Ghosts L) where
  -- ---- the steps

  steps-inside : (old new : Cache L) (s t : State) (calls : List (Call × Answer)) (outs : List Outcome) → s.batch ≡ true → AllByRecursion (λ made. ClosesNone made.0) calls → AreSteps g (Steps g) old s calls outs new t → AllByRecursion IsChange (changes_of outs)
  steps-inside old new s t [] [] opened none steps = tt
  steps-inside old new s t (made ∷ calls) (out ∷ outs) opened none (mid, called, step, is, steps) =
      let one = call-inside g old s opened made.0 made.1 out none.0 step in
      all-append IsChange out.changes (changes_of outs) one.changes (steps-inside mid new out.state t calls outs (one.batch ∙ opened) none.1 steps)
  steps-inside old new s t calls outs opened none steps = absurd steps

  -- ---- a batch that was opened

  record IsRun (old : Cache L) (calls : List (Call × Answer)) (new : Cache L) (held : Logged) (s : State) : Type 0 where
    pub row : IsRow g old (with_pin calls) new held s
    pub closed : is_open held.pending ≡ false
    pub inner : List (Event Update)
    pub changes : changes_of row.outs ≡ Pin ∷ inner
    pub all : AllByRecursion IsChange inner

  runs : (old new : Cache L) (calls : List (Call × Answer)) → RunsBatch g old calls new → (held : Logged) (s : State) → Represents g old held s → s.fault ≡ false → IsRun old calls new held s
  runs old new calls batch held s is clear =
      let row = (row-then g old batch.pinned new ((call.Pin, Pinned (Ok tt)) ∷ []) calls (row-one g old batch.pinned call.Pin (Pinned (Ok tt)) batch.pin) batch.row).from_each held s is in
      of row row.outs refl row.steps
    where
      of : (row : IsRow g old (with_pin calls) new held s) (outs : List Outcome) → row.outs ≡ outs → AreSteps g (Steps g) old s (with_pin calls) outs new row.t → IsRun old calls new held s
      of row [] are steps = absurd steps
      of row (out ∷ outs) are (mid, called, step, in_state, steps) =
          let pinned : (s.batch ≡ false) × (out.changes ≡ Pin ∷ []) × (out.state.batch ≡ true) = grind (arith, step) in
          record {
            row = row;
            closed = sym (is.known clear).opened ∙ pinned.0;
            inner = changes_of outs;
            changes = ap changes_of are ∙ ap (λ (l : List (Event Update)). l ++ changes_of outs) pinned.1;
            all = steps-inside mid new out.state row.t calls outs pinned.2 batch.inside steps;
          }

  stands : {old new : Cache L} {calls : List (Call × Answer)} {held : Logged} {s : State} (Are : List (Event Update) → State → List Content → Type 0)
      → (row : IsRow g old calls new held s) → CrashReopens g new.log (g.moment old.log) (Are (changes_of row.outs) row.t) → Stand g old calls new held s Are
  stands Are row crash = record { held_then = row.held_then; t = row.t; is = row.is; outs = row.outs; steps = row.steps; crash = crash }

  module _ (since_earlier : (log : L) (t u : ℕ) (pages : List Messages) → g.tells → t ≤ u → g.left_since log u pages → g.left_since log t pages) where
    pub unsealed : (old new : Cache L) (calls : List (Call × Answer)) → RunsBatch g old calls new → (held : Logged) (s : State) → Represents g old held s → s.fault ≡ false → CrashReopens g new.log (g.moment old.log) (AreWithout held)
    unsealed old new calls batch held s is clear =
        let run = runs old new calls batch held s is clear in
        crash-reopens-to g (λ l t u pages. since_earlier l t u pages is.tells) new.log (g.moment old.log) (AreWithout held)
        (λ pages left. kept-prefix held [] pages (left-open held run.closed pages run.inner run.all (subst (λ l. IsLeft held l pages) run.changes ((run.row.crash clear).each pages left))))

    module _ (old mid new : Cache L) (calls : List (Call × Answer)) (batch : RunsBatch g old calls mid) (held : Logged) (s : State) (is : Represents g old held s) (clear : s.fault ≡ false) where
      abbrev run : IsRun old calls mid held s
      run = runs old mid calls batch held s is clear

      module _ (result : Result (Unit {0}) Error) (seal : Steps g mid call.Seal (Sealed result) new) where
        abbrev one : IsStep g mid call.Seal (Sealed result) new run.row.held_then run.row.t
        one = seal.from_each run.row.held_then run.row.t run.row.is

        whole : IsLonger g old new (with_pin calls ++ (call.Seal, Sealed result) ∷ []) held s ((changes_of run.row.outs) ++ one.out.changes) one.out.state
        whole = one-longer g old mid new (with_pin calls) call.Seal (Sealed result) held s run.row seal

        -- what a crash leaves of the log
        leaves : (pages : List Messages) → g.left_since new.log (g.moment old.log) pages → IsLeft held ((changes_of run.row.outs) ++ one.out.changes) pages
        leaves pages left = subst (λ l. IsLeft held l pages) whole.writes ((whole.row.crash clear).each pages left)

        -- the pages, where a crash leaves all
        all-of-it : run.row.t.fault ≡ false → contents_of one.out.state ≡ contents_of run.row.t → contents_after held.stable (held.pending ++ (Pin ∷ run.inner ++ Seal ∷ [])) ≡ contents_of one.out.state
        all-of-it free same =
            rw (contents_after-append held.stable held.pending, contents_after-append (now held) (Pin ∷ run.inner) (Seal ∷ []), ← run.changes)
            (sym (same ∙ (run.row.is.known free).contents ∙ now-added held run.row.held_then (changes_of run.row.outs) (run.row.added free)))

        abbrev Stays : List Content → Type 0
        Stays contents = AreWithout held contents ⊎ AreThoseOf one.out.state contents

        crash : (pages : List Messages) → g.left_since new.log (g.moment old.log) pages → IsKeptAs pages Stays
        crash pages left = ⊎_elim stuck goes-on (cases_Bool run.row.t.fault)
          where
            none : IsLeft held [] pages → IsKeptAs pages Stays
            none left = let kept = kept-prefix held [] pages left in (kept.0, kept.1, inl kept.2)

            stuck : run.row.t.fault ≡ true → IsKeptAs pages Stays
            stuck kept =
                let nothing : one.out.changes ≡ [] = ap (λ (o : Outcome). o.changes) (step-stuck g mid run.row.t call.Seal (Sealed result) one.out one.step kept) in
                none (left-open held run.closed pages run.inner run.all (subst (λ l. IsLeft held l pages) (ap (λ l. (changes_of run.row.outs) ++ l) nothing ∙ append-nil (changes_of run.row.outs) ∙ run.changes) (leaves pages left)))

            goes-on : run.row.t.fault ≡ false → IsKeptAs pages Stays
            goes-on free =
                let sealed : (one.out.changes ≡ Seal ∷ []) × (contents_of one.out.state ≡ contents_of run.row.t) = grind (arith, one.step) in
                ⊎_elim none (λ whole. (contents_after held.stable (held.pending ++ (Pin ∷ run.inner ++ Seal ∷ [])), whole.1, inr (all-of-it free sealed.1)))
                (left-sealed held run.closed pages run.inner run.all (subst (λ l. IsLeft held l pages) (ap (λ l. (changes_of run.row.outs) ++ l) sealed.0 ∙ ap (λ l. l ++ Seal ∷ []) run.changes) (leaves pages left)))

        pub sealed : StandsWhole g old (with_pin calls ++ (call.Seal, Sealed result) ∷ []) new held s
        sealed =
            stands (λ changes t contents. AreWithout held contents ⊎ AreThoseOf t contents) whole.row
            (subst (λ t. CrashReopens g new.log (g.moment old.log) (λ contents. AreWithout held contents ⊎ AreThoseOf t contents)) (sym whole.leaves)
            (crash-reopens-to g (λ l t u pages. since_earlier l t u pages is.tells) new.log (g.moment old.log) Stays crash))

      pub cancelled : (result : Result (Unit {0}) Error) → Steps g mid call.Cancel (Cancelled result) new → StandsInPart g old (with_pin calls ++ (call.Cancel, Cancelled result) ∷ []) new held s
      cancelled result cancel =
          let row = (one-longer g old mid new (with_pin calls) call.Cancel (Cancelled result) held s run.row cancel).row in
          stands (λ changes t. AreAfterPrefix held changes) row (crash-reopens g (λ l t u pages. since_earlier l t u pages is.tells) new.log (g.moment old.log) held (changes_of row.outs) (row.crash clear).each)

    -- ---- a flush

    pub flushed : OnlyNow g
        → (old new : Cache L) (n : ℕ) → IsMade g old Flush (Flushed (Ok n)) new → (held : Logged) (s : State) → Represents g old held s → CrashReopens g new.log (g.moment new.log) (AreThoseOf s)
    flushed only_now old new n made held s is =
        let one = made.step.from_each held s is in
        let same : (s.fault ≡ false) × (one.out ≡ no_change s) = grind (arith, one.step) in
        let known = one.is.known (ap (λ (o : Outcome). o.state.fault) same.1 ∙ same.0) in
        let none : one.held_then.pending ≡ [] = no-changes one.held_then.stable (unplaced_state (g.state new.log)).pending one.held_then.pending (ap (λ l. (unplaced_state (record (g.state new.log) { pending = l })).pending) made.bytes.1) known.logged.pending in
        crash-reopens-to g (λ l t u pages. since_earlier l t u pages is.tells) new.log (g.moment new.log) (AreThoseOf s)
        (λ pages left.
        let (contents, kept, after) = kept-prefix one.held_then [] pages (left-now (unplaced_state (g.state new.log)) one.held_then pages known.logged (only_now new.log pages is.tells known.usable left)) in
        (contents, kept, after-none one.held_then contents none after ∙ sym known.contents ∙ ap (λ (o : Outcome). contents_of o.state) same.1))
