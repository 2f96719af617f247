-- Marks in the log: flushing, and batches.
use Rattle.std.proofs.Common.{◌≡◌, ◌⊎◌, ◌∙◌, inl, inr, ℕ, true, false, List, [], ◌∷◌, Result, Ok, Err, refl, sym, ap, subst}
use Rattle.std.proofs.lemmas.Bool.{false≢true}
use Rattle.std.specs.Prelude.{IsErr, ⊤}
use Rattle.sled_base.specs.declared.types.Error.{Error}
use Rattle.sled_log.specs.Contents.{Update, contents_from}
use Rattle.sled_log.specs.Events.{Event, Pin, Seal, Cancel}
use Rattle.sled_log.specs.declared.log.Log.{Ghosts}
use Rattle.sled_pagecache.specs.Batches.{OpensBatch, SealsBatch, CancelsBatch}
use Rattle.sled_pagecache.specs.Cache.{Cache, chain_length}
use Rattle.sled_pagecache.specs.Calls.{HasNoRoom, StepOver}
use Rattle.sled_pagecache.specs.Inside.MadeLaws.{pin-made, seal-made, cancel-made}
use Rattle.sled_pagecache.specs.Rows.{IsMade}
use Rattle.sled_pagecache.specs.State.{State, contents_of}
use Rattle.sled_pagecache.specs.Step.{Closes, Does, Outcome, Pins, no_change, with_batch_closed}
use Rattle.sled_pagecache.specs.declared.pagecache.handles.call.Answer.{Answer}
use Rattle.sled_pagecache.specs.declared.pagecache.handles.call.Answer.TheVariants.{Cancelled, Flushed, Pinned, Sealed}
use Rattle.sled_pagecache.specs.declared.pagecache.handles.call.Call.{Call}
use Rattle.sled_pagecache.specs.declared.pagecache.handles.call.Call.TheVariants as call
use Rattle.sled_pagecache.specs.declared.pagecache.handles.call.Call.TheVariants.{Flush}
use Rattle.sled_tree.specs.Changed.{LeaveSame, LeavesPages}
use Rattle.sled_tree.specs.Maps.{FlushesMaps, KeepsMaps}
use Rattle.sled_tree.specs.Performs.{Performs}
use Rattle.sled_tree.proofs.Events.{leaves-follow, leaves-stay}
use Rattle.sled_tree.proofs.Idle.{quiet-flushes}
use Rattle.sled_tree.proofs.Keeping.{Any, quiet-keeps}
use Rattle.sled_tree.proofs.Lists.{split}
use Rattle.sled_tree.proofs.Outcomes.{fails}
use Rattle.sled_tree.proofs.Performing.{Answers, Deed, Quiet, Stuck, nothing, on-any, one, weaker}

-- ---- the machine

module _ (s : State) (out : Outcome) where
  unchanged : out ≡ no_change s → LeavesPages s out.changes out.state
  unchanged h = record {
    same = ap (λ (o : Outcome). contents_of o.state) h;
    leave = subst (λ (o : Outcome). LeaveSame (contents_of s) o.changes) (sym h) tt;
    stuck = λ kept. (ap (λ (o : Outcome). o.changes) h, ap (λ (o : Outcome). o.state.fault) h ∙ kept);
  }

  -- a mark that was written
  module _ (mark : Event Update) (none : contents_from (contents_of s) mark ≡ contents_of s) (clear : s.fault ≡ false) where
    marked : contents_of out.state ≡ contents_of s → out.changes ≡ mark ∷ [] → LeavesPages s out.changes out.state
    marked same changes = record {
      same = same;
      leave = subst (LeaveSame (contents_of s)) (sym changes) (none, tt);
      stuck = λ kept. absurd (false≢true (sym clear ∙ kept));
    }

    unmarked : (contents_of out.state ≡ contents_of s) × ((out.changes ≡ []) ⊎ ((out.changes ≡ mark ∷ []) × (out.state.fault ≡ true))) → LeavesPages s out.changes out.state
    unmarked (same, inl no_change_at_all) = record {
      same = same;
      leave = subst (LeaveSame (contents_of s)) (sym no_change_at_all) tt;
      stuck = λ kept. absurd (false≢true (sym clear ∙ kept));
    }
    unmarked (same, inr wrote) = marked same wrote.0

  pins : (messages : ℕ → ℕ) (no_room : Event Update → Type 0) (answer : Result (Unit {0}) Error) → Pins messages no_room s answer out → LeavesPages s out.changes out.state
  pins messages no_room answer step = split s.fault step (λ _ h. unchanged h.1) (λ clear h. split s.batch h (λ _ h. unchanged h.1) (λ _ h. by clear answer h))
    where
      by : s.fault ≡ false → (answer : Result (Unit {0}) Error) → Does messages no_room s Pin answer out (λ done t. t ≡ record s { batch = true }) → LeavesPages s out.changes out.state
      by clear (Ok done) h = marked Pin refl clear (ap contents_of h.1) h.0
      by clear (Err e) h = unmarked Pin refl clear (fails s out messages no_room Pin e h)

  pin-stuck : (messages : ℕ → ℕ) (no_room : Event Update → Type 0) (answer : Result (Unit {0}) Error) → Pins messages no_room s answer out → Stuck s out.changes out.state
  pin-stuck messages no_room answer step kept =
      let same : out ≡ no_change s = split s.fault step (λ _ h. h.1) (λ clear h. absurd (false≢true (sym clear ∙ kept))) in
      (ap (λ (o : Outcome). o.changes) same, ap (λ (o : Outcome). o.state) same)

  closed-stuck : out ≡ no_change (with_batch_closed s) → LeavesPages s out.changes out.state
  closed-stuck h = record {
    same = ap (λ (o : Outcome). contents_of o.state) h;
    leave = subst (λ (o : Outcome). LeaveSame (contents_of s) o.changes) (sym h) tt;
    stuck = λ kept. (ap (λ (o : Outcome). o.changes) h, ap (λ (o : Outcome). o.state.fault) h ∙ kept);
  }

  closes : (mark : Event Update) → contents_from (contents_of s) mark ≡ contents_of s → (answer : Result (Unit {0}) Error) → Closes mark s answer out → LeavesPages s out.changes out.state
  closes mark none (Ok done) (in_batch, step) =
      split s.fault step (λ kept h. closed-stuck h.1) (λ clear h. marked mark none clear (ap (λ (o : Outcome). contents_of o.state) h) (ap (λ (o : Outcome). o.changes) h))
  closes mark none (Err e) (in_batch, step) =
      split s.fault step (λ kept h. closed-stuck h.1) (λ clear h. marked mark none clear (ap (λ (o : Outcome). contents_of o.state) h.1) (ap (λ (o : Outcome). o.changes) h.1))

-- ---- the calls

quiet-leaves : (s t : State) (events : List (Event Update)) → Quiet s events t → LeavesPages s events t
quiet-leaves s t events h = record { same = h.1; leave = subst (LeaveSame (contents_of s)) (sym h.0) tt; stuck = λ kept. (h.0, ap (λ (u : State). u.fault) (h.2 kept) ∙ kept) }

module _ {L : Type 0} (g : Ghosts L) where
  of-outcome : (D : Deed) (asked : Call) (answer : Answer) (old new : Cache L) → IsMade g old asked answer new
      → ((cache : Cache L) (s : State) (out : Outcome) → StepOver g cache s asked answer out → D s out.changes out.state) → Performs g D old new
  of-outcome D asked answer old new made into = weaker g (Answers g asked answer) D old new by (one g old new asked answer made)
    where
      by : (s t : State) (events : List (Event Update)) → Answers g asked answer s events t → D s events t
      by s t events (cache, out, step, is, then_is) = subst (λ (es : List (Event Update)). D s es t) (sym is) (subst (λ (u : State). D s out.changes u) (sym then_is) (into cache s out step))

  -- nothing is done
  pub leaves-none : (c : Cache L) → Performs g LeavesPages c c
  leaves-none c = weaker g Quiet LeavesPages c c (λ s t events is. quiet-leaves s t events is) (on-any g (λ _. ⊤) c c (nothing g c))

  pub flush-keeps : (answer : Result ℕ Error) (old new : Cache L) → IsMade g old Flush (Flushed answer) new → Performs g KeepsMaps old new
  flush-keeps answer old new made = of-outcome KeepsMaps Flush (Flushed answer) old new made
      (λ cache s out step. let quiet = quiet-flushes s out answer step in quiet-keeps Any s out.state out.changes (quiet.none, quiet.same, quiet.stuck))

  -- one that was done is the one call
  pub flush-done : (E : Type 0) (n : ℕ) (old new : Cache L) → IsMade g old Flush (Flushed (Ok n)) new → FlushesMaps {T = ℕ} {E = E} g (Ok n) old new
  unfolding flush-keeps of-outcome weaker one
  flush-done E n old new made = (flush-keeps (Ok n) old new made, refl)

  pub flush-refused : {T E : Type 0} (answer : Result ℕ Error) (result : Result T E) → IsErr result → (old new : Cache L) → IsMade g old Flush (Flushed answer) new → FlushesMaps g result old new
  flush-refused answer (Ok done) failed old new made = absurd (false≢true failed)
  flush-refused answer (Err e) failed old new made = (flush-keeps answer old new made, tt)

  pub pin-keeps : {answer : Result (Unit {0}) Error} {old new : Cache L} → OpensBatch g old answer new → Performs g KeepsMaps old new
  pin-keeps {answer} {old} {new} opens = of-outcome KeepsMaps call.Pin (Pinned answer) old new (pin-made g old new answer opens)
      (λ cache s out step.
      let leaves = pins s out (chain_length g.state cache) (HasNoRoom g cache.log) answer step in
      record { follows = leaves-follow s out.state out.changes (pin-stuck s out (chain_length g.state cache) (HasNoRoom g cache.log) answer step) leaves; stays = λ w are any. leaves-stay w s out.state out.changes leaves are })

  pub seal-leaves : {answer : Result (Unit {0}) Error} {old new : Cache L} → SealsBatch g old answer new → Performs g LeavesPages old new
  seal-leaves {answer} {old} {new} seals = of-outcome LeavesPages call.Seal (Sealed answer) old new (seal-made g old new answer seals) (λ cache s out step. closes s out Seal refl answer step)

  pub cancel-leaves : {answer : Result (Unit {0}) Error} {old new : Cache L} → CancelsBatch g old answer new → Performs g LeavesPages old new
  cancel-leaves {answer} {old} {new} cancels = of-outcome LeavesPages call.Cancel (Cancelled answer) old new (cancel-made g old new answer cancels) (λ cache s out step. closes s out Cancel refl answer step)
