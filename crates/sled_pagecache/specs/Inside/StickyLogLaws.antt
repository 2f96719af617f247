-- What follows for several calls of a cache, one after another, from what each does to its log.
use Rattle.std.proofs.Common.{◌≡◌, inl, inr, ⊎_elim, ◌<◌, ◌≤◌, ℕ, true, false, List, [], ◌++◌, Result, Ok, Err, refl, sym, ◌∙◌, ap, subst, arith}
use Rattle.std.proofs.lemmas.List.{append-nil}
use Rattle.sled_base.specs.declared.types.Refusal.{Refusal}
use Rattle.sled_log.specs.Events.{is_open, open_after, Event}
use Rattle.sled_log.specs.Calls.{HasGrown}
use Rattle.sled_log.specs.Chains.{chains_after}
use Rattle.sled_log.specs.Inside.Laws.{Adds-none, Adds-then, CrashesSinceLeave-none, CrashesSinceLeave-then, now-Adds, open_after-append}
use Rattle.sled_log.specs.Messages.{Message, Messages, effect_of}
use Rattle.sled_log.specs.LogState.{now, IsLeft, unplaced_state}
use Rattle.sled_log.specs.declared.log.Log.{Ghosts}
use Rattle.sled_pagecache.specs.Inside.StickyLog.{Went, IsCaused}
use Rattle.sled_pagecache.specs.declared.pagecache.write.sticky_log.StickyLog.{StickyLog}

-- a count that grew is above each earlier one
pub HasGrown-since : (old mid new : ℕ) → old ≤ mid → HasGrown mid new → HasGrown old new
HasGrown-since old mid new le grown = ⊎_elim (λ more. inl (let h : old < new = omega arith in h)) (λ most. inr most) grown

module _ {L : Type 0} (g : Ghosts L) where
  -- no call at all
  pub Went-none : (sticky_log : StickyLog L) → (g.state sticky_log.log).usable ≡ true
      → ((pages : List Messages) → g.tells → (g.state sticky_log.log).usable ≡ true → g.left_since sticky_log.log (g.moment sticky_log.log) pages → IsLeft effect_of (unplaced_state (g.state sticky_log.log)) [] pages)
      → Went g sticky_log sticky_log []
  Went-none sticky_log usable only = record {
    batch = refl;
    usable = λ _. usable;
    opened = λ _. refl;
    failed_reads = omega arith;
    write_faults = omega arith;
    added = λ _ clear. Adds-none effect_of (unplaced_state (g.state sticky_log.log));
    crash = λ told. CrashesSinceLeave-none g.moment g.left_since sticky_log.log (IsLeft effect_of (unplaced_state (g.state sticky_log.log)) []) (λ pages left. only pages told usable left);
  }

  -- one call after another, if the first met no write error
  pub Went-then : (old mid new : StickyLog L) (first second : List (Event Message))
      → Went g old mid first
      → mid.fault ≡ false
      → Went g mid new second
      → Went g old new (first ++ second)
  Went-then old mid new first second one clear two =
      let before = unplaced_state (g.state old.log) in
      let between = unplaced_state (g.state mid.log) in
      record {
        batch = two.batch ∙ one.batch;
        usable = two.usable;
        opened = λ kept. two.opened kept ∙ ap (λ b. open_after b second) (one.opened clear) ∙ sym (open_after-append (is_open (g.state old.log).pending) first second);
        failed_reads = let a = one.failed_reads in let b = two.failed_reads in omega arith;
        write_faults = let a = one.write_faults in let b = two.write_faults in omega arith;
        added = λ told kept. Adds-then effect_of before between (unplaced_state (g.state new.log)) first second (one.added told clear) (two.added told kept);
        crash = λ told. CrashesSinceLeave-then g.moment g.left_since old.log mid.log new.log before between first second (one.added told clear) (one.crash told) (two.crash told);
      }

  -- a call that adds nothing after one that did
  pub Went-last : (old mid new : StickyLog L) (events : List (Event Message))
      → Went g old mid events
      → mid.fault ≡ false
      → Went g mid new []
      → Went g old new events
  Went-last old mid new events one clear two =
      subst (Went g old new) (append-nil events) (Went-then old mid new events [] one clear two)

  -- what the log holds then
  pub now-Went : (old new : StickyLog L) (events : List (Event Message)) → Went g old new events → g.tells → new.fault ≡ false
      → now effect_of (unplaced_state (g.state new.log)) ≡ chains_after effect_of (now effect_of (unplaced_state (g.state old.log))) events
  now-Went old new events went told clear = now-Adds effect_of (unplaced_state (g.state old.log)) (unplaced_state (g.state new.log)) events (went.added told clear)

  -- the cause of the last call is that of all
  pub IsCaused-since : {T : Type 0} (old mid new : StickyLog L) (events : List (Event Message)) (no_room : Type 0) (result : Result T Refusal)
      → Went g old mid events
      → IsCaused g mid new no_room result
      → IsCaused g old new no_room result
  IsCaused-since old mid new events no_room result went cause = record {
    fault = cause.fault;
    read = λ is. HasGrown-since (g.counts old.log).failed_reads (g.counts mid.log).failed_reads (g.counts new.log).failed_reads went.failed_reads (cause.read is);
    write = λ is. HasGrown-since (g.counts old.log).write_faults (g.counts mid.log).write_faults (g.counts new.log).write_faults went.write_faults (cause.write is);
    full = cause.full;
  }

  -- the cause of a refusal is that of a call that passes it on
  pub IsCaused-handed_on : {T U : Type 0} (old new : StickyLog L) (no_room : Type 0) (refusal : Refusal)
      → (let result : Result T Refusal = Err refusal in IsCaused g old new no_room result)
      → (let result : Result U Refusal = Err refusal in IsCaused g old new no_room result)
  IsCaused-handed_on {T} {U} old new no_room refusal cause =
      let said : Result U Refusal → Refusal = elim [ Ok answer ↦ refusal | Err other ↦ other ] in
      let again : Refusal → Result T Refusal = λ other. Err other in
      record {
        fault = cause.fault;
        read = λ is. cause.read (ap again (ap said is));
        write = λ is. cause.write (ap again (ap said is));
        full = λ is. cause.full (ap again (ap said is));
      }
