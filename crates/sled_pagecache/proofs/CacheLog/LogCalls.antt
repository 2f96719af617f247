-- Calls of a log, one after another up to the first that is refused.
use Rattle.sled_pagecache.proofs.Names.{◌≡◌, true, false, List, [], ◌∷◌, ◌++◌, Option, None, Some, Result, Ok, Err, refl, sym, ◌∙◌, ap, append_assoc, append-nil, Write, Refusal, Io, Event, Message, Messages, effect_of, IsLeft, unplaced_state, Ghosts, IsCaused, begun_by, HasGrown-since, Went-none, Went-then, refusal_in, Comes, TakesNoRoom, LacksRoom, Reaches, Proceeds, StickyLog, arith}
use Rattle.sled_base.specs.declared.types.Refusal.TheVariants.{Unsupported}

pub nil-parts : {X : Type 0} (xs ys : List X) → xs ++ ys ≡ [] → (xs ≡ []) × (ys ≡ [])
nil-parts [] ys is = (refl, is)
nil-parts (x ∷ xs) ys is = (let e = is in absurd cc)

-- a refusal of the cache's own, which no log made
abbrev pub IsOwnRefusal : Refusal → Type 0
IsOwnRefusal (Io device) = ⊥
IsOwnRefusal (Unsupported why) = ⊥
IsOwnRefusal other = Unit {0}

module _ {L : Type 0} (g : Ghosts L) where
  -- each of the events came, whatever was answered then
  pub proceeds-ended : {T : Type 0} (old new : StickyLog L) (events : List (Event Message)) (result : Result T Refusal) → Comes g old new events → IsCaused g old new ⊥ result
      → (events ≡ [] → TakesNoRoom g old.log new.log) → Proceeds g old new events (refusal_in result)
  proceeds-ended old new events (Ok answer) went cause room = record { reaches = went; fault = cause.fault; room = room }
  proceeds-ended old new events (Err refusal) went cause room = record {
    reaches = record {
      came = events;
      rest = [];
      is = append-nil events;
      went = went;
      read = λ is. cause.read (ap Err is);
      write = λ is. cause.write (ap Err is);
      full = λ is. absurd (cause.full (ap Err is));
    };
    fault = grind (arith, cause.fault);
    room = room;
  }

  -- a refusal of the cache's own, after calls that were done
  pub proceeds-refused : (old new : StickyLog L) (events : List (Event Message)) (refusal : Refusal) → IsOwnRefusal refusal → Proceeds g old new events None → Proceeds g old new events (Some refusal)
  proceeds-refused old new events refusal own done = let clear = done.fault in proceeds-ended {T = Unit {0}} old new events (Err refusal) done.reaches (grind arith) done.room

  -- ---- calls after calls

  -- more calls after some that were done
  pub proceeds-then : (old mid new : StickyLog L) (first second : List (Event Message)) (refusal : Option Refusal)
      → Proceeds g old mid first None → Proceeds g mid new second refusal → Proceeds g old new (first ++ second) refusal
  proceeds-then old mid new first second refusal one two = record {
    reaches = by refusal two.reaches;
    fault = two.fault;
    room = λ none n full. let parts = nil-parts first second none in one.room parts.0 n (two.room parts.1 n full);
  }
    where
      by : (refusal : Option Refusal) → Reaches g mid new second refusal → Reaches g old new (first ++ second) refusal
      by None two = Went-then g old mid new first second one.reaches one.fault two
      by (Some refusal) two = record {
        came = first ++ two.came;
        rest = two.rest;
        is = append_assoc first two.came two.rest ∙ ap (λ (l : List (Event Message)). first ++ l) two.is;
        went = Went-then g old mid new first two.came one.reaches one.fault two.went;
        read = λ is. HasGrown-since (g.counts old.log).failed_reads (g.counts mid.log).failed_reads (g.counts new.log).failed_reads one.reaches.failed_reads (two.read is);
        write = λ is. HasGrown-since (g.counts old.log).write_faults (g.counts mid.log).write_faults (g.counts new.log).write_faults one.reaches.write_faults (two.write is);
        full = λ is.
            let full = two.full is in
            record {
              at = full.at;
              went = Went-then g old mid full.at first two.came one.reaches one.fault full.went;
              clear = full.clear;
              room = full.room;
              given = λ none. let parts = nil-parts first two.came none in grind (arith, one.room parts.0, full.given parts.1);
              behind = full.behind;
            };
      }

  -- a refusal of the first calls, where more were to come
  pub proceeds-first : (old new : StickyLog L) (first second : List (Event Message)) (refusal : Refusal) → Proceeds g old new first (Some refusal) → Proceeds g old new (first ++ second) (Some refusal)
  proceeds-first old new first second refusal one =
      let cut = one.reaches in
      record {
        reaches = record {
          came = cut.came;
          rest = cut.rest ++ second;
          is = sym (append_assoc cut.came cut.rest second) ∙ ap (λ (l : List (Event Message)). l ++ second) cut.is;
          went = cut.went;
          read = cut.read;
          write = cut.write;
          full = λ is.
              let full = cut.full is in
              record { at = full.at; went = full.went; clear = full.clear; room = grind (arith, full.room); given = λ none. grind (arith, full.given none); behind = full.behind };
        };
        fault = one.fault;
        room = λ none. one.room (nil-parts first second none).0;
      }

  module _ (old : StickyLog L) (only : (pages : List Messages) → g.tells → (g.state old.log).usable ≡ true → g.left_since old.log (g.moment old.log) pages → IsLeft effect_of (unplaced_state (g.state old.log)) [] pages)
      (clear : old.fault ≡ false) (usable : (g.state old.log).usable ≡ true) where
    -- no call at all
    pub proceeds-none : Proceeds g old old [] None
    proceeds-none = record { reaches = Went-none g old usable only; fault = clear; room = λ none n full. full }

    -- a call that tells one message
    pub proceeds-unplaced : {T : Type 0} (new : StickyLog L) (event : Event Message) (result : Result T Refusal) → Comes g old new (begun_by result (event ∷ []))
        → IsCaused g old new (LacksRoom g old.log (event ∷ [])) result → Proceeds g old new (event ∷ []) (refusal_in result)
    proceeds-unplaced new event result went cause = record { reaches = by result went cause; fault = grind (arith, cause.fault); room = λ none. (let e = none in cc) }
      where
        by : {T : Type 0} (result : Result T Refusal) → Comes g old new (begun_by result (event ∷ []))
            → IsCaused g old new (LacksRoom g old.log (event ∷ [])) result → Reaches g old new (event ∷ []) (refusal_in result)
        by (Ok answer) went cause = went
        by (Err (Io Write)) went cause = record { came = event ∷ []; rest = []; is = refl; went = went; read = λ is. (let e = is in cc); write = λ is. cause.write refl; full = λ is. (let e = is in cc) }
        by (Err refusal) went cause = record {
          came = [];
          rest = event ∷ [];
          is = refl;
          went = went;
          read = λ is. cause.read (ap Err is);
          write = λ is. cause.write (ap Err is);
          full = λ is.
              let lacks = cause.full (ap Err is) in
              record { at = old; went = Went-none g old usable only; clear = clear; room = lacks; given = λ _. lacks; behind = went };
        }

    -- nothing was called, for a refusal of the cache's own
    pub proceeds-not : (events : List (Event Message)) (refusal : Refusal) → IsOwnRefusal refusal → Proceeds g old old events (Some refusal)
    proceeds-not events refusal own = proceeds-first old old [] events refusal (proceeds-refused old old [] refusal own proceeds-none)
