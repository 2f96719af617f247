-- What a cache tells its log, as one sees it who knows contents and no messages.
use Rattle.sled_pagecache.proofs.Names.{Ghosts, ◌≡◌, false, List, ◌++◌, length, take, drop, refl, sym, ◌∙◌, ap, take-append-drop, take-append_seam, Update, contents_after, Event, holds-after, holds-added, Message, Messages, effect_of, AreEvents, events-append, events-take, reads-fair, CrashesSinceLeave-weaker, Went, Logged, IsLogged, Adds, IsProper, StayProper, StickyLog}
use Rattle.sled_log.specs.LogState as log
use Rattle.sled_pagecache.proofs.CacheLog.ProperMessages.{stay-append, stay-take, stay-drop, stay-all}
use Rattle.sled_pagecache.specs.Logged.{now, IsLeft}

-- the pages that a log holds now are as a cache leaves them
pub proper-now : (state : log.LogState Message) (held : Logged) → IsLogged state held → IsProper (log.now effect_of state) (now held)
proper-now state held logged = stay-all state.stable held.stable state.pending held.pending logged.pending logged.proper

-- the log holds what it held and the changes
pub record Carries (state : log.LogState Message) (held : Logged) (changes : List (Event Update)) : Type 0 where
  pub held_then : Logged
  pub logged : IsLogged state held_then
  pub added : Adds held changes held_then
  pub now_is : now held_then ≡ contents_after (now held) changes

module _ (before : log.LogState Message) (held : Logged) (messages : List (Event Message)) (changes : List (Event Update))
    (logged : IsLogged before held) (told : AreEvents (now held) messages changes) (stays : StayProper (log.now effect_of before) (now held) messages changes) where
  all_events : AreEvents held.stable (before.pending ++ messages) (held.pending ++ changes)
  all_events = events-append held.stable before.pending messages held.pending changes logged.pending told

  pub adds-carry : (after : log.LogState Message) → log.Adds effect_of before messages after → Carries after held changes
  adds-carry after adds =
      let all_stay = stay-append before.stable held.stable before.pending messages held.pending changes logged.pending logged.proper stays in
      let parts = holds-added before after messages held.stable held.pending changes logged.stable logged.pending told adds in
      record {
        held_then = record { stable = contents_after held.stable (take adds.cut (held.pending ++ changes)); pending = drop adds.cut (held.pending ++ changes) };
        logged = record {
          stable = parts.0;
          pending = parts.1;
          proper = rw (adds.stable, adds.pending) (stay-drop adds.cut before.stable held.stable (before.pending ++ messages) (held.pending ++ changes) all_events all_stay);
        };
        added = record {
          cut = adds.cut;
          fair = reads-fair held.stable (before.pending ++ messages) (held.pending ++ changes) adds.cut all_events adds.fair;
          stable = refl;
          pending = refl;
        };
        now_is = parts.2;
      }

  pub stop-leaves : (pages : List Messages) → log.IsLeft effect_of before messages pages → IsLeft held changes pages
  stop-leaves pages left =
      let n = length left.came in
      let some = take n changes in
      let part : take n messages ≡ left.came = ap (take n) (sym left.beginning.1) ∙ take-append_seam left.came left.beginning.0 in
      let came : AreEvents (now held) left.came some = rw part at (events-take (now held) n messages changes told) in
      let some_stay : StayProper (log.now effect_of before) (now held) left.came some = rw part at (stay-take n (log.now effect_of before) (now held) messages changes told stays) in
      let kept : List (Event Message) = before.pending ++ left.came in
      let known : List (Event Update) = held.pending ++ some in
      let all : AreEvents held.stable kept known = events-append held.stable before.pending left.came held.pending some logged.pending came in
      record {
        came = some;
        beginning = (drop n changes, take-append-drop n changes);
        cut = left.cut;
        fair = reads-fair held.stable kept known left.cut all left.fair;
        is = rw left.is (record {
          holds = holds-after before.stable held.stable (take left.cut kept) (take left.cut known) logged.stable (events-take held.stable left.cut kept known all);
          proper = stay-append before.stable held.stable before.pending left.came held.pending some logged.pending logged.proper some_stay left.cut;
        });
      }

module _ {L : Type 0} (g : Ghosts L) where
  module _ (old new : StickyLog L) (held : Logged) (messages : List (Event Message)) (changes : List (Event Update))
      (logged : IsLogged (log.unplaced_state (g.state old.log)) held) (told : AreEvents (now held) messages changes)
      (stays : StayProper (log.now effect_of (log.unplaced_state (g.state old.log))) (now held) messages changes)
      (went : Went g old new messages) (known : g.tells) where
    pub carries : new.fault ≡ false → Carries (log.unplaced_state (g.state new.log)) held changes
    carries clear = adds-carry (log.unplaced_state (g.state old.log)) held messages changes logged told stays (log.unplaced_state (g.state new.log)) (went.added known clear)

    pub leaves : log.CrashesSinceLeave g.moment g.left_since old.log new.log (IsLeft held changes)
    leaves =
        CrashesSinceLeave-weaker g.state g.moment g.left_since g.counts old.log new.log (log.IsLeft effect_of (log.unplaced_state (g.state old.log)) messages) (IsLeft held changes)
        (stop-leaves (log.unplaced_state (g.state old.log)) held messages changes logged told stays)
        (went.crash known)
