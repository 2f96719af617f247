use Rattle.sled_log.proofs.Names.{◌+◌, List, [], ◌++◌, take, drop, ◌∙◌, ap, subst, append-nil, err_from_is_err_and, is_open, Event, Adds-then, IsLeft-more, Message, Messages, effect_of, Ran, Ran-stop, Ran-more, CrashesSinceLeave-weaker, open-call, now-call, events_of, events_of_all, can_make_all, leaves_open, now, Adds, IsLeft, unplaced_state}
use Rattle.sled_log.proofs.CallLists.{events-more, can-next, events-split}
use Rattle.sled_log.proofs.runs.make_calls.Goals as goal

pub returns-in_err-make_call-clause-stop : goal.returns-in_err-make_call-clause-stop
returns-in_err-make_call-clause-stop g c =
    let calls = c.args.calls.now in
    let i = c.loop-call.call-index in
    let old = unplaced_state (g.L.Log.state c.args.log.now) in
    let first = events_of_all (take i calls) in
    let more = events_of_all (take (i + 1) calls) in
    let others = events_of_all (drop (i + 1) calls) in
    CrashesSinceLeave-weaker g.L.Log.state g.L.Log.moment g.L.Log.left_since g.L.Log.counts c.args.log.now c.make_call.new.log (IsLeft effect_of old (first ++ events_of c.call-item.result)) (IsLeft effect_of old (events_of_all calls))
    (λ pages left.
    subst (λ (l : List (Event Message)). IsLeft effect_of old l pages) (events-split calls (i + 1))
    (IsLeft-more effect_of old more others pages (subst (λ (l : List (Event Message)). IsLeft effect_of old l pages) (events-more calls i c.call-item.result c.loop-call-test.true c.call-item.is) left)))
    (Ran-stop g.L.Log.state g.L.Log.moment g.L.Log.left_since g.L.Log.counts c.args.log.now c.loop-call.log c.make_call.new.log first (events_of c.call-item.result) c.loop-call.invariant.ran c.make_call.ensures.stop)

pub loop-call-preserved : goal.loop-call-preserved
loop-call-preserved g c =
    let calls = c.args.calls.now in
    let i = c.loop-call.call-index in
    let call = c.call-item.result in
    let made = c.in_ok-make_call.ensures in
    record {
      ran = subst (Ran g.L.Log.state g.L.Log.moment g.L.Log.left_since g.L.Log.counts c.args.log.now c.make_call.new.log) (events-more calls i call c.loop-call-test.true c.call-item.is)
          (Ran-more g.L.Log.state g.L.Log.moment g.L.Log.left_since g.L.Log.counts c.args.log.now c.loop-call.log c.make_call.new.log (events_of_all (take i calls)) (events_of call) tt c.loop-call.invariant.ran made.usable made.added made.stop made.cause);
      can = ap (λ b. can_make_all (now effect_of (unplaced_state (g.L.Log.state c.make_call.new.log))) b (drop (i + 1) calls)) (open-call (g.L.Log.state c.loop-call.log) (g.L.Log.state c.make_call.new.log) call made.added)
          ∙ ap (λ (pages : List Messages). can_make_all pages (leaves_open (is_open (g.L.Log.state c.loop-call.log).pending) call) (drop (i + 1) calls)) (now-call (g.L.Log.state c.loop-call.log) (g.L.Log.state c.make_call.new.log) call made.added)
          ∙ (can-next calls i call c.loop-call-test.true c.call-item.is (now effect_of (unplaced_state (g.L.Log.state c.loop-call.log))) (is_open (g.L.Log.state c.loop-call.log).pending) c.loop-call.invariant.can).1;
    }

pub returns-in_err-make_call-clause-refused : goal.returns-in_err-make_call-clause-refused
returns-in_err-make_call-clause-refused g c =
    let i = c.loop-call.call-index in
    let first = events_of_all (take i c.args.calls.now) in
    let old = unplaced_state (g.L.Log.state c.args.log.now) in
    let new = unplaced_state (g.L.Log.state c.make_call.new.log) in
    let p = err_from_is_err_and c.from_residual.result c.from_residual.ensures.1 in
    rw (p.1, p.2) (λ clear. (i, c.loop-call-test.true, subst (λ (l : List (Event Message)). Adds effect_of old l new) (append-nil first) (Adds-then effect_of old (unplaced_state (g.L.Log.state c.loop-call.log)) new first [] c.loop-call.invariant.ran.added (c.in_err-make_call.ensures.refused clear))))
