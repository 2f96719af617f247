use Rattle.sled_log.proofs.Names.{◌≡◌, true, drop, take, is_open, effect_of, Ran, events_of_all, can_make_all, now, unplaced_state}
use Rattle.sled_log.proofs.runs.make_calls.Given as goal

-- what the calls so far have made, and that the others can be made
abbrev pub invariant-loop-call : goal.invariant-loop-call
invariant-loop-call g l = record {
  ran : Ran g.L.Log.state g.L.Log.moment g.L.Log.left_since g.L.Log.counts l.fn.log l.log (events_of_all (take l.call-index l.calls));
  can : can_make_all (now effect_of (unplaced_state (g.L.Log.state l.log))) (is_open (g.L.Log.state l.log).pending) (drop l.call-index l.calls) ≡ true;
}
