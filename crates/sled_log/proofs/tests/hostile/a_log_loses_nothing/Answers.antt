use Rattle.sled_log.proofs.Names.{◌≡◌, ◌+◌, [], ◌∷◌, map, refl, sym, ◌∙◌, ap, arith, seen_event, left_now, kept_in, state_of, unplaced_state, messages_of, message_in}
use Rattle.sled_log.proofs.Moments.{left-stable}
use Rattle.sled_log.proofs.tests.hostile.a_log_loses_nothing.Goals as goal

pub returns : goal.returns
returns c = λ chain chains stable none law.
    let log = c.args.log.now in
    let later = law log.clock (log.clock + 1) [] (omega arith) ((λ le. absurd (omega (arith, le))), (λ _. refl)) in
    let whole : messages_of chain ∷ map messages_of chains ≡ [] =
    sym (left-stable (unplaced_state (state_of log)) [] (ap (map (seen_event message_in)) none) (left_now log.clock (kept_in log) [] (later.0 (omega arith))) ∙ ap (map messages_of) stable) in
    cc
