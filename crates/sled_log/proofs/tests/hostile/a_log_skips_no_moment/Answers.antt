use Rattle.sled_log.proofs.Names.{◌≡◌, inr, ⊎_elim, List, [], ◌∷◌, refl, subst, arith, WasLeft, Messages, LogItem, state_at, unplaced_state}
use Rattle.sled_log.proofs.Moments.{left-stable}
use Rattle.sled_log.proofs.tests.hostile.a_log_skips_no_moment.Goals as goal

pub returns : goal.returns
returns c = λ law.
    let log = c.args.log.now in
    let one : List Messages = [] ∷ [] in
    let left = law 0 1 one (omega arith) (0, inr refl) in
    -- an empty log leaves no page
    let none : (was : WasLeft log.clock [] left.0 one) → one ≡ [] = λ was. left-stable (unplaced_state (state_at was.at [])) one refl was.left in
    ⊎_elim (λ even. absurd (let is : one ≡ [] = none (subst (λ (l : List LogItem). WasLeft log.clock l left.0 one) c.requires.empty even.1) in cc))
    (λ odd. absurd (omega (arith, odd))) left.1
