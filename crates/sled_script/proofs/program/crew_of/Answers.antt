-- The words encode no other numbers than those that were read.
use Rattle.std.proofs.Common.{◌≡◌, sym, ◌∙◌, arith}
use Rattle.std.proofs.lemmas.Bool.Decides.{nat_tests}
use Rattle.std.proofs.lemmas.Fmt.{decimal_injective}
use Rattle.sled_script.proofs.program.crew_of.Goals.{else-workers-gt0-via-then-workers-gt0+then-workers-le-MOST_WORKERS+else-calls-le-MOST_CALLS, else-workers-gt0-via-then-workers-gt0+else-workers-le-MOST_WORKERS, else-workers-gt0-via-else-workers-gt0}
use Rattle.sled_script.proofs.program.crew_of.Goals as goal

pub returns-else-workers-gt0-clause-none : goal.returns-else-workers-gt0-clause-none
returns-else-workers-gt0-clause-none c = λ w n encoded.
    let (some, few, short, first, second) = encoded in
    let threads : c.in_ok-workers.workers ≡ w = decimal_injective c.in_ok-workers.workers w (omega arith) (omega arith) (sym c.in_ok-workers.ensures.some ∙ first) in
    let each : c.in_ok-calls.calls ≡ n = decimal_injective c.in_ok-calls.calls n (omega arith) (omega arith) (sym c.in_ok-calls.ensures.some ∙ second) in
    elim c.else-workers-gt0.branch [
      | else-workers-gt0-via-then-workers-gt0+then-workers-le-MOST_WORKERS+else-calls-le-MOST_CALLS via ↦ grind (arith, nat_tests)
      | else-workers-gt0-via-then-workers-gt0+else-workers-le-MOST_WORKERS via ↦ grind (arith, nat_tests)
      | else-workers-gt0-via-else-workers-gt0 via ↦ grind (arith, nat_tests)
    ]
