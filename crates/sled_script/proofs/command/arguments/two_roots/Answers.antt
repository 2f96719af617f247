-- Two root pages are two words.
use Rattle.sled_lines.proofs.Joined.{two_once}
use Rattle.sled_script.specs.Commands.{root_word}
use Rattle.sled_script.proofs.Commands.{roots_two}
use Rattle.sled_script.proofs.command.arguments.two_roots.Goals as goal

pub returns-in_err-old-clause-none : goal.returns-in_err-old-clause-none
returns-in_err-old-clause-none c = rw c.from_residual.ensures (λ old new encode. c.in_err-old.ensures.none (root_word old) (root_word new) (roots_two _ old new encode))

pub returns-in_err-root_in-clause-none : goal.returns-in_err-root_in-clause-none
returns-in_err-root_in-clause-none c = rw c.from_residual-in_err-root_in.ensures (λ old new encode.
    let same = two_once _ _ _ _ _ c.in_ok-old.ensures.some (roots_two _ old new encode) in
    c.in_err-root_in.ensures.none old encode.numbers.0 same.0)

pub returns-in_err-root_in-2-clause-none : goal.returns-in_err-root_in-2-clause-none
returns-in_err-root_in-2-clause-none c = rw c.from_residual-in_err-root_in-2.ensures (λ old new encode.
    let same = two_once _ _ _ _ _ c.in_ok-old.ensures.some (roots_two _ old new encode) in
    c.in_err-root_in-2.ensures.none new encode.numbers.1 same.1)
