-- A line is cut at its first space in one way.
use Rattle.std.proofs.Common.{ap}
use Rattle.std.specs.Option.{option_map}
use Rattle.sled_lines.proofs.Joined.{behind}
use Rattle.sled_lines.proofs.words.two_words.Goals as goal

pub returns-in_err-rest-clause-none : goal.returns-in_err-rest-clause-none
returns-in_err-rest-clause-none c = rw c.from_residual-in_err-rest.ensures (λ first last two.
    let more = behind _ _ _ _ _ _ (ap (option_map (λ rest. rest.now)) c.in_ok-arguments.was) c.first_word.ensures two.plain_first two.joined in
    let none = ap (option_map (λ rest. rest.now)) c.in_err-rest.was in
    absurd (cc (none, more)))
