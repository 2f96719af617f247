-- A byte can't go on where none is spelled.
use Rattle.std.proofs.Common.{◌<◌, length, sym, ◌∙◌, arith}
use Rattle.std.proofs.lemmas.Bool.Decides.{nat_tests}
use Rattle.sled_keys.proofs.Spelled.{stops_at}
use Rattle.sled_keys.proofs.words.decode.Goals as goal

pub returns-in_default-clause-none : goal.returns-in_default-clause-none
returns-in_default-clause-none c = λ same bytes are e.
    let left = c.loop-left.left.now in
    let some : 0 < length left = grind (arith, nat_tests) in
    stops_at c.loop-left.room.items bytes left are (sym c.loop-left.invariant ∙ e) some (λ byte rest below. c.in_default.ensures.none byte rest below)
