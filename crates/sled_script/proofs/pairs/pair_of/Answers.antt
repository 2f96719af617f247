-- A pair's word is cut at its one equals sign.
use Rattle.std.proofs.Common.{sym, ◌∙◌}
use Rattle.sled_script.proofs.PairWords.{sides, no_sides}
use Rattle.sled_script.proofs.pairs.pair_of.Goals as goal

pub returns-in_default-clause-none : goal.returns-in_default-clause-none
returns-in_default-clause-none c = λ pair are e.
    let cut = rw c.in_default.is at c.cut_at.ensures in
    no_sides pair _ cut.0 (sym cut.1 ∙ e)

pub returns-in_default-2-clause-none : goal.returns-in_default-2-clause-none
returns-in_default-2-clause-none c = λ pair are e.
    let cut = rw c.in-Some.is at c.cut_at.ensures in
    let none = rw c.in_default-2.is at c.in_ok-key.ensures.none in
    none pair.0 are.0 (sides pair _ _ _ are cut.0 cut.1 e).0

pub returns-in_default-3-clause-none : goal.returns-in_default-3-clause-none
returns-in_default-3-clause-none c = λ pair are e.
    let cut = rw c.in-Some.is at c.cut_at.ensures in
    let none = rw c.in_default-3.is at c.in_ok-value.ensures.none in
    none pair.1 are.1 (sides pair _ _ _ are cut.0 cut.1 e).1
