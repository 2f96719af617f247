use Rattle.std.proofs.Common.{rules, ℕ, ◌+◌, ◌∙◌, ap, sym, length}
use Rattle.sled_shared.specs.History.{written_by}
use Rattle.sled_shared.proofs.HistorySteps.{counts_one}
use Rattle.sled_shared.proofs.held.entering.enter.Goals as goal

pub invariant_of-mine : goal.invariant_of-mine
invariant_of-mine g c =
    let told = c.enter.ensures in
    let grown = counts_one c.mine.inside.pen.number c.mine.inside.pen.seen _ c.enter.new.pen.seen told.5 in
    (search rules, search rules, ap (λ (n : ℕ). n + 1) c.mine.invariant.2 ∙ (sym grown ∙ sym (ap (λ (k : ℕ). length (written_by k c.enter.new.pen.seen)) told.2)), told.1 ∙ c.mine.invariant.3)
