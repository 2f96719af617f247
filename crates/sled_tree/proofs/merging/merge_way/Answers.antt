use Rattle.sled_tree.proofs.Keeping.{keeps-and, still-keeps}
use Rattle.sled_tree.proofs.merging.merge_way.Goals as goal

pub turns-init : goal.turns-init
turns-init g c = still-keeps g.L.Log

pub returns-in_err-page : goal.returns-in_err-page
returns-in_err-page g c = keeps-and g.L.Log c.turns.invariant c.next_on.ensures

pub returns-in-None : goal.returns-in-None
returns-in-None g c = keeps-and g.L.Log c.turns.invariant c.next_on.ensures

pub turns-preserved : goal.turns-preserved
turns-preserved g c = keeps-and g.L.Log c.turns.invariant c.next_on.ensures

pub returns : goal.returns
returns g c = c.turns.invariant
