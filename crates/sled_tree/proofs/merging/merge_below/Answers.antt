use Rattle.sled_tree.proofs.Keeping.{keeps-and, reads-keep}
use Rattle.sled_tree.proofs.merging.merge_below.Goals as goal

pub returns-in_err-child : goal.returns-in_err-child
returns-in_err-child g c = reads-keep g.L.Log c.turn_at.ensures

pub returns-in_default : goal.returns-in_default
returns-in_default g c = reads-keep g.L.Log c.turn_at.ensures

pub returns-in_err-has_few : goal.returns-in_err-has_few
returns-in_err-has_few g c = keeps-and g.L.Log (reads-keep g.L.Log c.turn_at.ensures) (reads-keep g.L.Log c.has_few.ensures)

pub returns-then-not-branch : goal.returns-then-not-branch
returns-then-not-branch g c = keeps-and g.L.Log (reads-keep g.L.Log c.turn_at.ensures) (reads-keep g.L.Log c.has_few.ensures)

pub returns : goal.returns
returns g c = keeps-and g.L.Log (keeps-and g.L.Log (reads-keep g.L.Log c.turn_at.ensures) (reads-keep g.L.Log c.has_few.ensures)) c.merge_child.ensures
