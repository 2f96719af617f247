use Rattle.sled_tree.proofs.Keeping.{keeps-and, reads-keep}
use Rattle.sled_tree.proofs.merging.next_on.Goals as goal

pub returns-in_err-page : goal.returns-in_err-page
returns-in_err-page g c = keeps-and g.L.Log c.merge_below.ensures (reads-keep g.L.Log c.turn_at.ensures)

pub returns-in_default : goal.returns-in_default
returns-in_default g c = keeps-and g.L.Log c.merge_below.ensures (reads-keep g.L.Log c.turn_at.ensures)

pub returns-in-Down : goal.returns-in-Down
returns-in-Down g c = keeps-and g.L.Log c.merge_below.ensures (reads-keep g.L.Log c.turn_at.ensures)
