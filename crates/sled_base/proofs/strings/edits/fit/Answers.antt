use Rattle.sled_base.proofs.StringEdits.{on_ok_so, same_less}
use Rattle.sled_base.proofs.strings.edits.fit.Goals as goal

pub returns-then-was-size-clause-front : goal.returns-then-was-size-clause-front
returns-then-was-size-clause-front c = on_ok_so c.open_gap.result (same_less c.args.start c.args.end _ _ c.requires.order) c.open_gap.ensures.front
