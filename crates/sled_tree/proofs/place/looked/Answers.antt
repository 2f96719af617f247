use Rattle.std.proofs.Common.{inl, inr}
use Rattle.sled_tree.proofs.Walking.{routes-on}
use Rattle.sled_tree.proofs.place.looked.Goals as goal

pub returns-in-Right : goal.returns-in-Right
returns-in-Right c = routes-on c.args.key.now c.args.node.now c.route-turn.result c.in-Right.page c.route-turn.ensures (inr c.in-Right.is)

pub returns-in-Down : goal.returns-in-Down
returns-in-Down c = routes-on c.args.key.now c.args.node.now c.route-turn.result c.in-Down.page c.route-turn.ensures (inl c.in-Down.is)
