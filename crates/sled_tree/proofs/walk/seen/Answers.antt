use Rattle.sled_tree.proofs.Walking.{routes-on}
use Rattle.sled_tree.proofs.walk.seen.Goals as goal

pub returns-in-Down : goal.returns-in-Down
returns-in-Down c = routes-on c.args.key.now c.args.node.now c.route.result c.in-Down.page c.route.ensures c.in-Down.is
