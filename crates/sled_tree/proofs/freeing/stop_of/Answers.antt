use Rattle.sled_tree.proofs.Walking.{routes-on}
use Rattle.sled_tree.proofs.freeing.stop_of.Goals as goal
use Rattle.sled_tree.proofs.freeing.stop_of.Goals.{in-Here+in_ok-from_slice-in-Here, in-Down2}

pub returns-clause-way : goal.returns-clause-way
returns-clause-way c = elim c.match-route.branch [ in-Here+in_ok-from_slice-in-Here w ↦ rw w.way'-is tt | in-Down2 w ↦ rw w.way'-is (routes-on c.args.key.now c.args.node.now c.route.result w.in-Down.page c.route.ensures w.in-Down.is) ]
