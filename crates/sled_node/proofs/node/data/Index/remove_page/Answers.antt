use Rattle.sled_node.proofs.Pages.{has_without}
use Rattle.sled_node.proofs.node.data.Index.remove_page.Goals as goal

pub invariant_of-self : goal.invariant_of-self
invariant_of-self c = rw c.remove_from.ensures (has_without c.args.page c.self.inside.pairs.items c.self.invariant)
