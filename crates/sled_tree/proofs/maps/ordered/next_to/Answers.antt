use Rattle.sled_tree.proofs.OrderedNext.{next-is}
use Rattle.sled_tree.proofs.Performing.{reads-as}
use Rattle.sled_tree.proofs.maps.ordered.next_to.Goals as goal

pub returns-clause-pair : goal.returns-clause-pair
returns-clause-pair g c = reads-as g.L.Log (λ pages next m tree. next-is c.args.bound.now m tree.ascending c.args.side c.in_ok-next_to.field-0 (next m tree)) c.in_ok-next_to.ensures
