use Rattle.std.proofs.Common.{◌≡◌, List, Option, None, Some, slice_get}
use Rattle.std.specs.Prelude.{IfSome}
use Rattle.sled_log.specs.Contents.{Content, Node}
use Rattle.sled_node.specs.Node.{WholeNode}
use Rattle.sled_search.specs.Search.{HasNodeAt}
use Rattle.sled_tree.specs.Merging.{AreJoined, IsJoined}
use Rattle.sled_tree.specs.declared.merging.plan.Joined.{Joined}
use Rattle.sled_tree.specs.declared.merging.plan.Neighbours.{Neighbours}
use Rattle.sled_tree.proofs.OrderedReads.{read-first, read-then}
use Rattle.sled_tree.proofs.merging.plan.joined_for.Goals as goal

both : (pages : List Content) (neighbours : Neighbours) (l : WholeNode) → slice_get pages neighbours.left ≡ Some (Node l) → (made : Option Joined) → IfSome made (λ joined. HasNodeAt pages neighbours.right (IsJoined l neighbours.right joined)) → IfSome made (AreJoined pages neighbours)
both pages neighbours l there None is = tt
both pages neighbours l there (Some joined) is = (l, there, is)

pub returns-clause-joined : goal.returns-clause-joined
returns-clause-joined g c =
    read-then g.L.Log (read-first g.L.Log c.in_ok-first.ensures.copy) (λ pages there made is. both pages c.args.neighbours c.in_ok-first.first.node there made is) c.joined_at.ensures.joined
