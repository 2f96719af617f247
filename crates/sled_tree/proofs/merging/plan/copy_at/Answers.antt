use Rattle.std.proofs.Common.{◌∙◌, Some, ap, sym}
use Rattle.sled_log.specs.Contents.{Node}
use Rattle.sled_node.specs.Node.{WholeNode}
use Rattle.sled_tree.proofs.Performing.{looks, looks-err}
use Rattle.sled_tree.proofs.merging.plan.copy_at.Goals as goal

pub returns-in-Ok-Some-clause-copy : goal.returns-in-Ok-Some-clause-copy
returns-in-Ok-Some-clause-copy g c =
    looks g.L.Log c.get.follows.holds-at-none c.in-Ok-Some.is c.in-Ok-Some.field-0-is c.node.ensures
    (λ pages there copy is. there ∙ ap (λ (n : WholeNode). Some (Node n)) (sym is)) c.copied.ensures.copy

pub returns-in-Ok-None-clause-copy : goal.returns-in-Ok-None-clause-copy
returns-in-Ok-None-clause-copy g c = looks-err g.L.Log c.get.follows.holds-at-none

pub returns-in-Err-clause-copy : goal.returns-in-Err-clause-copy
returns-in-Err-clause-copy g c = looks-err g.L.Log c.get.follows.holds-at-none
