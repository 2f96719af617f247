use Rattle.sled_tree.proofs.FreeingPages.{stops}
use Rattle.sled_tree.proofs.Performing.{looks, looks-err, looks-token}
use Rattle.sled_tree.proofs.freeing.stop_at.Goals as goal

pub returns-in-Ok-Some : goal.returns-in-Ok-Some
returns-in-Ok-Some g c =
    let got = c.get.follows.holds-at-none in
    let of_page = looks-token g.L.Log got c.in-Ok-Some.is c.in-Ok-Some.field-0-is c.token.ensures in
    looks g.L.Log got c.in-Ok-Some.is c.in-Ok-Some.field-0-is c.node.ensures (λ pages there stop is. record { token = is.0; way = (c.node.result.now, there, is.1) })
    (stops c.args.key.now c.args.pid c.token.result c.node.result.now of_page c.stop_of.result c.stop_of.ensures.token c.stop_of.ensures.way)

pub returns-in-Ok-None : goal.returns-in-Ok-None
returns-in-Ok-None g c = looks-err g.L.Log c.get.follows.holds-at-none

pub returns-in-Err : goal.returns-in-Err
returns-in-Err g c = looks-err g.L.Log c.get.follows.holds-at-none
