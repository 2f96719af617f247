use Rattle.sled_tree.proofs.Keeping.{on-deed, reads-keep}
use Rattle.sled_tree.proofs.OrderedReads.{read-first}
use Rattle.sled_tree.proofs.Splitting.{led-on}
use Rattle.sled_tree.proofs.splits.lead.Goals as goal

pub returns-in-Some : goal.returns-in-Some
returns-in-Some g c =
    on-deed g.L.Log (λ s t events has puts. led-on c.args.above c.args.child c.args.at.now c.args.page c.in-Some.index.node c.put.result s t events has puts)
    (read-first g.L.Log (rw c.in-Some.is at c.in_ok-index.ensures.led)) c.put.ensures

pub returns-in-None : goal.returns-in-None
returns-in-None g c = reads-keep g.L.Log c.led_at.ensures.led

pub returns-in_err-index : goal.returns-in_err-index
returns-in_err-index g c = reads-keep g.L.Log c.led_at.ensures.led
