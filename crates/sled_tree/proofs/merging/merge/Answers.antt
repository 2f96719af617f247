use Rattle.sled_tree.proofs.Keeping.{on-deed}
use Rattle.sled_tree.proofs.OrderedReads.{read-first}
use Rattle.sled_tree.proofs.merging.merge.Goals as goal

pub returns-in_err-carry_out-in-Some-2 : goal.returns-in_err-carry_out-in-Some-2
returns-in_err-carry_out-in-Some-2 g c =
    on-deed g.L.Log (λ s t events so keeps. record { follows = keeps.follows; stays = λ w are has. keeps.stays w are (has, so) })
    (read-first g.L.Log (rw c.in-Some-2.is at c.in_ok-plan.ensures.plan)) c.carry_out.ensures

pub returns-in_ok-carry_out-in-Some-2 : goal.returns-in_ok-carry_out-in-Some-2
returns-in_ok-carry_out-in-Some-2 g c =
    on-deed g.L.Log (λ s t events so keeps. record { follows = keeps.follows; stays = λ w are has. keeps.stays w are (has, so) })
    (read-first g.L.Log (rw c.in-Some-2.is at c.in_ok-plan.ensures.plan)) c.carry_out.ensures
