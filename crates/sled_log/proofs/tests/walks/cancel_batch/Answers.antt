use Rattle.sled_log.proofs.Names.{false, nat_lt, List, length, refl, ap, ◌∙◌, Chain, effect_of_entry, now, stands-on}
use Rattle.sled_log.specs.Inside.Walks.{Stands}
use Rattle.sled_log.proofs.tests.walks.cancel_batch.Goals as goal

pub append-requires-clause-can : goal.append-requires-clause-can
append-requires-clause-can g c =
    let s1 : Stands g.L.Log.tells g.L.Log.state c.args.log.now false (now effect_of_entry (g.L.Log.state c.args.log.now)) = record { usable = c.requires.usable; opened = c.requires.closed; holds = λ _. refl } in
    let s2 = stands-on _ s1 c.in_ok-pin.ensures.called in
    λ told. ap (λ (l : List Chain). nat_lt 1 (length l)) (s2.holds told) ∙ c.requires.pages told
