use Rattle.sled_log.proofs.Names.{List, [], refl, sym, subst, AllByRecursion, OnOk, now-Adds, state_of, Chain, effect_of_entry, IsSized}
use Rattle.sled_log.specs.declared.tests.eager.EagerLog.{EagerLog}
use Rattle.sled_log.proofs.Eager.{called_settled}
use Rattle.sled_log.proofs.tests.eager.EagerLogLog.rewrite_blob_pointer.Goals as goal

pub returns-clause-called : goal.returns-clause-called
returns-clause-called c = called_settled (λ (log : EagerLog). log.log) c.args.self.now _ _ c.settle.ensures.adds c.settle.ensures.stop c.settle.ensures.counts _ _ _ _ (λ said. refl) c.rewrite_blob_pointer-said.ensures.called

-- what became stable behind the call changed no page
pub returns-clause-sized : goal.returns-clause-sized
returns-clause-sized c = λ _.
    subst (λ (l : List Chain). OnOk c.rewrite_blob_pointer-said.result (AllByRecursion IsSized l))
    (sym (now-Adds effect_of_entry (state_of c.rewrite_blob_pointer-said.new.self) (state_of c.settle.new.log) [] c.settle.ensures.adds)) c.rewrite_blob_pointer-said.ensures.sized
