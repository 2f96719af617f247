use Rattle.sled_disk.specs.Staged.{Fails, Forgets, HandsOut, TakesIn}
use Rattle.sled_handle.proofs.KeptOver.{kept}
use Rattle.sled_handle.proofs.laws.an_opening_stays_over_its_bytes.Goals as goal

pub returns-clause-handed_out : goal.returns-clause-handed_out
returns-clause-handed_out g c = λ tells task buffer. kept _ (HandsOut task buffer) tells tells

pub returns-clause-taken_in : goal.returns-clause-taken_in
returns-clause-taken_in g c = λ tells at piece. kept _ (TakesIn at piece) tells tells

pub returns-clause-forgotten : goal.returns-clause-forgotten
returns-clause-forgotten g c = λ tells. kept _ Forgets tells tells

pub returns-clause-failed : goal.returns-clause-failed
returns-clause-failed g c = λ tells. kept _ Fails tells tells
