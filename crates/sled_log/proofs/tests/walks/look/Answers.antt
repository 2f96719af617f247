use Rattle.sled_log.proofs.Names.{on_ok_weaker, stands-on, stands-still}
use Rattle.sled_log.proofs.tests.walks.look.Goals as goal

pub returns-in-Ok : goal.returns-in-Ok
returns-in-Ok g c = record { stands = λ batch chains s. stands-on _ s c.in-Ok.ensures.called }

pub returns-in-Err : goal.returns-in-Err
returns-in-Err g c = record { stands = on_ok_weaker c.fault.result (λ not_write batch chains s. stands-still c.in-Err.e s not_write c.in-Err.ensures.called) c.fault.ensures }
