use Rattle.sled_disk.proofs.laws.crashes.a_disk_log_at_rest.Goals as goal

pub returns-clause-only : goal.returns-clause-only
returns-clause-only c = λ pages usable left. c.a_log_at_rest.ensures.only pages tt usable left
