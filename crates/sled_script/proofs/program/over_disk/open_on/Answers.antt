use Rattle.sled_script.proofs.program.over_disk.open_on.Goals as goal

pub returns-in-Ok-start-clause-opened : goal.returns-in-Ok-start-clause-opened
returns-in-Ok-start-clause-opened g c = λ told. record {
  log = c.in-Ok.log;
  holds = rw (c.in_ok-make_log.ensures told) at c.in-Ok.ensures.opened told;
  started = record { settings = c.in-Ok-start.ensures.settings; opens = λ fine held logged. c.in-Ok-start.ensures.opens fine told held logged };
  closed = c.in-Ok-start.ensures.closed;
}
