-- What `start` promises is what opened the cache, or was tried over the log.
use Rattle.sled_handle.proofs.OverBytes.{again}
use Rattle.sled_handle.proofs.opening.Opening+F.start.Goals as goal

pub returns-in-Ok-clause-over : goal.returns-in-Ok-clause-over
returns-in-Ok-clause-over g c told bytes over =
    record {
      log = c.args.read.log;
      over = over;
      first = c.in-Ok.cache;
      started = record { settings = c.in-Ok.ensures.settings; opens = λ none held is. c.in-Ok.ensures.opens none told held is };
      same = record { served = c.forget.ensures.served; disk = c.forget.ensures.forgets };
    }

pub returns-else-is_none-clause-waits : goal.returns-else-is_none-clause-waits
returns-else-is_none-clause-waits g c told bytes over =
    again _ (c.in-Err.error, c.in-Err.log) over (record { settings = c.in-Err.ensures.settings; opens = λ none held is. c.in-Err.ensures.opens none told held is })
