-- It is the log that was read.
use Rattle.std.proofs.Common.{◌∙◌}
use Rattle.sled_handle.specs.FileOpenings.{IsLogOver}
use Rattle.sled_handle.proofs.OverBytes.{over_read, where_none, where_some}
use Rattle.sled_handle.proofs.opening.Opening+F.read_log.Goals as goal

pub returns-in_default-clause-over : goal.returns-in_default-clause-over
returns-in_default-clause-over g c told bytes over = where_none c.in_ok-read.field-0 c.in_default.is (c.in_ok-read.ensures.waits told bytes over)

pub returns-clause-over : goal.returns-clause-over
returns-clause-over g c told bytes over =
    over_read _ c.args.self.now.config bytes c.put_log.new.self c.in-Some.read.log (c.put_log.ensures.config ∙ c.in_ok-read.ensures.config) c.put_log.ensures.read
    (where_some (λ read. IsLogOver _ c.args.self.now.config bytes read.log) c.in_ok-read.field-0 c.in-Some.read c.in-Some.is (c.in_ok-read.ensures.over told bytes over))
