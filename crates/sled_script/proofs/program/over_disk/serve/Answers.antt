use Rattle.std.proofs.Common.{inl}
use Rattle.sled_script.proofs.OverDisk.{unread}
use Rattle.sled_script.proofs.program.over_disk.serve.Goals as goal

pub returns-in-Ok-run : goal.returns-in-Ok-run
returns-in-Ok-run g c =
    let left = unread (λ r. g.R.Read.remaining r.now) c.in-Ok.input _ c.in-Ok.ensures.inner c.in-Ok.ensures.empty c.in-Ok.ensures.capacity in
    (c.run.new.cache, rw left at c.in-Ok-run.ensures)

pub returns : goal.returns
returns g c =
    let left = unread (λ r. g.R.Read.remaining r.now) c.in-Ok.input _ c.in-Ok.ensures.inner c.in-Ok.ensures.empty c.in-Ok.ensures.capacity in
    inl (c.run.new.cache, rw left at c.in-Err.ensures)
