use Rattle.sled_script.proofs.OverDisk.{served}
use Rattle.sled_script.specs.Settings.{settings}
use Rattle.sled_script.proofs.program.over_disk.serve_on.Goals as goal

pub returns-in-Ok : goal.returns-in-Ok
returns-in-Ok g c = λ told. served _ settings (g.D.Disk.seen c.args.disk) (g.R.Read.remaining c.args.reader.now) (g.W.Write.contents c.args.writer.now) (g.W.Write.contents c.serve.new.writer) c.in-Ok.cache c.serve.result (c.in-Ok.ensures.opened told) c.serve.ensures
