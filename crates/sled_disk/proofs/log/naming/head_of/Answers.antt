use Rattle.std.proofs.Common.{drop}
use Rattle.sled_disk.proofs.Moves.RecordPlaces.{front-taken}
use Rattle.sled_disk.proofs.log.naming.head_of.Goals as goal

pub returns-clause-durable : goal.returns-clause-durable
returns-clause-durable g c = λ told le. front-taken (drop c.args.at (g.D.Disk.seen c.args.disk.now)) c.read_at.new.into _ _ (c.in_ok-read_at.ensures.bytes told) (record { kind = c.head_in.ensures.kind; page = c.head_in.ensures.page; len = c.head_in.ensures.len })
