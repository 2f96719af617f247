use Rattle.sled_disk.specs.Reading.{chains_of}
use Rattle.sled_disk.specs.LogContents.{records_behind}
use Rattle.sled_disk.proofs.LogCalls.LogOfBytes.{of-its-bytes}
use Rattle.sled_disk.proofs.laws.a_log_is_of_its_bytes.Goals as goal

pub returns : goal.returns
returns g c = λ told ok none.
    let log = c.args._log.now in
    let next = log.next in
    of-its-bytes (g.D.Disk.seen log.disk) next.gate next.spilled (records_behind next.buffer.items) _ (chains_of log.pages.items) (λ i. g.met.D.Disk.are_bytes log.disk i told) (log.stands told ok) next.buffer.items log.usable ok none
