use Rattle.std.proofs.Common.{[], ◌∷◌, ◌++◌, List, ap, ◌∙◌}
use Rattle.std.proofs.lemmas.List.{append-nil}
use Rattle.sled_disk.specs.CallersFile.{bytewise, writes_of}
use Rattle.sled_disk.specs.DiskMemory.{calls_of}
use Rattle.sled_disk.specs.Journal.{DiskCall, Write}
use Rattle.sled_disk.proofs.StagedDisks.TaskReports.{bytewise-append}
use Rattle.sled_disk.proofs.disk.memory.files.MemDiskCallersFile.write.Goals as goal

pub returns-in-Ok-clause-done : goal.returns-in-Ok-clause-done
returns-in-Ok-clause-done c told is =
    let old = calls_of c.args.self.now in
    let write = Write c.args.at c.args.bytes.now in
    ap bytewise c.in-Ok.ensures.noted ∙ bytewise-append old (write ∷ []) ∙ ap (λ (l : List DiskCall). bytewise old ++ l) (append-nil (writes_of c.args.at c.args.bytes.now))
