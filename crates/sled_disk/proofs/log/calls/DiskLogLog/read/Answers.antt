use Rattle.std.proofs.Common.{rules, ◌≡◌, SFits, sym, subst, w64, [], slice_index_or}
use Rattle.std.proofs.lemmas.Int.{to_z-of_z}
use Rattle.std.proofs.lemmas.List.{nil_from_length}
use Rattle.std.specs.List.{Any}
use Rattle.sled_log.specs.LogState.{now}
use Rattle.sled_log.specs.Messages.{effect_of_entry}
use Rattle.sled_log.specs.Pages.{IsAt}
use Rattle.sled_disk.specs.PendingFrame.{state_of}
use Rattle.sled_disk.proofs.log.calls.DiskLogLog.read.Goals as goal

pub read_to-requires-clause-known : goal.read_to-requires-clause-known
read_to-requires-clause-known g c = λ told.
    let log = c.args.self.now in
    let fits : SFits w64 c.args.lsn = search rules in
    subst (λ lsn. Any (IsAt lsn c.args.pointer) (slice_index_or (now effect_of_entry (state_of (g.D.Disk.seen log.disk) log.next log.usable)) c.args.pid [])) (sym (to_z-of_z w64 c.args.lsn fits)) (c.requires.known told)

pub returns-in-Ok-clause-found : goal.returns-in-Ok-clause-found
returns-in-Ok-clause-found g c =
    let none : c.read_to.new.space ≡ [] = nil_from_length c.read_to.new.space (search rules) in
    search (rules, none)
