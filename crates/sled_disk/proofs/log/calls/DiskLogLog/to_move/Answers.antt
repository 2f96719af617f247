use Rattle.std.proofs.Common.{refl, sym}
use Rattle.std.proofs.lemmas.List.{append-nil}
use Rattle.sled_disk.specs.Pending.{pending_in}
use Rattle.sled_disk.proofs.LogCalls.CallOutcomes.{called-waits, rests-same}
use Rattle.sled_disk.proofs.log.calls.DiskLogLog.to_move.Goals as goal

pub returns-clause-called : goal.returns-clause-called
returns-clause-called g c =
    let log = c.args.self.now in
    called-waits g.D.Disk (λ disk left told was. g.met.D.Disk.only_now disk left told was) (λ disk told i. g.met.D.Disk.are_bytes disk i told)
    log _ _ _ c.next.result (rests-same g.D.Disk.seen g.D.Disk.may_leave g.D.Disk.moment g.D.Disk.left_since g.D.Disk.tells log.disk) refl c.requires.usable refl (λ told. sym (append-nil (pending_in (g.D.Disk.seen log.disk) log.next.gate log.next.spilled log.next.buffer.items))) refl
    c.requires.usable
