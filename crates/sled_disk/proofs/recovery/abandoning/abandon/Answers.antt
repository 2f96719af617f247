use Rattle.std.proofs.Common.{◌≡◌, ◌+◌, ℕ, List, inl, refl, ◌∙◌, ap, subst, take}
use Rattle.sled_disk.specs.Abandoned.{abandoned_frame}
use Rattle.sled_disk.specs.Crash.{BytesLeft, IsShutOrOpened}
use Rattle.sled_disk.proofs.LogCalls.CallOutcomes.{rests-then, at-read}
use Rattle.sled_disk.proofs.Frames.WrittenFrame.{left-so}
use Rattle.sled_disk.proofs.recovery.abandoning.abandon.Goals as goal

pub returns-in_err-make_room-clause-stop : goal.returns-in_err-make_room-clause-stop
returns-in_err-make_room-clause-stop g c = λ told.
    let d = c.args.disk.now in
    left-so (λ bytes. bytes ≡ g.D.Disk.seen d) (IsShutOrOpened c.args.gate (abandoned_frame c.args.begun) (g.D.Disk.seen d)) (λ left same. inl (ap (take (c.args.gate + 1)) same))
    (at-read g.D.Disk.seen g.D.Disk.may_leave g.D.Disk.moment g.D.Disk.left_since (λ disk left was. g.met.D.Disk.only_now disk left told was) d c.make_room.new.disk told (c.requires.durable told) c.make_room.ensures.rests)

pub returns-clause-stop : goal.returns-clause-stop
returns-clause-stop g c = λ told.
    let d = c.args.disk.now in
    let mid = c.make_room.new.disk in
    rests-then g.D.Disk.seen g.D.Disk.may_leave g.D.Disk.moment g.D.Disk.left_since (λ disk left was. g.met.D.Disk.only_now disk left told was) d mid c.write_frame.new.disk (IsShutOrOpened c.args.gate (abandoned_frame c.args.begun) (g.D.Disk.seen d))
    told (c.requires.durable told) (inl refl) c.make_room.ensures.rests
    (subst (λ (frame : List ℕ). BytesLeft g.D.Disk.moment g.D.Disk.left_since mid c.write_frame.new.disk (IsShutOrOpened c.args.gate frame (g.D.Disk.seen d))) (c.deref.ensures.value ∙ c.in_ok-frame.ensures)
    (subst (λ (l : List ℕ). BytesLeft g.D.Disk.moment g.D.Disk.left_since mid c.write_frame.new.disk (IsShutOrOpened c.args.gate c.deref.result.now l)) (c.make_room.ensures.rests.same told) (c.write_frame.ensures.stop told)))
