use Rattle.std.proofs.Common.{◌≡◌, ◌∷◌, [], ◌++◌, ℕ, List, drop, refl, ◌∙◌, arith}
use Rattle.sled_disk.specs.Disk.{overlaid}
use Rattle.std.specs.Prelude.{None}
use Rattle.sled_disk.specs.Format.{opening, frames_turns, Describes}
use Rattle.sled_disk.proofs.Frames.EmptyFile.{with_room, with_write, with_sync}
use Rattle.sled_disk.proofs.Frames.WrittenFrame.{on_ok_map}
use Rattle.sled_disk.proofs.log.DiskLog.create.Goals as goal

created : (old new : List ℕ) → new ≡ overlaid old 0 (opening ++ 0 ∷ []) → Describes new []
unfolding frames_turns
created old new is = (8, record { frames = []; each = tt; rest = drop 9 old; is = is; place = refl; begun = None; small = omega arith; meaning = refl })

pub returns-clause-empty : goal.returns-clause-empty
returns-clause-empty g c = λ told. on_ok_map c.sync.result (λ same. created (g.D.Disk.seen c.make_room.new.self) (g.D.Disk.seen c.sync.new.self) (same ∙ c.in_ok-write_at.ensures.written told)) (c.sync.ensures.seen told)

pub returns-in_err-make_room-clause-any_moment : goal.returns-in_err-make_room-clause-any_moment
returns-in_err-make_room-clause-any_moment g c = λ told.
    with_room g.D.Disk.may_leave g.D.Disk.moment g.D.Disk.left_since (λ disk left was. g.met.D.Disk.only_now disk left told was) 0 9 c.args.disk.now
    c.make_room.new.self (c.make_room.ensures.stop told) (c.make_room.ensures.time told)

pub returns-in_err-write_at-clause-any_moment : goal.returns-in_err-write_at-clause-any_moment
returns-in_err-write_at-clause-any_moment g c = λ told.
    with_write g.D.Disk.may_leave g.D.Disk.moment g.D.Disk.left_since (λ disk left was. g.met.D.Disk.only_now disk left told was) 0 9 c.args.disk.now
    c.make_room.new.self (c.make_room.ensures.stop told) (c.make_room.ensures.time told) c.write_at.new.self (c.write_at.ensures.stop told) (c.write_at.ensures.time told)

pub returns-clause-any_moment : goal.returns-clause-any_moment
returns-clause-any_moment g c = λ told.
    with_sync g.D.Disk.may_leave g.D.Disk.moment g.D.Disk.left_since (λ disk left was. g.met.D.Disk.only_now disk left told was) 0 9 c.args.disk.now
    c.make_room.new.self (c.make_room.ensures.stop told) (c.make_room.ensures.time told) c.write_at.new.self (c.write_at.ensures.stop told) (c.write_at.ensures.time told)
    c.sync.new.self (c.sync.ensures.stop told) (c.sync.ensures.time told)
