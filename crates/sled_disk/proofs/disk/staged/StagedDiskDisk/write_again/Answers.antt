-- The bytes that are written stood there.
use Rattle.std.proofs.Common.{◌+◌, ◌≤◌, [], ◌++◌, length, refl, sym, ◌∙◌, ap, subst, rules, arith}
use Rattle.std.proofs.lemmas.List.{append-nil}
use Rattle.sled_disk.specs.CallersFile.{bytewise, held_after}
use Rattle.sled_disk.specs.StagedReads.{StandOver, seen_in}
use Rattle.sled_disk.specs.Staged.{calls_of, holds, seen_over, waiting}
use Rattle.sled_disk.specs.Tasks.{tasks_in}
use Rattle.sled_disk.proofs.StagedDisks.StagedMoments.{again-calls, elapses-write, same-may}
use Rattle.sled_disk.proofs.StagedDisks.RepeatedWrites.{again-over}
use Rattle.sled_disk.proofs.disk.staged.StagedDiskDisk.write_again.Goals as goal

pub write_again-requires-clause-small : goal.write_again-requires-clause-small
write_again-requires-clause-small g c = omega (arith, c.in_ok-read_at.ensures.small, c.read_at.ensures.length)

pub returns-then-write_again-clause-over : goal.returns-then-write_again-clause-over
returns-then-write_again-clause-over g c file over =
    let fits : c.args.at + length c.read_at.new.into ≤ length (seen_over file c.args.self.now) = omega (arith, c.in_ok-read_at.ensures.within, c.read_at.ensures.length, over.len) in
    let again = again-over file c.args.self.now c.read_at.new.self c.write_again.new.self c.args.at c.read_at.new.into (c.read_at.ensures.over file over) fits (c.in_ok-read_at.ensures.bytes file over) (c.if-write_again.ensures.added refl) (search rules) in
    record { over = again.0; seen = again.1 }

pub returns-then-write_again-clause-seen : goal.returns-then-write_again-clause-seen
returns-then-write_again-clause-seen g c = λ told.
    let self = c.args.self.now in
    let file = g.F.CallersFile in
    let stage = c.write_again.new.self in
    let over = self.over told in
    let fits : c.args.at + length c.read_at.new.into ≤ length (seen_over (holds self) self) = omega (arith, c.in_ok-read_at.ensures.within, c.read_at.ensures.length, over.len) in
    let again = again-over (holds self) self c.read_at.new.self stage c.args.at c.read_at.new.into (c.read_at.ensures.over (holds self) over) fits (c.in_ok-read_at.ensures.bytes (holds self) over) (c.if-write_again.ensures.added refl) (search rules) in
    ap (λ f. seen_in (held_after (file.first f) (file.done f)) stage.tasks) c.read_at.ensures.waits.file ∙ again.1

pub returns-then-write_again-clause-stop : goal.returns-then-write_again-clause-stop
returns-then-write_again-clause-stop g c = λ told.
    let self = c.args.self.now in
    let mid = c.read_at.new.self in
    let tasks = tasks_in c.write_again.new.self.tasks in
    let same = c.read_at.ensures.waits.file in
    same-may self mid.file (g.F.CallersFile.done mid.file ++ bytewise tasks) same (again-calls self mid.file (waiting mid) tasks c.args.at c.read_at.new.into same c.read_at.ensures.waits.waiting (c.if-write_again.ensures.added refl))

pub returns-then-write_again-clause-time : goal.returns-then-write_again-clause-time
returns-then-write_again-clause-time g c = λ told.
    let self = c.args.self.now in
    let mid = c.read_at.new.self in
    let tasks = tasks_in c.write_again.new.self.tasks in
    let same = c.read_at.ensures.waits.file in
    elapses-write self _ 0 [] (ap g.F.CallersFile.first same) (again-calls self mid.file (waiting mid) tasks c.args.at c.read_at.new.into same c.read_at.ensures.waits.waiting (c.if-write_again.ensures.added refl) ∙ sym (append-nil (calls_of self)))

pub invariant_of-self-clause-over : goal.invariant_of-self-clause-over
invariant_of-self-clause-over g c = λ told.
    let self = c.args.self.now in
    let file = g.F.CallersFile in
    let stage = c.write_again.new.self in
    let over = self.over told in
    let fits : c.args.at + length c.read_at.new.into ≤ length (seen_over (holds self) self) = omega (arith, c.in_ok-read_at.ensures.within, c.read_at.ensures.length, over.len) in
    let again = again-over (holds self) self c.read_at.new.self stage c.args.at c.read_at.new.into (c.read_at.ensures.over (holds self) over) fits (c.in_ok-read_at.ensures.bytes (holds self) over) (c.if-write_again.ensures.added refl) (search rules) in
    subst (λ f. StandOver (held_after (file.first f) (file.done f)) stage c.read_at.new.self.len) (sym c.read_at.ensures.waits.file) again.0
