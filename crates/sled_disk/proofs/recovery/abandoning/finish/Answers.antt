use Rattle.std.proofs.Common.{rules, ◌≡◌, ◌+◌, ◌<◌, ◌^◌, false, [], subst, arith}
use Rattle.std.specs.Prelude.{None}
use Rattle.sled_disk.specs.LogContents.{Stands}
use Rattle.sled_disk.specs.Abandoned.{abandoned_frame, IsReadTo}
use Rattle.sled_disk.specs.AbandonedLaws.{read-closed, same-means, none-stands, finish-means, finish-stands, finish-says}
use Rattle.sled_disk.specs.Crash.{IsShutOrOpened}
use Rattle.sled_disk.specs.RecoveredLog.{SameMeaning}
use Rattle.sled_disk.proofs.LogCalls.CallOutcomes.{at-rest}
use Rattle.sled_disk.proofs.Frames.WrittenFrame.{on_ok_map, left-so}
use Rattle.sled_disk.proofs.recovery.abandoning.finish.Goals as goal

pub abandon-requires-clause-closed : goal.abandon-requires-clause-closed
abandon-requires-clause-closed g c = λ told.
    let r = c.requires.read told in
    read-closed (g.D.Disk.seen c.args.disk.now) c.args.gate r.0 (λ i. g.met.D.Disk.are_bytes c.args.disk.now i told) c.args.begun r.1

pub returns-in-Some-clause-stands : goal.returns-in-Some-clause-stands
returns-in-Some-clause-stands g c = λ told.
    let d = c.args.disk.now in
    let small : c.in-Some.begun < 2 ^ 64 = search rules in
    rw c.in-Some.is (on_ok_map c.abandon.result (λ whole read to. finish-stands (g.D.Disk.seen d) c.args.gate read (λ i. g.met.D.Disk.are_bytes d i told) c.in-Some.begun small to (g.D.Disk.seen c.abandon.new.disk) whole) (c.abandon.ensures.written told))

pub returns-in-Some-clause-says : goal.returns-in-Some-clause-says
returns-in-Some-clause-says g c = λ told.
    let d = c.args.disk.now in
    let small : c.in-Some.begun < 2 ^ 64 = search rules in
    let r = c.requires.read told in
    on_ok_map c.abandon.result (λ whole. finish-says (g.D.Disk.seen d) c.args.gate r.0 (λ i. g.met.D.Disk.are_bytes d i told) c.in-Some.begun small (subst (λ b. IsReadTo (g.D.Disk.seen d) c.args.gate b r.0) c.in-Some.is r.1) (g.D.Disk.seen c.abandon.new.disk) whole) (c.abandon.ensures.written told)

pub returns-in-Some-clause-stop : goal.returns-in-Some-clause-stop
returns-in-Some-clause-stop g c = λ told.
    let d = c.args.disk.now in
    let small : c.in-Some.begun < 2 ^ 64 = search rules in
    let r = c.requires.read told in
    left-so (IsShutOrOpened c.args.gate (abandoned_frame c.in-Some.begun) (g.D.Disk.seen d)) (SameMeaning (g.D.Disk.seen d))
    (finish-means (g.D.Disk.seen d) c.args.gate r.0 (λ i. g.met.D.Disk.are_bytes d i told) c.in-Some.begun small (subst (λ b. IsReadTo (g.D.Disk.seen d) c.args.gate b r.0) c.in-Some.is r.1)) (c.abandon.ensures.stop told)

pub returns-in-None-clause-stands : goal.returns-in-None-clause-stands
returns-in-None-clause-stands g c = λ told read to.
    let d = c.args.disk.now in
    let closed = subst (λ b. IsReadTo (g.D.Disk.seen d) c.args.gate b read) c.in-None.is to in
    rw c.in-None.is (subst (λ n. Stands (g.D.Disk.seen d) n false [] None read.settled) (let same : c.args.gate ≡ c.args.gate + 0 = omega arith in same) (none-stands (g.D.Disk.seen d) c.args.gate read (λ i. g.met.D.Disk.are_bytes d i told) closed))

pub returns-in-None-clause-stop : goal.returns-in-None-clause-stop
returns-in-None-clause-stop g c = λ told.
    let d = c.args.disk.now in
    let r = c.requires.read told in
    left-so (λ bytes. bytes ≡ g.D.Disk.seen d) (SameMeaning (g.D.Disk.seen d)) (same-means (g.D.Disk.seen d) c.args.gate r.0 (λ i. g.met.D.Disk.are_bytes d i told) c.args.begun r.1)
    (at-rest g.D.Disk.seen g.D.Disk.may_leave g.D.Disk.moment g.D.Disk.left_since (λ disk left was. g.met.D.Disk.only_now disk left told was) d (c.requires.durable told))
