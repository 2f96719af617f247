use Rattle.std.proofs.Common.{ℕ, List, sym, ◌∙◌, subst}
use Rattle.sled_disk.specs.Disk.{Only}
use Rattle.sled_disk.proofs.Frames.FrameWrite.{behind_gate, behind_all}
use Rattle.sled_disk.proofs.format.frame.write_frame.Goals as goal

pub returns-in_err-write_at-2-clause-stop : goal.returns-in_err-write_at-2-clause-stop
returns-in_err-write_at-2-clause-stop g c = λ told.
    let d = c.args.disk.now in
    let d1 = c.write_at.new.self in
    let d2 = c.sync.new.self in
    let is = c.in_ok-sync.ensures.seen told ∙ c.in_ok-write_at.ensures.written told in
    let kept = subst (λ (bytes : List ℕ). Only bytes (g.D.Disk.may_leave d2)) (sym (c.in_ok-sync.ensures.seen told)) (c.in_ok-sync.ensures.durable told) in
    behind_gate g.D.Disk.seen g.D.Disk.may_leave g.D.Disk.moment g.D.Disk.left_since (λ disk left was. g.met.D.Disk.only_now disk left told was) d c.args.gate c.args.frame.now (c.requires.closed told) (c.requires.durable told)
    d1 (c.write_at.ensures.stop told) (c.write_at.ensures.time told) d2 (c.sync.ensures.stop told) (c.sync.ensures.time told) is kept c.write_at-2.new.self (c.write_at-2.ensures.stop told) (c.write_at-2.ensures.time told)

pub returns-clause-stop : goal.returns-clause-stop
returns-clause-stop g c = λ told.
    let d = c.args.disk.now in
    let d1 = c.write_at.new.self in
    let d2 = c.sync.new.self in
    let is = c.in_ok-sync.ensures.seen told ∙ c.in_ok-write_at.ensures.written told in
    let kept = subst (λ (bytes : List ℕ). Only bytes (g.D.Disk.may_leave d2)) (sym (c.in_ok-sync.ensures.seen told)) (c.in_ok-sync.ensures.durable told) in
    behind_all g.D.Disk.seen g.D.Disk.may_leave g.D.Disk.moment g.D.Disk.left_since (λ disk left was. g.met.D.Disk.only_now disk left told was) d c.args.gate c.args.frame.now (c.requires.closed told) (c.requires.durable told)
    d1 (c.write_at.ensures.stop told) (c.write_at.ensures.time told) d2 (c.sync.ensures.stop told) (c.sync.ensures.time told) is kept c.write_at-2.new.self (c.write_at-2.ensures.stop told) (c.write_at-2.ensures.time told)
    c.sync-2.new.self (c.sync-2.ensures.stop told) (c.sync-2.ensures.time told)
