use Rattle.std.proofs.Common.{List, ℕ, Err, sym, ◌∙◌, ap, subst}
use Rattle.sled_disk.specs.Format.{Describes}
use Rattle.sled_disk.proofs.LogCalls.UnchangedMeaning.{rests-and-mean}
use Rattle.sled_disk.proofs.Disks.UnchangedCrashStates.{still-then, still-read, rests-still}
use Rattle.sled_disk.proofs.log.DiskLog.open.Goals as goal

pub returns-in-Ok-open_with-clause-any_moment : goal.returns-in-Ok-open_with-clause-any_moment
returns-in-Ok-open_with-clause-any_moment g c =
    rests-and-mean (λ disk t u left told le was. g.met.D.Disk.since_earlier disk t u left told le was) c.args.disk c.make_durable.new.disk c.in-Ok-open_with.log.disk
    (rests-still g.D.Disk.tells g.D.Disk.may_leave g.D.Disk.moment g.D.Disk.left_since g.D.Disk.seen c.args.disk c.make_durable.new.disk (λ told. c.in_default.ensures.seen told ∙ c.in-Ok.ensures.rests.same told)
    (still-then g.D.Disk.tells g.D.Disk.may_leave g.D.Disk.moment g.D.Disk.left_since c.args.disk c.read_whole.new.disk c.make_durable.new.disk
    (still-read g.D.Disk.tells g.D.Disk.may_leave g.D.Disk.moment g.D.Disk.left_since g.D.Disk.seen c.args.disk c.read_whole.new.disk c.in-Ok.ensures.rests) c.make_durable.ensures.stays)) c.in-Ok-open_with.ensures.any_moment

pub returns-in-Err-clause-corrupt : goal.returns-in-Err-clause-corrupt
returns-in-Err-clause-corrupt g c = λ told is. c.in-Err.ensures.corrupt told (ap (λ e. Err e) is)

pub returns-clause-corrupt : goal.returns-clause-corrupt
returns-clause-corrupt g c = λ told is events described.
    c.in-Err-open_with.ensures.corrupt told is events
    (subst (λ (l : List ℕ). Describes l events) (sym (c.in_default.ensures.seen told ∙ c.in-Ok.ensures.rests.same told)) described)

pub returns-clause-left : goal.returns-clause-left
returns-clause-left g c =
    rests-and-mean (λ disk t u left told le was. g.met.D.Disk.since_earlier disk t u left told le was) c.args.disk c.make_durable.new.disk c.in-Err-open_with.disk
    (rests-still g.D.Disk.tells g.D.Disk.may_leave g.D.Disk.moment g.D.Disk.left_since g.D.Disk.seen c.args.disk c.make_durable.new.disk (λ told. c.in_default.ensures.seen told ∙ c.in-Ok.ensures.rests.same told)
    (still-then g.D.Disk.tells g.D.Disk.may_leave g.D.Disk.moment g.D.Disk.left_since c.args.disk c.read_whole.new.disk c.make_durable.new.disk
    (still-read g.D.Disk.tells g.D.Disk.may_leave g.D.Disk.moment g.D.Disk.left_since g.D.Disk.seen c.args.disk c.read_whole.new.disk c.in-Ok.ensures.rests) c.make_durable.ensures.stays)) c.in-Err-open_with.ensures.left

pub returns-clause-unwritten : goal.returns-clause-unwritten
returns-clause-unwritten g c = λ no_fault.
    still-then g.D.Disk.tells g.D.Disk.may_leave g.D.Disk.moment g.D.Disk.left_since c.args.disk c.make_durable.new.disk c.in-Err-open_with.disk
    (still-then g.D.Disk.tells g.D.Disk.may_leave g.D.Disk.moment g.D.Disk.left_since c.args.disk c.read_whole.new.disk c.make_durable.new.disk
    (still-read g.D.Disk.tells g.D.Disk.may_leave g.D.Disk.moment g.D.Disk.left_since g.D.Disk.seen c.args.disk c.read_whole.new.disk c.in-Ok.ensures.rests) c.make_durable.ensures.stays)
    (still-read g.D.Disk.tells g.D.Disk.may_leave g.D.Disk.moment g.D.Disk.left_since g.D.Disk.seen c.make_durable.new.disk c.in-Err-open_with.disk (c.in-Err-open_with.ensures.only_read no_fault))
