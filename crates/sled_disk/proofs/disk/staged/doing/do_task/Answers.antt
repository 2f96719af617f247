use Rattle.std.proofs.Common.{ap, subst, sym, ◌∙◌}
use Rattle.sled_disk.specs.StagedReads.{AddsTask}
use Rattle.sled_disk.specs.Staged.{holds}
use Rattle.sled_disk.proofs.StagedDisks.TaskRuns.{done-task, left-none, left-task}
use Rattle.sled_disk.proofs.disk.staged.doing.do_task.Goals as goal

pub returns-in_default-clause-left : goal.returns-in_default-clause-left
returns-in_default-clause-left g c = λ told tells is.
    left-none g.D.Disk c.args.staged.now c.args.disk.now c.args.disk.now is c.next_task.new.self (c.next_task.ensures.first told) (c.in_default.ensures.untold told)

pub returns-in-Ok-clause-done : goal.returns-in-Ok-clause-done
returns-in-Ok-clause-done g c = λ told tells is.
    done-task g.D.Disk c.args.staged.now c.args.disk.now c.apply.new.disk is c.next_task.new.self (c.next_task.ensures.first told) c.in-Some.task c.next_task.new.into (c.in-Some.ensures.told told) (c.apply.ensures.leaves tells)
    (c.in-Ok.ensures.did tells) (c.in-Ok.ensures.durable tells)

pub returns-in-Ok-clause-left : goal.returns-in-Ok-clause-left
returns-in-Ok-clause-left g c = λ told tells is.
    left-task g.D.Disk c.args.staged.now c.args.disk.now c.apply.new.disk is c.next_task.new.self (c.next_task.ensures.first told) c.in-Some.task c.next_task.new.into (c.in-Some.ensures.told told) (c.apply.ensures.leaves tells)

pub returns-in-Err-clause-left : goal.returns-in-Err-clause-left
returns-in-Err-clause-left g c = λ told tells is.
    let file = g.F.CallersFile in
    let old = c.args.staged.now in
    let same = c.fail.ensures.fails.file in
    left-task g.D.Disk old c.args.disk.now c.apply.new.disk is c.fail.new.self (ap file.first same ∙ c.next_task.ensures.first told) c.in-Some.task c.next_task.new.into
    (subst (λ f. AddsTask (holds old) c.in-Some.task c.next_task.new.into (file.done old.file) (file.done f)) (sym same) (c.in-Some.ensures.told told)) (c.apply.ensures.leaves tells)
