use Rattle.sled_disk.specs.StagedReads.{seen_in}
use Rattle.sled_disk.specs.Tasks.{tasks_in}
use Rattle.sled_disk.proofs.StagedDisks.StagedReads.{stands-after}
use Rattle.sled_disk.proofs.disk.staged.stage.Stage.take_in.Goals as goal

pub returns-clause-pieces : goal.returns-clause-pieces
returns-clause-pieces c file within stands pieces =
    let tasks = c.args.self.now.tasks in
    c.add.ensures (seen_in file tasks) pieces (stands-after c.args.at c.args.bytes.now (tasks_in tasks) file within (c.may_change.ensures c.if-may_change.false) stands)

pub returns-in_err-add-clause-pieces : goal.returns-in_err-add-clause-pieces
returns-in_err-add-clause-pieces c file within stands pieces =
    let tasks = c.args.self.now.tasks in
    c.add.ensures (seen_in file tasks) pieces (stands-after c.args.at c.args.bytes.now (tasks_in tasks) file within (c.may_change.ensures c.if-may_change.false) stands)
