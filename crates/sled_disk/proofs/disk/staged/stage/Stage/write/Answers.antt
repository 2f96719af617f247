use Rattle.std.proofs.Common.{◌≡◌, ◌<◌, ◌++◌, [], ◌∷◌, length, ap, rules}
use Rattle.sled_disk.specs.Disk.{overlaid}
use Rattle.sled_disk.specs.Journal.{Write}
use Rattle.sled_disk.specs.Tasks.{tasks_in}
use Rattle.sled_disk.proofs.StagedDisks.StagedReads.{same-overlaid, seen-write, still-write}
use Rattle.sled_disk.proofs.disk.staged.stage.Stage.write.Goals as goal

pub returns-clause-pieces : goal.returns-clause-pieces
returns-clause-pieces c seen le stand is =
    c.drop_between.ensures.stand seen (overlaid seen c.args.at c.args.bytes.now) stand (same-overlaid seen c.args.at c.args.bytes.now le)

pub returns-clause-written : goal.returns-clause-written
returns-clause-written c file is =
    let bytes = c.args.bytes.now in
    let old = tasks_in c.args.self.now.tasks in
    let new = tasks_in c.write.new.self in
    let added : 0 < length bytes → new ≡ old ++ Write c.args.at bytes ∷ [] = search rules in
    seen-write file old new c.args.at bytes added (λ none. ap tasks_in (c.write.ensures.empty none))

pub returns-clause-within : goal.returns-clause-within
returns-clause-within c file is within le =
    let bytes = c.args.bytes.now in
    let old = tasks_in c.args.self.now.tasks in
    let new = tasks_in c.write.new.self in
    let added : 0 < length bytes → new ≡ old ++ Write c.args.at bytes ∷ [] = search rules in
    still-write file old new c.args.at bytes added (λ none. ap tasks_in (c.write.ensures.empty none)) within le
