use Rattle.std.proofs.Common.{[], ◌∷◌, sym, ◌∙◌}
use Rattle.sled_disk.proofs.StagedDisks.TaskRuns.{on-ok}
use Rattle.sled_disk.proofs.StagedDisks.StagedReads.{overlaid-there}
use Rattle.sled_disk.proofs.disk.staged.doing.write_byte.Goals as goal

pub returns-then-branch-clause-written : goal.returns-then-branch-clause-written
returns-then-branch-clause-written g c = λ told.
    let seen = g.D.Disk.seen c.args.disk.now in
    on-ok _ c.write_again.result (c.write_again.ensures.seen told ∙ c.is_there.ensures.seen told ∙ sym (overlaid-there seen c.args.at (c.args.byte ∷ []) (c.in_ok-is_there.ensures.there told c.if-branch.true)))
