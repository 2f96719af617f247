-- The store has the opening that went on.
use Rattle.std.proofs.Common.{rules, ◌∙◌}
use Rattle.sled_handle.proofs.OverBytes.{begun}
use Rattle.sled_handle.proofs.through.opening.read_on.Goals as goal

pub returns-then-branch-clause-over : goal.returns-then-branch-clause-over
returns-then-branch-clause-over g c told config bytes over =
    let was = begun _ config bytes c.args.store.now c.in-Begun.opening (search rules) over in
    (c.in_ok-read_log.ensures.config ∙ was.0, c.in_ok-read_log.ensures.over told bytes was.1)

pub returns-else-branch-clause-over : goal.returns-else-branch-clause-over
returns-else-branch-clause-over g c told config bytes over =
    let was = begun _ config bytes c.args.store.now c.in-Begun.opening (search rules) over in
    (c.in_ok-read_log.ensures.config ∙ was.0, c.in_ok-read_log.ensures.over told bytes was.1)
