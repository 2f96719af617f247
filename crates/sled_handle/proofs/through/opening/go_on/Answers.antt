-- The store has what the opening makes.
use Rattle.std.proofs.Common.{rules, ◌∙◌}
use Rattle.sled_handle.proofs.OverBytes.{begun, opens, where_none}
use Rattle.sled_handle.proofs.through.opening.go_on.Goals as goal

pub returns-in-Some-clause-over : goal.returns-in-Some-clause-over
returns-in-Some-clause-over g c told config bytes over =
    let was = begun _ config bytes c.args.store.now c.in-Begun.opening (search rules) over in
    opens _ c.in-Begun.opening.config config bytes c.in_ok-cache.field-0 c.in-Some.cache was.0 c.in-Some.is (c.in_ok-cache.ensures.over told bytes was.1)

pub returns-in-None-clause-over : goal.returns-in-None-clause-over
returns-in-None-clause-over g c told config bytes over =
    let was = begun _ config bytes c.args.store.now c.in-Begun.opening (search rules) over in
    (c.in_ok-cache.ensures.config ∙ was.0, where_none c.in_ok-cache.field-0 c.in-None.is (c.in_ok-cache.ensures.waits told bytes was.1))
