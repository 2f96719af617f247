use Rattle.std.proofs.Common.{refl}
use Rattle.sled_node.proofs.Inserts.{stands_has, gap_misses}
use Rattle.sled_node.proofs.node.data.has_key.Goals as goal

pub returns-in-Ok : goal.returns-in-Ok
returns-in-Ok c = (λ yes. stands_has c.args.key.now c.args.pairs.now c.in-Ok.field-0 c.requires c.in-Ok.ensures.found, λ there. refl)

pub returns-in-Err : goal.returns-in-Err
returns-in-Err c = (λ yes. absurd cc, λ there. absurd (gap_misses c.args.key.now c.args.pairs.now c.in-Err.field-0 c.in-Err.ensures.missing there))
