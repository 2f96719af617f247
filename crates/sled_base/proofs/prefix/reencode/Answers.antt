use Rattle.sled_base.proofs.Prefixes.{cut_both}
use Rattle.sled_base.proofs.prefix.reencode.Goals as goal

pub returns-clause-ok : goal.returns-clause-ok
returns-clause-ok c =
    rw (← cut_both c.args.n c.args.prefix.now c.args.key.now c.min-front.result c.min-back.result c.min-front.ensures c.min-back.ensures) c.decode.ensures.ok
