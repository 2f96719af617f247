use Rattle.std.proofs.Common.{rules, arith}
use Rattle.sled_shared.proofs.Replaying.{sound-first}
use Rattle.sled_shared.proofs.Replays.{kept_first}
use Rattle.sled_shared.proofs.held.Held.over.Goals as goal

pub invariant_of-result : goal.invariant_of-result
invariant_of-result g c =
    (sound-first g.L.Log g.K.Tally.known c.args.cache c.in-Ok.opening _ c.args.limit c.args.parts _ _ _ _ c.in-Ok.ensures c.requires.closed c.requires.known (search rules) (search rules) (search rules) (search rules) (search rules) (search rules) (omega arith), kept_first (search rules) (search rules) (search rules))
