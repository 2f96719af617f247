use Rattle.std.proofs.Common.{arith}
use Rattle.sled_base.proofs.LinkedLists.Keeping.{live_within}
use Rattle.sled_base.proofs.dll.links.Links.packed.Goals as goal

pub some-requires : goal.some-requires
some-requires c =
    omega (arith, c.requires.kept.1.few, live_within _ _ _ c.requires.kept c.requires.live)
