use Rattle.sled_tree.proofs.FreeingPages.{freed}
use Rattle.sled_tree.proofs.freeing.free.Goals as goal

pub returns : goal.returns
returns g c = freed g.L.Log c.args.cache.now c.free.new.self c.args.page c.free.result (record { step = c.free.ensures.step; bytes = tt; faults = c.free.ensures.blame; covered = tt; keeps = c.free.ensures.keeps })
