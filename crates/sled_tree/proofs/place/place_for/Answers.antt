use Rattle.std.proofs.Common.{refl}
use Rattle.sled_tree.proofs.OrderedReads.{first-fails, read-ends, read-first}
use Rattle.sled_tree.proofs.place.place_for.Goals as goal

pub returns-in-Leaf : goal.returns-in-Leaf
returns-in-Leaf g c = read-ends g.L.Log (read-first g.L.Log (rw c.in-Leaf.is at c.in_ok-place.ensures)) (λ pages is. is)

pub returns-in_default : goal.returns-in_default
returns-in_default g c = first-fails g.L.Log refl c.seek.ensures

pub returns-in_err-place : goal.returns-in_err-place
returns-in_err-place g c = first-fails g.L.Log c.from_residual.ensures.0 c.seek.ensures
