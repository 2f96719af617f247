-- `==` on the pairs of a node holds exactly if they are the same.
use Rattle.std.specs.Prelude.{◌≡◌}
use Rattle.std.proofs.Common.{ap}
use Rattle.std.specs.Bool.{Decides}
use Rattle.sled_node.specs.contracts.node.data.DataPartialEq.TheImpl as equal
use Rattle.sled_node.specs.declared.node.data.Data.{Data}
use Rattle.sled_node.specs.declared.node.data.Data.TheVariants.{Leaf, Index}
use Rattle.sled_node.specs.Equality.{leaf_Decides, index_Decides}

pub data_Decides : (v w : Data) → Decides (equal.ghosts.eq v w) (v ≡ w)
data_Decides (Leaf xs) (Leaf ys) = let same = leaf_Decides xs ys in (λ h. ap Leaf (same.0 h), λ e. same.1 cc)
data_Decides (Index xs) (Index ys) = let same = index_Decides xs ys in (λ h. ap Index (same.0 h), λ e. same.1 cc)
data_Decides (Leaf xs) (Index ys) = (λ h. absurd cc, λ e. absurd cc)
data_Decides (Index xs) (Leaf ys) = (λ h. absurd cc, λ e. absurd cc)
