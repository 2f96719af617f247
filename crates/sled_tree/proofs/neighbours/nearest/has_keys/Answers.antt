use Rattle.std.proofs.Common.{◌≡◌, ◌⊎◌, inl, inr, [], refl}
use Rattle.std.specs.declared.ops.Bound.{Bound}
use Rattle.std.specs.declared.ops.Bound.TheVariants.{Included, Unbounded}
use Rattle.sled_base.specs.Order.{Bytes}
use Rattle.sled_node.specs.Neighbours.{IsBefore}
use Rattle.sled_search.proofs.Separated.{never-below}
use Rattle.sled_tree.proofs.neighbours.nearest.has_keys.Goals as goal

least-before : (bound : Bound Bytes) → ((key : Bytes) × (bound ≡ Included key)) ⊎ (bound ≡ Unbounded) → IsBefore bound []
least-before bound (inl (key, is)) = rw is (never-below key)
least-before bound (inr is) = rw is tt

pub returns-in-Included : goal.returns-in-Included
returns-in-Included c = (λ _. least-before c.args.bound.now c.in-Included.is, λ _. refl)
