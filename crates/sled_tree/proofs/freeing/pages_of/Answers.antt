use Rattle.sled_tree.proofs.OrderedReads.{read-done, read-fails, read-on}
use Rattle.sled_tree.proofs.freeing.pages_of.Goals as goal

pub returns-in_err-key : goal.returns-in_err-key
returns-in_err-key g c = read-fails g.L.Log c.leaves.invariant c.from_residual.ensures.0 c.gather.ensures

pub returns-then-is_empty : goal.returns-then-is_empty
returns-then-is_empty g c = read-done g.L.Log c.leaves.invariant (λ pages was more. more was) c.in_ok-key.ensures

pub leaves-preserved : goal.leaves-preserved
leaves-preserved g c = read-on g.L.Log c.leaves.invariant (λ pages was more. more was) c.in_ok-key.ensures
