use Rattle.std.proofs.Common.{Ok, Err, inr, refl}
use Rattle.sled_tree.proofs.ByName.{is-error}
use Rattle.sled_tree.proofs.named.set.Goals as goal

pub returns-in_err-tree-clause-maps : goal.returns-in_err-tree-clause-maps
returns-in_err-tree-clause-maps g c =
    let e = c.in_err-tree.field-0.0 in
    inr (record { opened = Err e; mid = c.tree_for.new.cache; opens = c.in_err-tree.ensures.maps; does = (is-error c.from_residual-in_err-tree.result e c.from_residual-in_err-tree.ensures.1, refl) })

pub returns-clause-maps : goal.returns-clause-maps
returns-clause-maps g c = inr (record { opened = Ok c.in_ok-tree.tree; mid = c.tree_for.new.cache; opens = c.in_ok-tree.ensures.maps; does = c.insert.ensures.maps })
