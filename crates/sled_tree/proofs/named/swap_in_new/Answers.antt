use Rattle.std.proofs.Common.{◌≡◌, ◌∙◌, false, Ok, Err, refl, sym}
use Rattle.std.specs.Option.{is_some}
use Rattle.sled_tree.proofs.ByName.{is-error, swaps-new}
use Rattle.sled_tree.proofs.named.swap_in_new.Goals as goal

pub returns-in_err-tree-clause-maps : goal.returns-in_err-tree-clause-maps
returns-in_err-tree-clause-maps g c =
    let e = c.in_err-tree.field-0.0 in
    let new = c.tree_of_new.new.cache in
    let none : is_some c.args.old ≡ false = sym c.is_some.ensures ∙ c.if-is_some.false in
    swaps-new g.L.Log c.args.name.now c.args.key.now c.args.old (λ old. old.now) c.args.new c.in-Some.value none c.in-Some.is c.from_residual.result c.args.cache.now new
    (record { opened = Err e; mid = new; opens = c.in_err-tree.ensures.maps; does = (is-error c.from_residual.result e c.from_residual.ensures.1, refl) })

pub returns-clause-maps : goal.returns-clause-maps
returns-clause-maps g c =
    let new = c.compare_and_swap.new.cache in
    let none : is_some c.args.old ≡ false = sym c.is_some.ensures ∙ c.if-is_some.false in
    swaps-new g.L.Log c.args.name.now c.args.key.now c.args.old (λ old. old.now) c.args.new c.in-Some.value none c.in-Some.is c.compare_and_swap.result c.args.cache.now new
    (record { opened = Ok c.in_ok-tree.tree; mid = c.tree_of_new.new.cache; opens = c.in_ok-tree.ensures.maps; does = c.compare_and_swap.ensures.maps })
