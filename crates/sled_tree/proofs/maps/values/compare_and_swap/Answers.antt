use Rattle.std.proofs.Common.{Option, Some, Err, refl, subst, sym}
use Rattle.std.specs.Option.{option_map}
use Rattle.sled_base.specs.Order.{Bytes}
use Rattle.sled_tree.specs.Maps.{ChangesMap, SwapsKey, root_of}
use Rattle.sled_tree.specs.Performs.{Performs}
use Rattle.sled_tree.specs.declared.error.TreeError.{TreeError}
use Rattle.sled_tree.specs.declared.error.TreeError.TheVariants.{ValueTooLong}
use Rattle.sled_tree.proofs.Keeping.{still-keeps}
use Rattle.sled_tree.proofs.Swapping.{swap-failed, swap-refused}
use Rattle.sled_tree.proofs.maps.values.compare_and_swap.Goals as goal

pub returns-then-len-gt-MAX_BYTES-clause-maps : goal.returns-then-len-gt-MAX_BYTES-clause-maps
returns-then-len-gt-MAX_BYTES-clause-maps g c =
    let here = c.args.cache.now in
    swap-refused g.L.Log TreeError (root_of c.args.tree) c.args.key.now (option_map (λ old. old.now) c.args.old) here here c.args.new (Err ValueTooLong) refl (still-keeps g.L.Log)

pub returns-in_err-set_where-clause-maps : goal.returns-in_err-set_where-clause-maps
returns-in_err-set_where-clause-maps g c =
    let root = root_of c.args.tree in
    let key = c.args.key.now in
    let old = option_map (λ old. old.now) c.args.old in
    let result = c.from_residual-in_err-set_where.result in
    let from = c.args.cache.now in
    let to = c.set_where.new.cache in
    subst (λ (new : Option Bytes). Performs g.L.Log (ChangesMap root (SwapsKey root key old new result)) from to) (sym c.in-Some.is)
    (swap-failed g.L.Log TreeError root key old from to (Some c.in-Some.value) c.in_err-set_where.field-0.0 result c.from_residual-in_err-set_where.ensures.0 c.in_err-set_where.ensures)
