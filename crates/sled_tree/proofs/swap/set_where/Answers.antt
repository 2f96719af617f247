use Rattle.std.proofs.Common.{◌∙◌, Some, Err}
use Rattle.std.specs.Option.{option_map}
use Rattle.sled_base.specs.declared.types.Error.{Error}
use Rattle.sled_tree.proofs.Changing.{inserted}
use Rattle.sled_tree.proofs.Swapping.{swap-other, swap-set, swap-set-failed}
use Rattle.sled_tree.proofs.swap.set_where.Goals as goal

pub returns-then-not-is_value : goal.returns-then-not-is_value
returns-then-not-is_value g c =
    swap-other g.L.Log Error c.args.root c.args.key.now (option_map (λ old. old.now) c.args.old) c.args.cache.now c.room_for.new.cache (Some c.args.value) c.in_ok-place.place
    (c.is_value.ensures.other c.if-not-is_value.true) c.in_ok-place.ensures

pub returns-in_err-set : goal.returns-in_err-set
returns-in_err-set g c =
    let old = c.args.cache.now in
    let new = c.set.new.cache in
    let e = c.in_err-set.field-0.0 in
    swap-set-failed g.L.Log Error c.args.root c.args.key.now (option_map (λ old. old.now) c.args.old) old new c.args.value e c.from_residual-in_err-set.result c.from_residual-in_err-set.ensures.0
    (inserted g.L.Log {E = Error} {result = Err e} tt c.in_ok-place.ensures c.in_err-set.ensures.links)

pub returns : goal.returns
returns g c =
    let old = c.args.cache.now in
    let new = c.set.new.cache in
    swap-set g.L.Log Error c.args.root c.args.key.now (option_map (λ old. old.now) c.args.old) old new Error c.args.value c.in_ok-set.field-0 (c.in_ok-set.ensures.before ∙ c.is_value.ensures.same c.if-not-is_value.false)
    (inserted g.L.Log {E = Error} c.in_ok-set.ensures.before c.in_ok-place.ensures c.in_ok-set.ensures.links)
