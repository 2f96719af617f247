use Rattle.std.proofs.Common.{◌≡◌, ◌∙◌, Option, None, Some, Ok, Err, ap, not, sym, subst}
use Rattle.std.specs.Option.{option_map}
use Rattle.sled_base.specs.Order.{Bytes}
use Rattle.sled_base.specs.declared.types.Error.{Error}
use Rattle.sled_tree.specs.Maps.{ChangesMap, TakesKey}
use Rattle.sled_tree.specs.Performs.{Performs}
use Rattle.sled_tree.proofs.Changing.{absent, deleted, none-of, some-of}
use Rattle.sled_tree.proofs.MergingPages.{takes-then}
use Rattle.sled_tree.proofs.Swapping.{swap-differs, swap-none, swap-take, swap-take-failed}
use Rattle.sled_tree.proofs.swap.take_where.Goals as goal

pub returns-then-not-is_value : goal.returns-then-not-is_value
returns-then-not-is_value g c =
    swap-differs g.L.Log Error c.args.root c.args.key.now (option_map (λ old. old.now) c.args.old) c.args.cache.now c.place_for.new.cache None c.in_ok-place.place
    (c.is_value.ensures.other c.if-not-is_value.true) c.in_ok-place.ensures

pub returns-then-is_none : goal.returns-then-is_none
returns-then-is_none g c =
    let place = c.in_ok-place.place in
    let old = c.args.cache.now in
    let new = c.place_for.new.cache in
    let none = none-of place.value (c.is_none.ensures ∙ ap not c.if-is_none.true) in
    swap-none g.L.Log Error c.args.root c.args.key.now (option_map (λ old. old.now) c.args.old) old new Error (sym (c.is_value.ensures.same c.if-not-is_value.false) ∙ none)
    (absent g.L.Log Error none c.in_ok-place.ensures)

pub returns-in_err-delete : goal.returns-in_err-delete
returns-in_err-delete g c =
    let place = c.in_ok-place.place in
    let old = c.args.cache.now in
    let new = c.delete.new.cache in
    let e = c.in_err-delete.field-0.0 in
    let some = some-of place.value (c.is_none.ensures ∙ ap not c.if-is_none.false) in
    swap-take-failed g.L.Log Error c.args.root c.args.key.now (option_map (λ old. old.now) c.args.old) old new some.0 (sym (c.is_value.ensures.same c.if-not-is_value.false) ∙ some.1) e c.from_residual-in_err-delete.result c.from_residual-in_err-delete.ensures.0
    (deleted g.L.Log {E = Error} {result = Err e} tt some.1 c.in_ok-place.ensures c.in_err-delete.ensures.links)

pub returns : goal.returns
returns g c =
    let root = c.args.root in
    let key = c.args.key.now in
    let old = c.args.cache.now in
    let mid = c.delete.new.cache in
    let new = c.merge_few.new.cache in
    let some = some-of c.in_ok-place.place.value (c.is_none.ensures ∙ ap not c.if-is_none.false) in
    let had : c.in_ok-delete.field-0 ≡ Some some.0 = c.in_ok-delete.ensures.before ∙ some.1 in
    let taken : Performs g.L.Log (ChangesMap root (TakesKey {E = Error} root key (Ok (Some some.0)))) old mid =
    subst (λ (o : Option Bytes). Performs g.L.Log (ChangesMap root (TakesKey {E = Error} root key (Ok o))) old mid) had
    (deleted g.L.Log {E = Error} c.in_ok-delete.ensures.before some.1 c.in_ok-place.ensures c.in_ok-delete.ensures.links) in
    swap-take g.L.Log Error root key (option_map (λ old. old.now) c.args.old) old new Error some.0 (sym (c.is_value.ensures.same c.if-not-is_value.false) ∙ some.1)
    (takes-then g.L.Log Error root key some.0 old mid new taken c.merge_few.ensures)
