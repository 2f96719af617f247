-- A pair that is too long is refused before anything is allocated, as the call on the map would refuse it.
use Rattle.std.proofs.Common.{inr, [], Option, Err, subst}
use Rattle.std.specs.Option.{option_map}
use Rattle.std.specs.Prelude.{unwrap_or}
use Rattle.sled_base.specs.Order.{Bytes}
use Rattle.sled_tree.specs.ByName.{SwapsIn}
use Rattle.sled_tree.specs.Errors.{IsOfPair}
use Rattle.sled_handle.proofs.MapAnswers.{swaps-refused}
use Rattle.sled_handle.proofs.calls.maps.values.cas.Goals as goal

pub returns-in-Err : goal.returns-in-Err
returns-in-Err g c =
    swaps-refused g.L.Log c.args.cache.now c.args.name.now c.args.key.now (option_map (λ old. old.now) c.args.old) (option_map (λ new. new.now) c.args.new) c.in-Err.error c.status_of_tree.result c.in-Err.ensures
    c.status_of_tree.ensures

pub returns : goal.returns
returns g c =
    let had = option_map (λ old. old.now) c.args.old in
    let key = c.args.key.now in
    let e = c.in-Err-swap.error in
    inr (
      Err e,
      subst (λ (value : Option Bytes). SwapsIn g.L.Log c.args.name.now key had value (Err e) c.args.cache.now c.swap.new.cache) c.in-Ok.ensures c.in-Err-swap.ensures.maps,
      subst (λ (value : Option Bytes). IsOfPair key (unwrap_or value []) e) c.in-Ok.ensures c.in-Err-swap.ensures.errors,
      c.status_of_tree-in-Err-swap.ensures,
    )
