use Rattle.std.proofs.Common.{◌≡◌, subst}
use Rattle.sled_search.specs.Search.{HasNodeAt}
use Rattle.sled_tree.specs.Dropping.{LeadsOn}
use Rattle.sled_tree.specs.declared.freeing.Way.{Way}
use Rattle.sled_tree.specs.declared.freeing.Way.TheVariants as way
use Rattle.sled_tree.proofs.FreeingPages.{gathers-on, gathers-put}
use Rattle.sled_tree.proofs.OrderedReads.{read-done, read-fails, read-on}
use Rattle.sled_tree.proofs.freeing.gather.Goals as goal

pub returns-in_err-token : goal.returns-in_err-token
returns-in_err-token g c = read-fails g.L.Log c.turns.invariant c.from_residual.ensures.0 c.stop_at.ensures

pub returns-in_err-put : goal.returns-in_err-put
returns-in_err-put g c = read-fails g.L.Log c.turns.invariant c.from_residual-in_err-put.ensures.0 c.stop_at.ensures

pub returns-in-End : goal.returns-in-End
returns-in-End g c =
    let stop = c.in_ok-token.field-0 in
    read-done g.L.Log c.turns.invariant
    (λ pages a b. (gathers-put c.args.key.now c.args.root c.turns.at c.args.found.now.items c.turns.found.items c.put.new.found.items stop.token pages a b.token c.in_ok-put.ensures).1) c.in_ok-token.ensures

pub turns-preserved : goal.turns-preserved
turns-preserved g c =
    let key = c.args.key.now in
    let root = c.args.root in
    let at = c.turns.at in
    let before = c.args.found.now.items in
    let more = c.put.new.found.items in
    let stop = c.in_ok-token.field-0 in
    let way_is = c.in_ok-token.way-is in
    let on = c.in-On.is in
    let leads : stop.way ≡ way.On c.in-On.page = cc in
    read-on g.L.Log c.turns.invariant
    (λ pages a b. gathers-on key root at c.in-On.page before more pages (gathers-put key root at before c.turns.found.items more stop.token pages a b.token c.in_ok-put.ensures)
    (subst (λ (way : Way). HasNodeAt pages at (λ n. LeadsOn key n way)) leads b.way)) c.in_ok-token.ensures
