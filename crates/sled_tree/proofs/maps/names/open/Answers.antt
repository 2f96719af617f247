use Rattle.std.proofs.Common.{Ok, Err, subst}
use Rattle.sled_base.specs.Order.{Bytes}
use Rattle.sled_tree.specs.Maps.{root_of}
use Rattle.sled_tree.specs.Names.{OpensMap}
use Rattle.sled_tree.specs.Performs.{Performs}
use Rattle.sled_tree.specs.declared.error.TreeError.{TreeError}
use Rattle.sled_tree.specs.declared.trees.Tree.{Tree}
use Rattle.sled_tree.proofs.Opening.{opened, opens-failed, opens-none, opens-ok}
use Rattle.sled_tree.proofs.maps.names.open.Goals as goal

pub returns-clause-maps : goal.returns-clause-maps
returns-clause-maps g c =
    let root = c.in_ok-root.root in
    let old = c.args.cache.now in
    let new = c.open_tree.new.cache in
    let tree : Tree = record { root = root } in
    let name = c.in_ok-name.name in
    subst (λ (n : Bytes). Performs g.L.Log (OpensMap {E = TreeError} root_of n (Ok tree)) old new) c.in_ok-name.ensures.ok
    (opens-ok g.L.Log {E = TreeError} root_of name tree old new (opened g.L.Log name (Ok root) old new c.in_ok-root.ensures.opened))

pub returns-in_err-root-clause-maps : goal.returns-in_err-root-clause-maps
returns-in_err-root-clause-maps g c =
    let e = c.in_err-root.field-0.0 in
    let old = c.args.cache.now in
    let new = c.open_tree.new.cache in
    let name = c.in_ok-name.name in
    let result = c.from_residual-in_err-root.result in
    subst (λ (n : Bytes). Performs g.L.Log (OpensMap root_of n result) old new) c.in_ok-name.ensures.ok
    (opens-failed g.L.Log root_of name result c.from_residual-in_err-root.ensures.0 e old new (opened g.L.Log name (Err e) old new c.in_err-root.ensures.opened))

pub returns-in_err-name-clause-maps : goal.returns-in_err-name-clause-maps
returns-in_err-name-clause-maps g c = opens-none g.L.Log root_of c.args.name.now c.from_residual.result c.from_residual.ensures.0 c.args.cache.now
