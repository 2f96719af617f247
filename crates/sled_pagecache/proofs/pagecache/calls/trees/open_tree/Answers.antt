use Rattle.sled_pagecache.proofs.Names.{refl, ⊤, GoesOn, MakesTree, refused-is}
use Rattle.sled_pagecache.proofs.Steps.TreeOpenings.{opens-none, opens-tree}
use Rattle.sled_pagecache.proofs.pagecache.calls.trees.open_tree.Goals as goal

pub returns-in_err-root-clause-opened : goal.returns-in_err-root-clause-opened
returns-in_err-root-clause-opened g c =
    let e = c.in_err-root.field-0.0 in
    rw (refused-is c.from_residual.result _ c.from_residual.ensures.1)
    (opens-none g.L.Log c.args.cache.now c.args.name g.met.L.Log.only_now (rw c.as_slice.ensures at c.in_err-root.ensures.looks) (refl, refl))

pub returns-in-Some-clause-opened : goal.returns-in-Some-clause-opened
returns-in-Some-clause-opened g c =
    let root = c.in-Some.root in
    opens-none g.L.Log c.args.cache.now c.args.name g.met.L.Log.only_now (rw (c.in-Some.is, c.as_slice.ensures) at c.in_ok-root.ensures.looks) (refl, refl)

pub returns-clause-opened : goal.returns-clause-opened
returns-clause-opened g c =
    let made : GoesOn g.L.Log c.args.cache.now (MakesTree ⊤ c.args.name c.make_tree.result) c.make_tree.result c.make_tree.new.cache = rw (← c.as_slice-2.ensures) c.make_tree.ensures.goes in
    opens-tree g.L.Log c.args.cache.now c.args.name g.met.L.Log.only_now (rw (c.in_default.is, c.as_slice.ensures) at c.in_ok-root.ensures.looks) made
