use Rattle.sled_pagecache.proofs.Names.{ℕ, Token, [], Ok, Err, refl, ⊤, empty_leaf, MakesTree, PutsIndex, refused-is}
use Rattle.sled_pagecache.proofs.Steps.TreeOpenings.{ends-with, goes-on, same-fault}
use Rattle.sled_pagecache.proofs.pagecache.calls.trees.make_tree.Goals as goal

pub returns-in_err-leaf-clause-goes : goal.returns-in_err-leaf-clause-goes
returns-in_err-leaf-clause-goes g c =
    let e = c.in_err-leaf.field-0.0 in
    let done = c.in_err-leaf.ensures in
    rw (refused-is c.from_residual.result _ c.from_residual.ensures.1)
    (ends-with g.L.Log c.requires
    (record { step = rw c.default-node.ensures at done.step; bytes = tt; faults = done.blame; covered = tt; keeps = done.keeps }) done.unread done.leaves done.bounded (Err e, [], refl, (refl, refl)) done.keeps (same-fault (ℕ × Token) ℕ e) done.keeps.refused)

pub returns-clause-goes : goal.returns-clause-goes
returns-clause-goes g c =
    let made : ℕ × Token = (c.in_ok-leaf.leaf, c.in_ok-leaf.field-0-1) in
    let done = c.in_ok-leaf.ensures in
    let result = c.put_index.result in
    goes-on g.L.Log c.args.cache.now c.allocate.new.self c.put_index.new.cache empty_leaf made result (PutsIndex ⊤ c.args.name.now result made.0) (MakesTree ⊤ c.args.name.now result)
    (record { step = rw c.default-node.ensures at done.step; bytes = tt; faults = done.blame; covered = tt; keeps = done.keeps }) done.unread (done.accesses, done.resident) c.put_index.ensures.goes (λ calls are. (Ok made, calls, refl, are))
