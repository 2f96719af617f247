use Rattle.sled_pagecache.proofs.Names.{ℕ, Token, [], Ok, Err, inr, refl, ⊤, NamesRoot, PutsIndex, index_over, refused-is}
use Rattle.sled_pagecache.proofs.Steps.TreeOpenings.{ends-with, goes-on, same-fault}
use Rattle.sled_pagecache.proofs.pagecache.calls.trees.put_index.Goals as goal

pub returns-in_err-root-clause-goes : goal.returns-in_err-root-clause-goes
returns-in_err-root-clause-goes g c =
    let e = c.in_err-root.field-0.0 in
    let done = c.in_err-root.ensures in
    rw (refused-is c.from_residual-in_err-root.result _ c.from_residual-in_err-root.ensures.1)
    (ends-with g.L.Log c.requires.clear
    (record { step = rw c.in_ok-index.ensures at done.step; bytes = tt; faults = done.blame; covered = tt; keeps = done.keeps }) done.unread done.leaves done.bounded (inr (Err e, [], refl, (refl, refl))) done.keeps (same-fault (ℕ × Token) ℕ e) done.keeps.refused)

pub returns-clause-goes : goal.returns-clause-goes
returns-clause-goes g c =
    let made : ℕ × Token = (c.in_ok-root.root, c.in_ok-root.field-0-1) in
    let done = c.in_ok-root.ensures in
    let result = c.name_root.result in
    goes-on g.L.Log c.args.cache.now c.allocate.new.self c.name_root.new.cache (index_over c.args.leaf) made result (NamesRoot ⊤ c.args.name.now result made.0) (PutsIndex ⊤ c.args.name.now result c.args.leaf)
    (record { step = rw c.in_ok-index.ensures at done.step; bytes = tt; faults = done.blame; covered = tt; keeps = done.keeps }) done.unread (done.accesses, done.resident) c.name_root.ensures.goes (λ calls are. inr (Ok made, calls, refl, are))
