use Rattle.sled_pagecache.proofs.Names.{ℕ, Option, Result, Ok, Err, refl, refused-is}
use Rattle.sled_pagecache.proofs.Steps.TreeOpenings.{ends-with, same-fault}
use Rattle.sled_pagecache.proofs.pagecache.calls.trees.name_root.Goals as goal

pub returns-in_err-cas_root_in_meta-clause-goes : goal.returns-in_err-cas_root_in_meta-clause-goes
returns-in_err-cas_root_in_meta-clause-goes g c =
    let e = c.in_err-cas_root_in_meta.field-0.0 in
    let done = c.in_err-cas_root_in_meta.ensures in
    rw (refused-is c.from_residual.result _ c.from_residual.ensures.1)
    (ends-with g.L.Log c.requires (record { step = done.step; bytes = tt; faults = done.blame; covered = tt; keeps = done.keeps }) done.unread done.leaves done.bounded (Err e, refl, refl) done.keeps (same-fault (Result (Unit {0}) (Option ℕ)) ℕ e) done.keeps.refused)

pub returns-in-Ok-clause-goes : goal.returns-in-Ok-clause-goes
returns-in-Ok-clause-goes g c =
    let done = rw c.in-Ok.is at c.in_ok-cas_root_in_meta.ensures in
    ends-with g.L.Log c.requires (record { step = done.step; bytes = tt; faults = done.blame; covered = tt; keeps = done.keeps }) done.unread done.accesses done.bounded (Ok (Ok c.in-Ok.field-0), refl, refl) done.keeps refl done.keeps.done

pub returns-in-Err-clause-goes : goal.returns-in-Err-clause-goes
returns-in-Err-clause-goes g c =
    let done = rw c.in-Err.is at c.in_ok-cas_root_in_meta.ensures in
    ends-with g.L.Log c.requires (record { step = done.step; bytes = tt; faults = done.blame; covered = tt; keeps = done.keeps }) done.unread done.same done.bounded (Ok (Err c.in-Err.field-0), refl, (tt, refl)) done.keeps refl done.keeps.done
