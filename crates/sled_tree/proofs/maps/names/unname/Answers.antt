use Rattle.std.proofs.Common.{None, Ok, Err, Some, refl}
use Rattle.sled_base.specs.declared.types.Error.{Error}
use Rattle.sled_base.specs.declared.types.Error.TheVariants.{Corruption}
use Rattle.sled_pagecache.specs.Rows.{IsMade}
use Rattle.sled_pagecache.specs.declared.pagecache.handles.call.Answer.TheVariants.{RootSwapped}
use Rattle.sled_pagecache.specs.declared.pagecache.handles.call.Call.TheVariants.{CasRoot}
use Rattle.sled_tree.proofs.DroppingNames.{unnames-back, unnames-failed, unnames-made}
use Rattle.sled_tree.proofs.maps.names.unname.Goals as goal

pub returns-in-Ok : goal.returns-in-Ok
returns-in-Ok g c =
    let said = c.in_ok-cas_root_in_meta.ensures in
    let old = c.args.cache.now in
    let new = c.cas_root_in_meta.new.self in
    let made : IsMade g.L.Log old (CasRoot c.args.name.now (Some c.args.root) None) (RootSwapped (Ok (Ok tt))) new =
    record { step = rw c.in-Ok.is at said.step; bytes = tt; faults = rw c.in-Ok.is at said.blame; covered = tt; keeps = rw c.in-Ok.is at said.keeps } in
    unnames-made g.L.Log c.args.name.now c.args.root old new (Ok (Ok tt)) made {E = Error} tt refl

pub returns-in-Err : goal.returns-in-Err
returns-in-Err g c =
    let said = c.in_ok-cas_root_in_meta.ensures in
    let old = c.args.cache.now in
    let new = c.cas_root_in_meta.new.self in
    let back = c.in-Err.field-0 in
    let made : IsMade g.L.Log old (CasRoot c.args.name.now (Some c.args.root) None) (RootSwapped (Ok (Err back))) new =
    record { step = rw c.in-Err.is at said.step; bytes = tt; faults = rw c.in-Err.is at said.blame; covered = tt; keeps = rw c.in-Err.is at said.keeps } in
    unnames-back g.L.Log c.args.name.now c.args.root old new (Ok (Err back)) made {T = Unit {0}} back (Corruption None) refl

pub returns-in_err-cas_root_in_meta : goal.returns-in_err-cas_root_in_meta
returns-in_err-cas_root_in_meta g c =
    let said = c.in_err-cas_root_in_meta.ensures in
    let old = c.args.cache.now in
    let new = c.cas_root_in_meta.new.self in
    let e = c.in_err-cas_root_in_meta.field-0.0 in
    let made : IsMade g.L.Log old (CasRoot c.args.name.now (Some c.args.root) None) (RootSwapped (Err e)) new =
    record { step = said.step; bytes = tt; faults = said.blame; covered = tt; keeps = said.keeps } in
    unnames-failed g.L.Log c.args.name.now c.args.root old new (Err e) made e c.from_residual.result c.from_residual.ensures.0 refl
