use Rattle.std.proofs.Common.{Ok, Err, None, refl}
use Rattle.sled_base.specs.declared.types.Error.{Error}
use Rattle.sled_base.specs.declared.types.Error.TheVariants.{Corruption}
use Rattle.sled_node.specs.declared.node.link.Link.TheVariants.{Del}
use Rattle.sled_pagecache.specs.Rows.{IsMade}
use Rattle.sled_pagecache.specs.declared.pagecache.handles.call.Answer.TheVariants.{Linked}
use Rattle.sled_pagecache.specs.declared.pagecache.handles.call.Call.TheVariants.{Link}
use Rattle.sled_tree.proofs.Walking.{link-made, link-back, link-err}
use Rattle.sled_tree.proofs.place.delete.Goals as goal

pub returns-in-Ok-clause-links : goal.returns-in-Ok-clause-links
returns-in-Ok-clause-links g c =
    let place = c.args.place in
    let said = c.in_ok-link.ensures in
    let made : IsMade g.L.Log c.args.cache.now (Link place.token (Del c.args.place.stored)) (Linked (Ok (Ok c.in-Ok.field-0))) c.link.new.self =
    record { step = rw c.in-Ok.is at said.step; bytes = tt; faults = rw c.in-Ok.is at said.blame; covered = tt; keeps = rw c.in-Ok.is at said.keeps } in
    link-made g.L.Log {E = Error} place (Del c.args.place.stored) (Ok place.value) c.args.cache.now c.link.new.self c.in-Ok.field-0 made refl

pub returns-in-Err-clause-links : goal.returns-in-Err-clause-links
returns-in-Err-clause-links g c =
    let place = c.args.place in
    let said = c.in_ok-link.ensures in
    let made : IsMade g.L.Log c.args.cache.now (Link place.token (Del c.args.place.stored)) (Linked (Ok (Err c.in-Err.field-0))) c.link.new.self =
    record { step = rw c.in-Err.is at said.step; bytes = tt; faults = rw c.in-Err.is at said.blame; covered = tt; keeps = rw c.in-Err.is at said.keeps } in
    link-back g.L.Log place (Del c.args.place.stored) (Err (Corruption None)) c.args.cache.now c.link.new.self c.in-Err.field-0 made refl

pub returns-in_err-link-clause-links : goal.returns-in_err-link-clause-links
returns-in_err-link-clause-links g c =
    let place = c.args.place in
    let said = c.in_err-link.ensures in
    let made : IsMade g.L.Log c.args.cache.now (Link place.token (Del c.args.place.stored)) (Linked (Err c.in_err-link.field-0.0)) c.link.new.self =
    record { step = said.step; bytes = tt; faults = said.blame; covered = tt; keeps = said.keeps } in
    link-err g.L.Log place (Del c.args.place.stored) c.from_residual.result c.args.cache.now c.link.new.self c.in_err-link.field-0.0 made c.from_residual.ensures.0
