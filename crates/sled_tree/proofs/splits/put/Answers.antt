use Rattle.std.proofs.Common.{Ok, Err, None, refl, sym, ap, not, ◌∙◌}
use Rattle.sled_base.specs.declared.types.Error.{Error}
use Rattle.sled_base.specs.declared.types.Error.TheVariants.{Corruption}
use Rattle.sled_pagecache.specs.Rows.{IsMade}
use Rattle.sled_pagecache.specs.declared.pagecache.handles.call.Answer.TheVariants.{Replaced}
use Rattle.sled_pagecache.specs.declared.pagecache.handles.call.Call.TheVariants.{Replace}
use Rattle.sled_tree.proofs.Putting.{put-done, put-refused, put-err}
use Rattle.sled_tree.proofs.splits.put.Goals as goal

pub returns : goal.returns
returns g c =
    let said = c.in_ok-swapped.ensures in
    let made : IsMade g.L.Log c.args.cache.now (Replace c.args.token c.args.node) (Replaced (Ok c.in_ok-swapped.swapped)) c.replace.new.self =
    record { step = said.step; bytes = tt; faults = said.blame; covered = tt; keeps = said.keeps } in
    put-done g.L.Log {E = Error} c.args.token c.args.pid c.requires c.args.node (Ok tt) c.args.cache.now c.replace.new.self c.in_ok-swapped.swapped (c.is_err.ensures.negation ∙ ap not c.if-is_err.false) made refl

pub returns-then-is_err : goal.returns-then-is_err
returns-then-is_err g c =
    let said = c.in_ok-swapped.ensures in
    let made : IsMade g.L.Log c.args.cache.now (Replace c.args.token c.args.node) (Replaced (Ok c.in_ok-swapped.swapped)) c.replace.new.self =
    record { step = said.step; bytes = tt; faults = said.blame; covered = tt; keeps = said.keeps } in
    put-refused g.L.Log c.args.token c.args.pid c.requires c.args.node (Err (Corruption None)) c.args.cache.now c.replace.new.self c.in_ok-swapped.swapped (sym c.is_err.ensures.value ∙ c.if-is_err.true) made refl

pub returns-in_err-swapped : goal.returns-in_err-swapped
returns-in_err-swapped g c =
    let said = c.in_err-swapped.ensures in
    let made : IsMade g.L.Log c.args.cache.now (Replace c.args.token c.args.node) (Replaced (Err c.in_err-swapped.field-0.0)) c.replace.new.self =
    record { step = said.step; bytes = tt; faults = said.blame; covered = tt; keeps = said.keeps } in
    put-err g.L.Log c.args.token c.args.pid c.requires c.args.node c.from_residual.result c.args.cache.now c.replace.new.self c.in_err-swapped.field-0.0 made c.from_residual.ensures.0
