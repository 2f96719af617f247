use Rattle.std.proofs.Common.{Ok, Err, subst}
use Rattle.sled_pagecache.specs.Cache.{Cache}
use Rattle.sled_pagecache.specs.Inside.MadeLaws.{flush-made}
use Rattle.sled_tree.specs.Maps.{FlushesMaps}
use Rattle.sled_tree.specs.declared.error.TreeError.{TreeError}
use Rattle.sled_tree.proofs.Marking.{flush-done, flush-refused}
use Rattle.sled_tree.proofs.trees.Trees.flush.Goals as goal

pub returns-clause-maps : goal.returns-clause-maps
returns-clause-maps g c =
    let old = c.self.inside.cache in
    let new = c.flush.new.self in
    let n = c.in_ok-flush.field-0 in
    let said = c.in_ok-flush.ensures in
    subst (λ (from : Cache g.row.L.Denot). FlushesMaps {E = TreeError} g.L.Log (Ok n) from new) c.self.view_is (flush-done g.L.Log TreeError n old new (flush-made g.L.Log old new (Ok n) said.step said.blame said.number said.stable said.keeps))

pub returns-in_err-flush-clause-maps : goal.returns-in_err-flush-clause-maps
returns-in_err-flush-clause-maps g c =
    let old = c.self.inside.cache in
    let new = c.flush.new.self in
    let e = c.in_err-flush.field-0.0 in
    let said = c.in_err-flush.ensures in
    let result = c.from_residual.result in
    subst (λ (from : Cache g.row.L.Denot). FlushesMaps g.L.Log result from new) c.self.view_is (flush-refused g.L.Log (Err e) result c.from_residual.ensures.0 old new (flush-made g.L.Log old new (Err e) said.step said.blame said.number said.stable said.keeps))
