use Rattle.sled_pagecache.specs.Inside.MadeLaws.{id-made}
use Rattle.sled_tree.proofs.Numbering.{id-keeps}
use Rattle.sled_tree.proofs.Performing.{from-same}
use Rattle.sled_tree.proofs.trees.Trees.generate_id.Goals as goal

pub returns-clause-maps : goal.returns-clause-maps
returns-clause-maps g c =
    let said = c.generate_id_inner.ensures in
    from-same g.L.Log c.self.view_is (id-keeps g.L.Log (id-made g.L.Log _ _ _ said.step said.blame said.covered said.keeps said.id said.gives))

pub returns-in_err-generate_id_inner-clause-maps : goal.returns-in_err-generate_id_inner-clause-maps
returns-in_err-generate_id_inner-clause-maps g c =
    let said = c.generate_id_inner.ensures in
    from-same g.L.Log c.self.view_is (id-keeps g.L.Log (id-made g.L.Log _ _ _ said.step said.blame said.covered said.keeps said.id said.gives))
