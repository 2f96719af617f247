use Rattle.std.proofs.Common.{◌≡◌, Ok, subst}
use Rattle.std.specs.Global.{Vec}
use Rattle.std.specs.Prelude.{IfOk}
use Rattle.sled_base.specs.Order.{Bytes}
use Rattle.sled_node.specs.Meta as meta
use Rattle.sled_pagecache.specs.Answers.{Keeps}
use Rattle.sled_pagecache.specs.Calls.{Steps}
use Rattle.sled_pagecache.specs.Lending.{lent_meta}
use Rattle.sled_pagecache.specs.declared.pagecache.handles.call.Answer.TheVariants.{GotMeta}
use Rattle.sled_pagecache.specs.declared.pagecache.handles.call.Call.TheVariants.{GetMeta}
use Rattle.sled_tree.specs.Dropping.{names_of}
use Rattle.sled_tree.proofs.DroppingNames.{reads-names}
use Rattle.sled_tree.proofs.maps.names.listed.Goals as goal

pub returns-in-Ok : goal.returns-in-Ok
returns-in-Ok g c =
    let here = c.args.cache.now in
    let view = c.in-Ok.view in
    let step : Steps g.L.Log here GetMeta (GotMeta (lent_meta (Ok view))) here = rw c.in-Ok.is at c.get_meta.ensures.step in
    let keeps : Keeps here here (lent_meta (Ok view)) (λ _. here.stamps) = rw c.in-Ok.is at c.get_meta.ensures.keeps in
    reads-names g.L.Log here (λ names answer. answer.items ≡ names_of names) view step keeps c.names_in.result
    (subst (λ (names : meta.Roots). IfOk c.names_in.result (λ (answer : Vec Bytes). answer.items ≡ names_of names)) c.meta.ensures c.names_in.ensures)
