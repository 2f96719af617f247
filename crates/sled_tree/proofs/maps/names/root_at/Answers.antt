use Rattle.std.proofs.Common.{◌≡◌, ◌∙◌, ℕ, Ok, Option, ap}
use Rattle.sled_base.specs.declared.types.Error.{Error}
use Rattle.sled_node.specs.Meta as meta
use Rattle.sled_pagecache.specs.Answers.{Keeps}
use Rattle.sled_pagecache.specs.Calls.{Steps}
use Rattle.sled_pagecache.specs.Lending.{lent_meta}
use Rattle.sled_pagecache.specs.declared.pagecache.handles.call.Answer.TheVariants.{GotMeta}
use Rattle.sled_pagecache.specs.declared.pagecache.handles.call.Call.TheVariants.{GetMeta}
use Rattle.sled_tree.proofs.DroppingNames.{reads-names}
use Rattle.sled_tree.proofs.maps.names.root_at.Goals as goal

pub returns-in-Ok : goal.returns-in-Ok
returns-in-Ok g c =
    let here = c.args.cache.now in
    let view = c.in-Ok.view in
    let step : Steps g.L.Log here GetMeta (GotMeta (lent_meta (Ok view))) here = rw c.in-Ok.is at c.get_meta.ensures.step in
    let keeps : Keeps here here (lent_meta (Ok view)) (λ _. here.stamps) = rw c.in-Ok.is at c.get_meta.ensures.keeps in
    reads-names g.L.Log here {T = Option ℕ} {E = Error} (λ names root. root ≡ meta.root_of c.args.name.now names) view step keeps (Ok c.get_root.result)
    (c.get_root.ensures ∙ ap (λ (names : meta.Roots). meta.root_of c.args.name.now names) c.meta.ensures)
