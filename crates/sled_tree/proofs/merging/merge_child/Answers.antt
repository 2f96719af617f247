use Rattle.std.proofs.Common.{sym, subst}
use Rattle.sled_pagecache.specs.Cache.{Cache}
use Rattle.sled_search.specs.Maps.{HasTree}
use Rattle.sled_tree.specs.Maps.{Keeps}
use Rattle.sled_tree.specs.Performs.{Performs}
use Rattle.sled_tree.specs.Walks.{HasRoot}
use Rattle.sled_tree.proofs.Keeping.{keeps-and, reads-keep}
use Rattle.sled_tree.proofs.merging.merge_child.Goals.{then-not-branch+in_ok-merge-2, else-not-branch}
use Rattle.sled_tree.proofs.merging.merge_child.Goals as goal

pub returns-in_err-merge : goal.returns-in_err-merge
returns-in_err-merge g c = keeps-and g.L.Log (reads-keep g.L.Log c.sides_at.ensures) c.merge.ensures

pub returns-in_err-merge-2 : goal.returns-in_err-merge-2
returns-in_err-merge-2 g c = keeps-and g.L.Log (keeps-and g.L.Log (reads-keep g.L.Log c.sides_at.ensures) c.merge.ensures) c.merge-then-not-branch.ensures

pub returns : goal.returns
returns g c =
    let old = c.args.cache.now in
    let first : Performs g.L.Log (Keeps (HasRoot c.args.way.root)) old c.merge.new.cache =
    keeps-and g.L.Log {If = λ w. HasTree w.maps c.args.way.root} (reads-keep g.L.Log c.sides_at.ensures) c.merge.ensures in
    elim c.if-not-branch.branch [
      | then-not-branch+in_ok-merge-2 w ↦ subst (λ (cache : Cache g.row.L.Denot). Performs g.L.Log (Keeps (HasRoot c.args.way.root)) old cache) (sym w.cache-is) (keeps-and g.L.Log first w.merge-then-not-branch.ensures)
      | else-not-branch w ↦ subst (λ (cache : Cache g.row.L.Denot). Performs g.L.Log (Keeps (HasRoot c.args.way.root)) old cache) (sym w.cache-is) first
    ]
