use Rattle.sled_pagecache.proofs.Names.{ap, sym, ◌∙◌, inl, inr, refl, rules, Roots, Put, StampUsedUp, Err, Wrote, written-update, ◌+◌, changed_roots, roots_in, refused-is}
use Rattle.sled_node.proofs.ChangedRoots.{changed_map}
use Rattle.sled_pagecache.proofs.Roots.RootWrites.{same-page}
use Rattle.sled_pagecache.proofs.CacheLog.Writes.{makes-written, refuses-unasked, refuses-written}
use Rattle.sled_pagecache.specs.declared.pagecache.table.page_entry.PageContent.TheVariants as page_content
use Rattle.sled_pagecache.proofs.pagecache.write.root_page.swap_root.Goals as goal

pub returns : goal.returns
returns g c =
    let is = c.in-Roots.is ∙ ap page_content.Roots (sym c.as_mut-roots.ensures.roots) in
    let map = changed_map c.args.name.now c.args.root c.as_mut-roots.result.now c.len.ensures.map (search rules) (search rules) in
    let done = c.in_ok-info.ensures in
    rw is
    (makes-written g.L.Log (page_content.Roots (changed_roots c.args.name.now c.args.root c.as_mut-roots.result.now)) map (record { is = written-update (Put (Roots (changed_roots c.args.name.now c.args.root c.as_mut-roots.result.now))) map; writes = done.put.writes }) c.requires.there
    (search rules) c.keep_alone.ensures.stamp c.keep_alone.ensures.infos (c.keep_alone.ensures.kept ∙ ap page_content.Roots done.changed) refl done.put.accessed)

-- the stamp is the greatest
pub returns-then-page : goal.returns-then-page
returns-then-page g c =
    let is = c.in-Roots.is ∙ ap page_content.Roots (sym c.as_mut-roots.ensures.roots) in
    let roots = changed_roots c.args.name.now c.args.root (roots_in c.args.page.now.kept) in
    let map = changed_map c.args.name.now c.args.root (roots_in c.args.page.now.kept) (rw is c.len.ensures.map) c.requires.can (search rules) in
    refuses-unasked g.L.Log c.requires.ready.clear c.requires.ready.usable (search rules) StampUsedUp (λ is. cc) (written-update (Put (Roots roots)) map) (inl (c.if-page.true, refl)) (same-page _ _ _ _ (sym is))

-- the map could not be written
pub returns-in_err-info : goal.returns-in_err-info
returns-in_err-info g c =
    let is = c.in-Roots.is ∙ ap page_content.Roots (sym c.as_mut-roots.ensures.roots) in
    let refused = c.in_err-info.ensures in
    let roots = changed_roots c.args.name.now c.args.root (roots_in c.args.page.now.kept) in
    let wrote : Wrote g.L.Log c.args.writer.now.sticky_log c.put_changed.new.writer.sticky_log 0 (Put (Roots roots)) (c.args.page.now.stamp + 1) (Err c.in_err-info.field-0.0) =
    rw is (record { is = written-update (Put (Roots (changed_roots c.args.name.now c.args.root c.as_mut-roots.result.now))) (changed_map c.args.name.now c.args.root c.as_mut-roots.result.now c.len.ensures.map (search rules) (search rules)); writes = refused.put.writes }) in
    rw (refused-is c.from_residual.result _ c.from_residual.ensures.1) (refuses-written g.L.Log wrote (λ of. inr (c.if-page.false, of)) (same-page _ _ _ _ (ap page_content.Roots refused.left ∙ sym is)) refused.put.touched)
