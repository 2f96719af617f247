use Rattle.sled_pagecache.proofs.Names.{not, ◌∷◌, ◌+◌, ◌++◌, [], length, inr, ap, subst, sym, ◌∙◌, refl, rules, Went-none, head_size, WasAccessed, arith}
use Rattle.sled_pagecache.proofs.Sizes.ChainSizes.{joined-size}
use Rattle.sled_pagecache.proofs.Links.LinkedChains.{page-full, page-joined, joined-update}
use Rattle.sled_pagecache.proofs.Links.LinkAppends.{few-join, joined-length, link-applied, link-refused}
use Rattle.sled_pagecache.specs.Inside.LinkWrites.{AcceptsAt}
use Rattle.sled_pagecache.specs.declared.pagecache.table.page_entry.PageContent.TheVariants as page_content
use Rattle.sled_pagecache.proofs.pagecache.write.page_link.join_link.Goals as goal

pub returns-in_default-reserve : goal.returns-in_default-reserve
returns-in_default-reserve g c =
    let none = Went-none g.L.Log c.args.writer.now.sticky_log c.requires.ready.usable (search rules) in
    let accepts = subst (λ held. AcceptsAt held c.args.link.now) c.in-Node.is c.requires.accepted in
    grind arith

pub returns-in_default-apply : goal.returns-in_default-apply
returns-in_default-apply g c =
    let none = Went-none g.L.Log c.args.writer.now.sticky_log c.requires.ready.usable (search rules) in
    let accepts = subst (λ held. AcceptsAt held c.args.link.now) c.in-Node.is c.requires.accepted in
    grind arith

pub returns-in_default-access : goal.returns-in_default-access
returns-in_default-access g c =
    let page = c.args.page.now in
    let accepts = subst (λ held. AcceptsAt held c.args.link.now) c.in-Node.is c.requires.accepted in
    let none = Went-none g.L.Log c.args.writer.now.sticky_log c.requires.ready.usable (g.met.L.Log.only_now c.args.writer.now.sticky_log.log) in
    let full = λ (told : g.L.Log.tells). page-full _ c.args.pid (c.requires.there told) page (c.requires.kept told) c.args.link.now c.in-Node.node c.apply.new.self c.in-Node.is accepts c.in-Ok-apply.ensures.applied in
    grind arith

pub write_link-requires-clause-can : goal.write_link-requires-clause-can
write_link-requires-clause-can g c = λ told. ap not (page-full _ c.args.pid (c.requires.there told) c.args.page.now (c.requires.kept told) c.args.link.now c.in-Node.node c.apply.new.self c.in-Node.is (subst (λ held. AcceptsAt held c.args.link.now) c.in-Node.is c.requires.accepted) c.in-Ok-apply.ensures.applied)

pub returns-in-Ok-write_link : goal.returns-in-Ok-write_link
returns-in-Ok-write_link g c =
    let page = c.args.page.now in
    let done = c.in-Ok-write_link in
    let writes = done.ensures.writes in
    let accepts = subst (λ held. AcceptsAt held c.args.link.now) c.in-Node.is c.requires.accepted in
    let applies = c.in-Ok-apply.ensures.applied in
    let infos = c.keep_also.ensures.infos ∙ ap (λ infos. infos ++ done.info ∷ []) c.reserve.ensures.items in
    let linked = λ (told : g.L.Log.tells). page-joined _ c.args.pid (c.requires.there told) page (c.requires.kept told) c.args.link.now c.in-Node.node c.apply.new.self c.in-Node.is accepts applies _ done.info (writes.chains told) c.keep_also.new.page done.ensures.is
    infos c.keep_also.ensures.kept in
    let accessed = subst (λ n. WasAccessed c.args.writer.now.accesses c.args.pid n c.access.new.self)
    (joined-size c.as_slice.result.now c.reserve.new.self.items c.keep_also.new.page.infos.items c.serialized_size-size.result c.total_size.result c.size_with-taken.result done.info c.as_slice.ensures c.total_size.ensures c.size_with-taken.ensures c.keep_also.ensures.infos (writes.size.0 ∙ ap (λ n. head_size + n) (sym c.serialized_size-size.ensures)))
    c.in-Ok-access.ensures.accessed in
    link-applied g.L.Log c.in-Node.is accepts c.requires.below (joined-update (length page.infos.items) c.args.link.now c.in-Node.node page.kept c.requires.few c.in-Node.is) (few-join _ c.requires.few) done.ensures linked c.keep_also.ensures.stamp
    (c.keep_also.ensures.kept ∙ ap (λ node. page_content.Node node) applies) (joined-length page.infos.items c.keep_also.new.page.infos.items done.info c.requires.few infos) accessed

pub returns-in-Err : goal.returns-in-Err
returns-in-Err g c =
    let page = c.args.page.now in
    let accepts = subst (λ held. AcceptsAt held c.args.link.now) c.in-Node.is c.requires.accepted in
    let full = λ (told : g.L.Log.tells). page-full _ c.args.pid (c.requires.there told) page (c.requires.kept told) c.args.link.now c.in-Node.node c.apply.new.self c.in-Node.is accepts c.in-Ok-apply.ensures.applied in
    link-refused g.L.Log c.in-Node.is accepts c.requires.below (joined-update (length page.infos.items) c.args.link.now c.in-Node.node page.kept c.requires.few c.in-Node.is) c.in-Err.refusal c.in-Err.ensures c.requires.kept full
    refl c.reserve.ensures.items refl (inr (_, c.in-Ok-access.ensures.accessed))
