use Rattle.sled_pagecache.proofs.Names.{le-leb, effect_of_entry, now, ◌+◌, length, inr, ap, subst, sym, ◌∙◌, refl, rules, Went-none, head_size, WasAccessed, arith}
use Rattle.sled_pagecache.proofs.Sizes.ChainSizes.{capped-total, size-alone}
use Rattle.sled_pagecache.proofs.Links.LinkedChains.{page-full, page-put, put-update}
use Rattle.sled_pagecache.proofs.Links.LinkAppends.{many-are-put, put-length, link-applied, link-refused}
use Rattle.sled_pagecache.specs.Inside.LinkWrites.{AcceptsAt}
use Rattle.sled_pagecache.specs.declared.pagecache.table.page_entry.PageContent.TheVariants as page_content
use Rattle.sled_pagecache.proofs.pagecache.write.page_link.put_linked.Goals as goal

pub returns-in_default-apply : goal.returns-in_default-apply
returns-in_default-apply g c =
    let none = Went-none g.L.Log c.args.writer.now.sticky_log c.requires.ready.usable (search rules) in
    let accepts = subst (λ held. AcceptsAt held c.args.link.now) c.in-Node.is c.requires.accepted in
    grind arith

pub returns-in_default-access : goal.returns-in_default-access
returns-in_default-access g c =
    let page = c.args.page.now in
    let accepts = subst (λ held. AcceptsAt held c.args.link.now) c.in-Node.is c.requires.accepted in
    let none = Went-none g.L.Log c.args.writer.now.sticky_log c.requires.ready.usable (g.met.L.Log.only_now c.args.writer.now.sticky_log.log) in
    let full = λ (told : g.L.Log.tells). page-full _ c.args.pid (c.requires.there told) page (c.requires.kept told) c.args.link.now c.in-Node.node c.apply.new.self c.in-Node.is accepts c.in-Ok.ensures.applied in
    grind arith

pub write_node-requires-clause-can : goal.write_node-requires-clause-can
write_node-requires-clause-can g c = λ told. le-leb c.args.pid (length (now effect_of_entry (g.L.Log.state c.args.writer.now.sticky_log.log))) (let there = c.requires.there told in omega (arith, there))

pub returns-in-Ok-write_node : goal.returns-in-Ok-write_node
returns-in-Ok-write_node g c =
    let page = c.args.page.now in
    let done = c.in-Ok-write_node in
    let writes = done.ensures.writes in
    let accepts = subst (λ held. AcceptsAt held c.args.link.now) c.in-Node.is c.requires.accepted in
    let applies = c.in-Ok.ensures.applied in
    let linked = λ (told : g.L.Log.tells). page-put _ c.args.pid (c.requires.there told) page (c.requires.kept told) c.args.link.now c.in-Node.node c.apply.new.self c.in-Node.is accepts applies _ done.info (writes.chains told) c.keep_alone.new.page done.ensures.is
    c.keep_alone.ensures.infos c.keep_alone.ensures.kept in
    let accessed = subst (λ n. WasAccessed c.args.writer.now.accesses c.args.pid n c.access.new.self)
    (capped-total (head_size + c.written_size-size.result) c.size_with.result c.size_with.ensures ∙ size-alone c.keep_alone.new.page.infos.items done.info c.written_size-size.result c.keep_alone.ensures.infos (writes.size.0 ∙ ap (λ n. head_size + n) (sym c.written_size-size.ensures.value)))
    c.in-Ok-access.ensures.accessed in
    link-applied g.L.Log c.in-Node.is accepts c.requires.below (put-update (length page.infos.items) c.args.link.now c.in-Node.node c.apply.new.self page.kept c.requires.many applies c.in-Node.is) (many-are-put _ c.requires.many) done.ensures linked c.keep_alone.ensures.stamp
    (c.keep_alone.ensures.kept ∙ ap (λ node. page_content.Node node) applies) (put-length page.infos.items c.keep_alone.new.page.infos.items done.info c.requires.many c.keep_alone.ensures.infos) accessed

pub returns-in-Err : goal.returns-in-Err
returns-in-Err g c =
    let page = c.args.page.now in
    let accepts = subst (λ held. AcceptsAt held c.args.link.now) c.in-Node.is c.requires.accepted in
    let applies = c.in-Ok.ensures.applied in
    let full = λ (told : g.L.Log.tells). page-full _ c.args.pid (c.requires.there told) page (c.requires.kept told) c.args.link.now c.in-Node.node c.apply.new.self c.in-Node.is accepts applies in
    link-refused g.L.Log c.in-Node.is accepts c.requires.below (put-update (length page.infos.items) c.args.link.now c.in-Node.node c.apply.new.self page.kept c.requires.many applies c.in-Node.is) c.in-Err.refusal c.in-Err.ensures c.requires.kept full
    refl refl refl (inr (_, c.in-Ok-access.ensures.accessed))
