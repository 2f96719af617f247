use Rattle.sled_pagecache.proofs.Names.{inl, inr, subst, sym, ◌+◌, ◌≡◌, [], ◌∷◌, length, ◌∙◌, refl, rules, arith, le-leb, effect_of_entry, now, Node, Put, message_of, written-update, PagesUsedUp, head_size, WasAccessed, capped_size, refused-is}
use Rattle.sled_pagecache.proofs.Memory.ResidentPages.{accessed-added}
use Rattle.sled_pagecache.proofs.Sizes.ChainSizes.{size-alone}
use Rattle.sled_pagecache.proofs.Table.NewPages.{made-new, has-one-more}
use Rattle.sled_pagecache.proofs.CacheLog.Writes.{refuses-memory, refuses-unasked, refuses-written}
use Rattle.sled_pagecache.proofs.pagecache.write.new_page.add_page.Goals as goal

pub write_node-requires-clause-can : goal.write_node-requires-clause-can
write_node-requires-clause-can g c = λ told.
    le-leb c.len-pid.result (length (now effect_of_entry (g.L.Log.state c.args.writer.now.sticky_log.log))) (let there = c.requires.there told in let at = c.len-pid.ensures.number in omega (arith, there, at))

-- there are as many pages as may be
pub returns-then-len-eq-MAX_PAGES : goal.returns-then-len-eq-MAX_PAGES
returns-then-len-eq-MAX_PAGES g c =
    refuses-unasked g.L.Log c.requires.ready.clear c.requires.ready.usable (g.met.L.Log.only_now c.args.writer.now.sticky_log.log) PagesUsedUp (λ is. cc) (written-update (Put (Node c.args.node)) c.data.ensures.well_formed) (inl (sym c.len.ensures.number ∙ c.if-len-eq-MAX_PAGES.true, refl)) refl

-- there was no memory for it
pub returns-in_default : goal.returns-in_default
returns-in_default g c =
    refuses-memory g.L.Log c.requires.ready.clear c.requires.ready.usable (g.met.L.Log.only_now c.args.writer.now.sticky_log.log) (written-update (Put (Node c.args.node)) c.data.ensures.well_formed) (inr ((λ all. c.if-len-eq-MAX_PAGES.false (c.len.ensures.number ∙ all)), tt)) c.reserve.ensures.same (inl refl)

-- there was none for the node
pub returns-in_default-new : goal.returns-in_default-new
returns-in_default-new g c =
    refuses-memory g.L.Log c.requires.ready.clear c.requires.ready.usable (g.met.L.Log.only_now c.args.writer.now.sticky_log.log) (written-update (Put (Node c.args.node)) c.data.ensures.well_formed) (inr ((λ all. c.if-len-eq-MAX_PAGES.false (c.len.ensures.number ∙ all)), tt)) c.reserve.ensures.same (inl refl)

-- the access was refused
pub returns-in_default-access : goal.returns-in_default-access
returns-in_default-access g c =
    refuses-memory g.L.Log c.requires.ready.clear c.requires.ready.usable (g.met.L.Log.only_now c.args.writer.now.sticky_log.log) (written-update (Put (Node c.args.node)) c.data.ensures.well_formed) (inr ((λ all. c.if-len-eq-MAX_PAGES.false (c.len.ensures.number ∙ all)), tt)) c.reserve.ensures.same (search rules)

-- the log refused it
pub returns-in_err-info : goal.returns-in_err-info
returns-in_err-info g c =
    let at : c.len-pid.result ≡ length c.args.pages.now.pages = c.len-pid.ensures.number in
    rw (refused-is c.from_residual.result _ c.from_residual.ensures.1, ← at, ← c.in-Ok-new.ensures.held)
    (refuses-written g.L.Log c.in_err-info.ensures (λ of. inr ((λ all. c.if-len-eq-MAX_PAGES.false (c.len.ensures.number ∙ sym at ∙ all)), of)) c.reserve.ensures.same (inr (_, c.in-Ok-access.ensures.accessed)))

pub returns : goal.returns
returns g c =
    let at : c.len-pid.result ≡ length c.args.pages.now.pages = c.len-pid.ensures.number in
    let wrote = c.in_ok-info.ensures.writes in
    let info = c.in_ok-info.info in
    let infos = c.one.result.items in
    let pages = c.push_reserved.new.self.pages in
    let held = c.in-Ok-new.held in
    let payload = length (message_of (Put (Node held))).payload in
    let takes : capped_size c.size_with.result ≡ capped_size (head_size + payload) = omega (arith, c.size_with.ensures, c.written_size-size.ensures) in
    let alone : infos ≡ info ∷ [] = c.one.ensures in
    let new = λ (told : g.L.Log.tells). made-new _ c.len-pid.result (at ∙ c.requires.there told) _ held info (wrote.chains told) _ refl alone c.in_ok-info.ensures.is in
    let page = has-one-more g.L.Log.tells _ held info c.args.pages.now.pages c.reserve.new.self.pages pages _ c.reserve.ensures.same c.push_reserved.ensures refl refl alone wrote.at (λ told. (new told).1) in
    let accessed = accessed-added c.args.writer.now.accesses c.access.new.self c.args.pages.now.pages c.reserve.new.self.pages pages _ c.len-pid.result at c.reserve.ensures.same c.push_reserved.ensures
    (subst (λ n. WasAccessed c.args.writer.now.accesses c.len-pid.result n c.access.new.self) (takes ∙ size-alone infos info payload alone wrote.size.0) c.in-Ok-access.ensures.accessed) in
    rw (← c.in-Ok-new.ensures.held) (record {
      is = c.in_ok-info.ensures.is;
      went = rw (← at) wrote.went;
      fault = wrote.cause.fault;
      reads = wrote.reads;
      sized = wrote.sized;
      others = λ told. rw (← at) (new told).0;
      page = rw (← at) page;
      room = λ all. c.if-len-eq-MAX_PAGES.false (c.len.ensures.number ∙ all);
      accessed = accessed;
    })
