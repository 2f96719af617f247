use Rattle.sled_pagecache.proofs.Names.{rules, refl, arith, answer_to, refused-is, slice_get_within, Linked}
use Rattle.sled_pagecache.proofs.Memory.Eviction.{keeps-same}
use Rattle.sled_pagecache.proofs.Steps.TokenCheck.{link-swap, unswapped, unless-made, handed-back, fresh-at}
use Rattle.sled_pagecache.proofs.Links.LinkTests.{judged-tests, judged-undamaged}
use Rattle.sled_pagecache.proofs.Memory.PageIn.{page-kept-at, page-own-at}
use Rattle.sled_pagecache.proofs.Links.SettledLinks.{link-ended}
use Rattle.sled_pagecache.proofs.Roots.RootWrites.{on-err}
use Rattle.sled_pagecache.proofs.Table.StatePages.{beside-long}
use Rattle.sled_pagecache.specs.declared.pagecache.handles.call.Call.TheVariants as call
use Rattle.sled_pagecache.proofs.pagecache.calls.PageCache.link_alone.Goals as goal

pub returns-in_err-judge : goal.returns-in_err-judge
returns-in_err-judge g c =
    let rejection = c.in_err-judge.field-0.0 in
    let judged = c.in_err-judge.ensures in
    let answer = answer_to rejection c.args.link.now in
    let kept = unswapped g.L.Log _ _ _ _ _ _ c.self.invariant.whole.consistent.beside (g.met.L.Log.only_now _) c.args.old c.args.pid c.requires c.args.link.now (call.Link c.args.old c.args.link.now) Linked _ (link-swap g.L.Log _ c.args.old c.args.link.now) rejection judged answer refl in
    rw (refused-is c.from_residual.result _ c.from_residual.ensures.1, ← c.self.view_is) (record {
      links = record {
        step = kept.step;
        left = record {
          blame = kept.blame;
          keeps = kept.keeps;
          token = kept.token;
          resident = unless-made _ answer kept.unmade;
          accesses = unless-made _ answer kept.unmade;
          same = handed-back _ answer (keeps-same _);
          leaves = kept.leaves;
          bounded = c.self.invariant.bounded;
          unnamed = kept.unnamed;
        };
        tested = judged-tests g.L.Log _ _ _ _ _ _ _ _ c.self.invariant.whole.consistent c.args.old c.requires rejection judged c.args.link.now _;
        length = λ told. unless-made _ answer kept.unmade;
        reads = search rules;
        unread = handed-back _ answer refl;
        kept_out = on-err _ answer (λ away. away);
        damaged = λ meets stamp. absurd (judged-undamaged g.L.Log _ _ _ _ _ _ _ _ c.self.invariant.whole.consistent c.args.old rejection judged meets stamp);
      };
      joins = λ told. tt;
    })

pub get_mut-page-requires : goal.get_mut-page-requires
get_mut-page-requires g c = slice_get_within _ c.args.pid _ c.in_ok-judge.ensures.1.at

pub pull_and_link-linked-requires : goal.pull_and_link-linked-requires
pull_and_link-linked-requires g c =
    let inside = c.self.inside in
    let q = c.get_mut-page.result.now in
    let fresh = fresh-at c.in_ok-judge.ensures c.get_mut-page.ensures.page in
    let beside = c.self.invariant.whole.consistent.beside fresh.clear in
    record {
      ready = record { clear = fresh.clear; usable = beside.usable };
      there = λ told.
          let long = beside-long g.L.Log.tells g.L.Log.state inside.writer.sticky_log.log inside.pages.pages beside told in
          let within = slice_get_within inside.pages.pages c.args.pid q fresh.at in
          omega (arith, within, long);
      kept = page-kept-at g.L.Log inside.writer.sticky_log inside.writer.sticky_log inside.pages.pages inside.free.ids.keys c.args.pid q q c.self.invariant.whole.consistent fresh.clear fresh.behind fresh.at;
      full = fresh.full;
      own = page-own-at g.L.Log inside.writer.sticky_log inside.writer.sticky_log inside.pages.pages inside.free.ids.keys c.args.pid q q c.self.invariant.whole.consistent fresh.clear fresh.behind fresh.at;
    }

pub invariant_of-self : goal.invariant_of-self
invariant_of-self g c = (link-ended g.L.Log c.self.invariant (fresh-at c.in_ok-judge.ensures c.get_mut-page.ensures.page) c.requires c.pull_and_link-linked.new.page _ c.new-token.ensures c.pull_and_link-linked.result c.pull_and_link-linked.ensures c.end_link.ensures.evicts).0

pub returns : goal.returns
returns g c =
    rw (c.end_link.ensures.answer, ← c.self.view_is)
    (link-ended g.L.Log c.self.invariant (fresh-at c.in_ok-judge.ensures c.get_mut-page.ensures.page) c.requires c.pull_and_link-linked.new.page _ c.new-token.ensures c.pull_and_link-linked.result c.pull_and_link-linked.ensures c.end_link.ensures.evicts).1
