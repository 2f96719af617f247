use Rattle.sled_pagecache.proofs.Names.{[], List, subst, sym, arith, AllZip-long, Chain, IsKept, effect_of_entry, kept-at, now, refused-is, slice_get_within, slice_index_or, take_all}
use Rattle.sled_pagecache.proofs.Sizes.Measurements.{next-read, read-more, read-refused, weighs-more}
use Rattle.sled_pagecache.specs.Inside.Measurements.{IsSizeOf, RefusesAway, Weighs}
use Rattle.sled_pagecache.proofs.pagecache.memory.page_sizes.total_rss.Goals as goal

pub page_rss-requires-clause-kept : goal.page_rss-requires-clause-kept
page_rss-requires-clause-kept g c = λ known.
    let so_far = c.loop-pid.invariant.read in
    subst (λ (l : List Chain). IsKept (slice_index_or l c.loop-pid.pid []) c.in-Some.page.now) (sym (so_far.same known so_far.cause.fault))
    (kept-at _ c.args.pages.now.pages c.loop-pid.pid c.in-Some.page.now (c.requires.kept known) c.in-Some.ensures)

pub returns-in_err-total-clause-read : goal.returns-in_err-total-clause-read
returns-in_err-total-clause-read g c =
    rw (refused-is c.from_residual.result _ c.from_residual.ensures.1)
    (read-refused g.L.Log c.args.sticky_log.now c.loop-pid.sticky_log c.page_rss.new.sticky_log _ _ _ c.loop-pid.invariant.read _ c.in_err-total.ensures.read
    (next-read c.args.pages.now.pages c.loop-pid.pid c.in-Some.page.now c.in-Some.ensures).1)

pub returns-in_err-total-clause-refused : goal.returns-in_err-total-clause-refused
returns-in_err-total-clause-refused g c = λ known.
    let so_far = c.loop-pid.invariant.read in
    rw (refused-is c.from_residual.result _ c.from_residual.ensures.1)
    (c.loop-pid.pid, c.in-Some.page.now, c.in-Some.ensures, subst (λ (l : List Chain). RefusesAway (slice_index_or l c.loop-pid.pid []) c.in-Some.page.now c.in_err-total.field-0.0) (so_far.same known so_far.cause.fault) (c.in_err-total.ensures.refused known))

pub loop-pid-preserved : goal.loop-pid-preserved
loop-pid-preserved g c =
    let so_far = c.loop-pid.invariant in
    let pages = c.args.pages.now.pages in
    let pid = c.loop-pid.pid in
    let chains = now effect_of_entry (g.L.Log.state c.args.sticky_log.now.log) in
    let next = next-read pages pid c.in-Some.page.now c.in-Some.ensures in
    record {
      read = read-more g.L.Log c.args.sticky_log.now c.loop-pid.sticky_log c.page_rss.new.sticky_log _ _ _ so_far.read c.in_ok-total.ensures.read next.0;
      weighs = λ known.
          let long = AllZip-long IsKept chains pages (c.requires.kept known) in
          let within = slice_get_within pages pid c.in-Some.page.now c.in-Some.ensures in
          weighs-more chains pid c.loop-pid.total c.in_ok-total.field-0 (omega (arith, long, within)) (so_far.weighs known)
          (subst (λ (l : List Chain). IsSizeOf (slice_index_or l pid []) c.in_ok-total.field-0) (so_far.read.same known so_far.read.cause.fault) (c.in_ok-total.ensures.size known));
      few = omega (arith, so_far.few);
    }

pub returns-clause-total : goal.returns-clause-total
returns-clause-total g c = λ known.
    let chains = now effect_of_entry (g.L.Log.state c.args.sticky_log.now.log) in
    let long = AllZip-long IsKept chains c.args.pages.now.pages (c.requires.kept known) in
    subst (λ (l : List Chain). Weighs l c.loop-pid.total) (take_all c.loop-pid.pid chains (omega (arith, long, c.loop-pid-test.false, c.len-pid-end.ensures.number))) (c.loop-pid.invariant.weighs known)
