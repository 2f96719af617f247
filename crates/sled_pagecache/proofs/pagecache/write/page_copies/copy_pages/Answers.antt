use Rattle.sled_pagecache.proofs.Names.{List, [], subst, sym, refl, arith, Chain, IsKept, Page, effect_of_entry, kept-at, now, past-end, refused-is, slice_index_or}
use Rattle.sled_pagecache.proofs.Rewrites.PageCopies.{copied-closed, copied-long, copied-none, copies-next, copies-refused, read-none, stable-done, stable-refused}
use Rattle.sled_pagecache.proofs.pagecache.write.page_copies.copy_pages.Goals as goal

pub loop-pid-init : goal.loop-pid-init
loop-pid-init g c =
    let old = c.args.sticky_log.now in
    let copy = c.args.copy.now in
    record {
      read = read-none g.L.Log old c.requires.ready.clear c.requires.ready.usable (g.met.L.Log.only_now old.log) 0 refl;
      copied = copied-none g.L.Log g.M.Log (now effect_of_entry (g.L.Log.state old.log)) copy (g.met.M.Log.only_now copy.log) c.requires.copy_ready c.requires.copy_usable;
    }

pub unreachable-requires : goal.unreachable-requires
unreachable-requires g c = let past = past-end {A = Page} c.args.pages.now.pages c.loop-pid.pid c.in_default.ensures in omega (arith, past, c.loop-pid-test.true, c.len-pid-end.ensures.number)

pub copy_page-requires-clause-kept : goal.copy_page-requires-clause-kept
copy_page-requires-clause-kept g c = λ known.
    let so_far = c.loop-pid.invariant.read in
    subst (λ (l : List Chain). IsKept (slice_index_or l c.loop-pid.pid []) c.in-Some.page.now) (sym (so_far.same known so_far.cause.fault))
    (kept-at _ c.args.pages.now.pages c.loop-pid.pid c.in-Some.page.now (c.requires.kept known) c.in-Some.ensures)

pub copy_page-requires-clause-next : goal.copy_page-requires-clause-next
copy_page-requires-clause-next g c = λ told. copied-long g.L.Log g.M.Log _ c.args.copy.now c.loop-pid.pid c.loop-pid.copy c.loop-pid.invariant.copied told (c.requires.empty told)

pub returns-in_err-copy_page : goal.returns-in_err-copy_page
returns-in_err-copy_page g c =
    let so_far = c.loop-pid.invariant in
    rw (refused-is c.from_residual.result _ c.from_residual.ensures.1)
    (copies-refused g.L.Log g.M.Log c.args.pages.now.pages c.args.sticky_log.now c.loop-pid.sticky_log c.copy_page.new.sticky_log c.args.copy.now c.loop-pid.copy c.copy_page.new.copy c.loop-pid.pid c.in-Some.page.now c.in-Some.ensures c.requires.kept so_far.read so_far.copied
    c.in_err-copy_page.field-0.0 c.in_err-copy_page.ensures)

pub loop-pid-preserved : goal.loop-pid-preserved
loop-pid-preserved g c =
    let so_far = c.loop-pid.invariant in
    let next =
    copies-next g.L.Log g.M.Log c.args.pages.now.pages c.args.sticky_log.now c.loop-pid.sticky_log c.copy_page.new.sticky_log c.args.copy.now c.loop-pid.copy c.copy_page.new.copy c.loop-pid.pid c.in-Some.page.now c.in-Some.ensures c.requires.kept so_far.read so_far.copied
    c.in_ok-copy_page.ensures in
    record { read = next.0; copied = next.1 }

pub make_stable-requires-clause-closed : goal.make_stable-requires-clause-closed
make_stable-requires-clause-closed g c = copied-closed g.L.Log g.M.Log _ c.args.copy.now c.loop-pid.pid c.loop-pid.copy c.loop-pid.invariant.copied c.requires.closed

pub returns-in_err-make_stable : goal.returns-in_err-make_stable
returns-in_err-make_stable g c =
    let so_far = c.loop-pid.invariant in
    let done = c.in_err-make_stable.ensures in
    rw (refused-is c.from_residual-in_err-make_stable.result _ c.from_residual-in_err-make_stable.ensures.1)
    (stable-refused g.L.Log g.M.Log c.args.pages.now.pages c.args.sticky_log.now c.loop-pid.sticky_log c.args.copy.now c.loop-pid.copy c.make_stable.new.self c.loop-pid.pid (omega (arith, c.loop-pid-test.false, c.loop-pid.auto.pid-end, c.len-pid-end.ensures.number)) c.requires.some
    so_far.read so_far.copied done.went c.in_err-make_stable.field-0.0 done.cause done.sound)

pub returns : goal.returns
returns g c =
    let so_far = c.loop-pid.invariant in
    let done = c.in_ok-make_stable.ensures in
    stable-done g.L.Log g.M.Log c.args.pages.now.pages c.args.sticky_log.now c.loop-pid.sticky_log c.args.copy.now c.loop-pid.copy c.make_stable.new.self c.loop-pid.pid (omega (arith, c.loop-pid-test.false, c.loop-pid.auto.pid-end, c.len-pid-end.ensures.number)) c.requires.some
    so_far.read so_far.copied done.went c.in_ok-make_stable.field-0 done.cause done.stable
