use Rattle.sled_pagecache.proofs.Names.{slice_get, get_or_from_slice_get, ◌≡◌, [], length, refl, sym, ◌∙◌, ap, arith, slice_get_within, count_after, own_among, refused-is, zip-second, other-at, past-end, IsLoaded, Roots, Counter}
use Rattle.sled_pagecache.proofs.CacheLog.LogCalls.{proceeds-then}
use Rattle.sled_pagecache.proofs.Memory.ReadCounts.{own-is, read-then}
use Rattle.sled_pagecache.proofs.Opening.RecoveredPages.{if-some}
use Rattle.sled_pagecache.proofs.Opening.OpenedPages.{read-page, found-first, found-both, own-refuses}
use Rattle.sled_pagecache.proofs.pagecache.open.start.read_system_pages.Goals as goal

pub returns-in_err-roots-clause-refused : goal.returns-in_err-roots-clause-refused
returns-in_err-roots-clause-refused g c = λ told.
    rw (refused-is c.from_residual.result _ c.from_residual.ensures.1)
    (own-refuses 0 _ c.args.pages.now.pages c.in_err-roots.field-0.0 c.requires.recovered told (slice_get_within _ 0 _ c.in-Some.ensures) (λ before lt. absurd (omega (arith, lt))) (c.in_err-roots.ensures.refused told))

pub read_counter-requires-clause-loaded : goal.read_counter-requires-clause-loaded
read_counter-requires-clause-loaded g c = λ told.
    rw (c.in_ok-roots.ensures.same told c.in_ok-roots.ensures.proceeds.fault) (zip-second IsLoaded _ c.args.pages.now.pages 1 _ [] (c.requires.recovered.kept told) (sym (other-at _ 0 1 _ (omega arith)) ∙ c.in-Some-get.ensures))

pub get_mut-requires-2 : goal.get_mut-requires-2
get_mut-requires-2 g c = slice_get_within _ 1 _ c.in-Some-get.ensures

pub returns-in_default-get-clause-read : goal.returns-in_default-get-clause-read
returns-in_default-get-clause-read g c =
    let pages = c.args.pages.now.pages in
    read-page _ pages 0 c.get_mut.result.now _ (Roots c.in_ok-roots.roots) tt c.get_mut.ensures.page c.requires.recovered c.in_ok-roots.ensures.read refl refl (λ chain makes. makes) _
    (found-first pages _ (omega (arith, past-end pages 1 (sym (other-at pages 0 1 _ (omega arith)) ∙ c.in_default-get.ensures))) tt)

pub returns-in_err-n-clause-proceeds : goal.returns-in_err-n-clause-proceeds
returns-in_err-n-clause-proceeds g c =
    rw (refused-is c.from_residual-in_err-n.result _ c.from_residual-in_err-n.ensures.1) (proceeds-then g.L.Log c.args.sticky_log.now c.read_roots.new.sticky_log c.read_counter.new.sticky_log [] [] _ c.in_ok-roots.ensures.proceeds c.in_err-n.ensures.proceeds)

pub returns-in_err-n-clause-refused : goal.returns-in_err-n-clause-refused
returns-in_err-n-clause-refused g c = λ told.
    rw (refused-is c.from_residual-in_err-n.result _ c.from_residual-in_err-n.ensures.1)
    (own-refuses 1 _ c.args.pages.now.pages c.in_err-n.field-0.0 c.requires.recovered told (slice_get_within _ 1 _ (sym (other-at _ 0 1 _ (omega arith)) ∙ c.in-Some-get.ensures))
    (λ before lt. if-some (slice_get _ before) (λ chain at. grind (arith, c.in_ok-roots.ensures.read told, get_or_from_slice_get _ before chain [] at)))
    (rw (c.in_ok-roots.ensures.same told c.in_ok-roots.ensures.proceeds.fault) at (c.in_err-n.ensures.refused told)))

pub returns-clause-proceeds : goal.returns-clause-proceeds
returns-clause-proceeds g c =
    proceeds-then g.L.Log c.args.sticky_log.now c.read_roots.new.sticky_log c.read_counter.new.sticky_log [] [] _ c.in_ok-roots.ensures.proceeds c.in_ok-n.ensures.proceeds

pub returns-clause-read : goal.returns-clause-read
returns-clause-read g c =
    let pages = c.args.pages.now.pages in
    let roots = c.in_ok-roots.ensures in
    read-page _ _ 1 c.get_mut-2.result.now _ (Counter c.in_ok-n.n) tt c.get_mut-2.ensures.page
    (read-page _ pages 0 c.get_mut.result.now _ (Roots c.in_ok-roots.roots) tt c.get_mut.ensures.page c.requires.recovered roots.read refl refl (λ chain makes. makes) (λ _. Unit {0}) tt)
    (λ told. rw (roots.same told roots.proceeds.fault) at (c.in_ok-n.ensures.read told)) refl refl (λ chain makes. makes) _
    (found-both pages _ _ c.in_ok-n.n (slice_get_within _ 1 _ (sym (other-at pages 0 1 _ (omega arith)) ∙ c.in-Some-get.ensures)) c.requires.recovered.hold tt refl)

pub returns-in_err-roots-clause-reads : goal.returns-in_err-roots-clause-reads
returns-in_err-roots-clause-reads g c =
    let n = length c.args.pages.now.pages in
    rw (refused-is c.from_residual.result _ c.from_residual.ensures.1) (read-then g.L.Log.counts c.args.sticky_log.now.log c.args.sticky_log.now.log c.read_roots.new.sticky_log.log 0 1 (own_among n) c.in_err-roots.field-0.0 _
    (omega (arith, own-is n, slice_get_within _ 0 _ c.in-Some.ensures)) refl c.in_err-roots.ensures.reads)

pub returns-in_err-n-clause-reads : goal.returns-in_err-n-clause-reads
returns-in_err-n-clause-reads g c =
    let n = length c.args.pages.now.pages in
    rw (refused-is c.from_residual-in_err-n.result _ c.from_residual-in_err-n.ensures.1)
    (read-then g.L.Log.counts c.args.sticky_log.now.log c.read_roots.new.sticky_log.log c.read_counter.new.sticky_log.log 1 1 (own_among n) c.in_err-n.field-0.0 _
    (omega (arith, own-is n, slice_get_within c.args.pages.now.pages 1 _ (sym (other-at _ 0 1 _ (omega arith)) ∙ c.in-Some-get.ensures))) c.in_ok-roots.ensures.reads.whole c.in_err-n.ensures.reads)

pub returns-clause-reads : goal.returns-clause-reads
returns-clause-reads g c =
    let pages = c.args.pages.now.pages in
    let two : 2 ≡ own_among (length pages) = omega (arith, own-is (length pages), slice_get_within pages 1 _ (sym (other-at _ 0 1 _ (omega arith)) ∙ c.in-Some-get.ensures)) in
    record { whole = c.in_ok-n.ensures.reads.whole ∙ ap (count_after 1) c.in_ok-roots.ensures.reads.whole ∙ ap (λ n. count_after n (g.L.Log.counts c.args.sticky_log.now.log).reads) two; part = tt }

pub returns-in_default-get-clause-reads : goal.returns-in_default-get-clause-reads
returns-in_default-get-clause-reads g c =
    let pages = c.args.pages.now.pages in
    let few = past-end pages 1 (sym (other-at _ 0 1 _ (omega arith)) ∙ c.in_default-get.ensures) in
    let one : 1 ≡ own_among (length pages) = omega (arith, own-is (length pages), slice_get_within pages 0 _ c.in-Some.ensures, few) in
    record { whole = c.in_ok-roots.ensures.reads.whole ∙ ap (λ n. count_after n (g.L.Log.counts c.args.sticky_log.now.log).reads) one; part = tt }
