use Rattle.sled_pagecache.proofs.Names.{◌≡◌, arith, refl, AllZip-long, IsKept, Went-none, view}
use Rattle.sled_pagecache.proofs.Memory.Eviction.{kept-settled}
use Rattle.sled_pagecache.proofs.Rewrites.RewriteAnswers.{answer_with, copies-went, copies-whole, full-by, reads-by, refused-by, rewritten-by, stays-stuck, stays-went}
use Rattle.sled_pagecache.proofs.pagecache.calls.PageCache.rewrite_into.Goals as goal
use Rattle.sled_pagecache.proofs.pagecache.calls.PageCache.rewrite_into.Goals.{in-Ok, in-Err}

pub returns-then-self-clause-step : goal.returns-then-self-clause-step
returns-then-self-clause-step g c = rw (← c.self.view_is) (stays-stuck g.L.Log _ c.if-self.true)

pub returns-then-self-2-clause-step : goal.returns-then-self-2-clause-step
returns-then-self-2-clause-step g c =
    let inside = c.self.inside in
    rw (← c.self.view_is)
    (stays-went g.L.Log inside.next inside.config inside.recovered inside.writer.accesses.lru inside.writer.sticky_log inside.writer.sticky_log inside.pages.pages c.if-self.false (Went-none g.L.Log inside.writer.sticky_log (c.self.invariant.whole.consistent.beside c.if-self.false).usable (g.met.L.Log.only_now inside.writer.sticky_log.log)))

pub returns-clause-step : goal.returns-clause-step
returns-clause-step g c =
    let inside = c.self.inside in
    rw (← c.self.view_is)
    (stays-went g.L.Log inside.next inside.config inside.recovered inside.writer.accesses.lru inside.writer.sticky_log c.copy_pages.new.sticky_log inside.pages.pages c.if-self.false
    (copies-went g.L.Log g.M.Log inside.writer.sticky_log c.copy_pages.new.sticky_log inside.pages.pages _ c.copy_pages.new.copy c.copy_pages.result c.copy_pages.ensures).0)

pub invariant_of-self : goal.invariant_of-self
invariant_of-self g c =
    kept-settled g.L.Log _ _ _ _ _ _ _ _ _ c.self.invariant (copies-whole g.L.Log g.M.Log c.self.inside.writer.sticky_log c.copy_pages.new.sticky_log c.self.inside.pages.pages _ c.copy_pages.new.copy c.copy_pages.result c.copy_pages.ensures c.if-self.false c.self.invariant.whole)

pub returns-clause-rewritten : goal.returns-clause-rewritten
returns-clause-rewritten g c =
    rw (← c.self.view_is, is)
    (rewritten-by g.L.Log g.M.Log c.self.inside.writer.sticky_log c.copy_pages.new.sticky_log c.self.inside.pages.pages _ c.copy_pages.new.copy (view c.self.inside.next c.self.inside.config c.self.inside.recovered c.self.inside.writer.accesses.lru c.self.inside.writer.sticky_log c.self.inside.pages.pages) refl c.requires.empty c.copy_pages.result c.copy_pages.ensures
    (λ known. omega (arith, AllZip-long IsKept _ c.self.inside.pages.pages ((c.self.invariant.whole.consistent.beside c.if-self.false).kept known))))
  where
    is : c.match-copy_pages.result ≡ answer_with c.copy_pages.new.copy.log c.copy_pages.result
    is = elim c.match-copy_pages.branch [ in-Ok w ↦ grind (arith, w.result-is) | in-Err w ↦ grind (arith, w.result-is) ]

pub returns-clause-refused : goal.returns-clause-refused
returns-clause-refused g c = λ known told ready closed.
    let whole = c.self.invariant.whole.consistent in
    rw (← c.self.view_is, is) (refused-by g.L.Log g.M.Log c.self.inside.writer.sticky_log c.copy_pages.new.sticky_log c.self.inside.pages.pages _ c.copy_pages.new.copy (view c.self.inside.next c.self.inside.config c.self.inside.recovered c.self.inside.writer.accesses.lru c.self.inside.writer.sticky_log c.self.inside.pages.pages) refl c.requires.empty known told c.copy_pages.result c.copy_pages.ensures whole.own whole.few)
  where
    is : c.match-copy_pages.result ≡ answer_with c.copy_pages.new.copy.log c.copy_pages.result
    is = elim c.match-copy_pages.branch [ in-Ok w ↦ grind (arith, w.result-is) | in-Err w ↦ grind (arith, w.result-is) ]

pub returns-clause-full : goal.returns-clause-full
returns-clause-full g c = λ known told ready.
    rw (← c.self.view_is, is) (full-by g.L.Log g.M.Log c.self.inside.writer.sticky_log c.copy_pages.new.sticky_log c.self.inside.pages.pages _ c.copy_pages.new.copy (view c.self.inside.next c.self.inside.config c.self.inside.recovered c.self.inside.writer.accesses.lru c.self.inside.writer.sticky_log c.self.inside.pages.pages) refl c.requires.empty known told c.copy_pages.result c.copy_pages.ensures)
  where
    is : c.match-copy_pages.result ≡ answer_with c.copy_pages.new.copy.log c.copy_pages.result
    is = elim c.match-copy_pages.branch [ in-Ok w ↦ grind (arith, w.result-is) | in-Err w ↦ grind (arith, w.result-is) ]

pub returns-clause-reads : goal.returns-clause-reads
returns-clause-reads g c = λ known.
    rw (← c.self.view_is, is) (reads-by g.L.Log g.M.Log c.self.inside.writer.sticky_log c.copy_pages.new.sticky_log c.self.inside.pages.pages _ c.copy_pages.new.copy (view c.self.inside.next c.self.inside.config c.self.inside.recovered c.self.inside.writer.accesses.lru c.self.inside.writer.sticky_log c.self.inside.pages.pages) refl c.requires.empty c.copy_pages.result c.copy_pages.ensures ((c.self.invariant.whole.consistent.beside c.if-self.false).kept known))
  where
    is : c.match-copy_pages.result ≡ answer_with c.copy_pages.new.copy.log c.copy_pages.result
    is = elim c.match-copy_pages.branch [ in-Ok w ↦ grind (arith, w.result-is) | in-Err w ↦ grind (arith, w.result-is) ]
