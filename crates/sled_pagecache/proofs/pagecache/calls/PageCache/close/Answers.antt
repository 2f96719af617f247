use Rattle.sled_pagecache.proofs.Names.{◌∙◌, Err, refl, ap, error_of, refused-is}
use Rattle.sled_pagecache.proofs.Steps.Batches.{closes, closes-refused, closes-stuck, whole-closed, whole-stuck}
use Rattle.sled_pagecache.proofs.Memory.Eviction.{kept-settled}
use Rattle.sled_pagecache.proofs.pagecache.calls.PageCache.close.Goals as goal

pub invariant_of-self : goal.invariant_of-self
invariant_of-self g c = kept-settled g.L.Log _ _ _ _ _ _ _ _ _ c.self.invariant (whole-stuck g.L.Log c.self.invariant.whole c.if-self.true)

pub returns-then-self : goal.returns-then-self
returns-then-self g c = record {
  closes = rw (← c.self.view_is) (closes-stuck g.L.Log _ _ _ _ _ c.args.closing c.self.inside.writer.sticky_log (ap (λ cache. cache.batch) c.self.view_is ∙ c.requires) c.if-self.true);
  bounded = (kept-settled g.L.Log _ _ _ _ _ _ _ _ _ c.self.invariant (whole-stuck g.L.Log c.self.invariant.whole c.if-self.true)).bounded;
}

pub close-requires-clause-opened : goal.close-requires-clause-opened
close-requires-clause-opened g c = c.self.invariant.whole.consistent.opened c.if-self.false ∙ ap (λ cache. cache.batch) c.self.view_is ∙ c.requires

pub invariant_of-self-in_err-close : goal.invariant_of-self-in_err-close
invariant_of-self-in_err-close g c =
    let refused = c.in_err-close.ensures in
    kept-settled g.L.Log _ _ _ _ _ _ _ _ _ c.self.invariant (whole-closed g.L.Log c.self.invariant.whole c.if-self.false c.close.new.self refused.same c.args.closing (rw refused.only at refused.went))

pub returns-in_err-close : goal.returns-in_err-close
returns-in_err-close g c =
    let refused = c.in_err-close.ensures in
    let whole = whole-closed g.L.Log c.self.invariant.whole c.if-self.false c.close.new.self refused.same c.args.closing (rw refused.only at refused.went) in
    record {
      closes =
          rw (refused-is c.from_residual.result _ c.from_residual.ensures.1, ap error_of refused.only, ← c.self.view_is)
          (closes-refused g.L.Log _ _ _ _ _ c.args.closing c.self.inside.writer.sticky_log (ap (λ cache. cache.batch) c.self.view_is ∙ c.requires) c.if-self.false
          c.close.new.self (rw refused.only at refused.went) refused.reads (refused.cause.fault ∙ rw refused.only refl) (refused.cause.write (ap (λ r. Err r) refused.only)));
      bounded = (kept-settled g.L.Log _ _ _ _ _ _ _ _ _ c.self.invariant whole).bounded;
    }

pub invariant_of-self-2 : goal.invariant_of-self-2
invariant_of-self-2 g c =
    let done = c.in_ok-close.ensures in
    kept-settled g.L.Log _ _ _ _ _ _ _ _ _ c.self.invariant (whole-closed g.L.Log c.self.invariant.whole c.if-self.false c.close.new.self done.same c.args.closing done.went)

pub returns : goal.returns
returns g c =
    let done = c.in_ok-close.ensures in
    let opened = ap (λ cache. cache.batch) c.self.view_is ∙ c.requires in
    let whole = whole-closed g.L.Log c.self.invariant.whole c.if-self.false c.close.new.self done.same c.args.closing done.went in
    record {
      closes = rw (← c.self.view_is) (closes g.L.Log _ _ _ _ _ c.args.closing c.self.inside.writer.sticky_log opened c.if-self.false c.close.new.self done.went done.reads done.cause.fault);
      bounded = (kept-settled g.L.Log _ _ _ _ _ _ _ _ _ c.self.invariant whole).bounded;
    }
