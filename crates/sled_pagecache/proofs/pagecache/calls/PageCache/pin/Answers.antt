use Rattle.sled_pagecache.proofs.Names.{◌∙◌, true, refl, Pin, refused-is}
use Rattle.sled_pagecache.proofs.Steps.Batches.{opens, opens-refused, opens-stuck, opens-twice, whole-marked, whole-refused}
use Rattle.sled_pagecache.proofs.Memory.Eviction.{kept-settled}
use Rattle.sled_pagecache.proofs.pagecache.calls.PageCache.pin.Goals as goal

pub returns-then-self : goal.returns-then-self
returns-then-self g c = rw (← c.self.view_is) (record { opens = opens-stuck g.L.Log _ _ _ _ _ c.self.inside.writer.sticky_log c.if-self.true; bounded = c.self.invariant.bounded })

pub returns-then-self-2 : goal.returns-then-self-2
returns-then-self-2 g c =
    let whole = c.self.invariant.whole in
    let opened = opens-twice g.L.Log _ _ _ _ _ c.self.inside.writer.sticky_log c.if-self.false c.if-self-2.true (whole.consistent.beside c.if-self.false).usable (g.met.L.Log.only_now c.self.inside.writer.sticky_log.log) in
    rw (← c.self.view_is) (record { opens = opened; bounded = c.self.invariant.bounded })

pub pin-requires-clause-closed : goal.pin-requires-clause-closed
pin-requires-clause-closed g c = c.self.invariant.whole.consistent.opened c.if-self.false ∙ c.if-self-2.false

pub invariant_of-self : goal.invariant_of-self
invariant_of-self g c =
    let refused = c.in_err-pin.ensures in
    kept-settled g.L.Log _ _ _ _ _ _ _ _ _ c.self.invariant (whole-refused g.L.Log c.self.invariant.whole c.if-self.false c.pin.new.self refused.same c.in_err-pin.field-0.0 (refused.went, refused.cause.fault))

pub returns-in_err-pin : goal.returns-in_err-pin
returns-in_err-pin g c =
    let refused = c.in_err-pin.ensures in
    let whole = whole-refused g.L.Log c.self.invariant.whole c.if-self.false c.pin.new.self refused.same c.in_err-pin.field-0.0 (refused.went, refused.cause.fault) in
    record {
      opens =
          rw (refused-is c.from_residual.result _ c.from_residual.ensures.1, ← c.self.view_is)
          (opens-refused g.L.Log _ _ _ _ _ c.self.inside.writer.sticky_log c.if-self.false c.if-self-2.false c.pin.new.self refused.reads c.in_err-pin.field-0.0 refused.sound (refused.went, refused.cause));
      bounded = (kept-settled g.L.Log _ _ _ _ _ _ _ _ _ c.self.invariant whole).bounded;
    }

pub invariant_of-self-2 : goal.invariant_of-self-2
invariant_of-self-2 g c =
    let done = c.in_ok-pin.ensures in
    kept-settled g.L.Log _ _ _ _ _ _ _ _ _ c.self.invariant (whole-marked g.L.Log c.self.invariant.whole c.if-self.false c.pin.new.self done.same true c.self.inside.writer.sticky_log refl Pin (λ was. refl) (λ n. (tt, tt)) done.went)

pub returns : goal.returns
returns g c =
    let done = c.in_ok-pin.ensures in
    let whole = whole-marked g.L.Log c.self.invariant.whole c.if-self.false c.pin.new.self done.same true c.self.inside.writer.sticky_log refl Pin (λ was. refl) (λ n. (tt, tt)) done.went in
    record {
      opens = rw (← c.self.view_is) (opens g.L.Log _ _ _ _ _ c.self.inside.writer.sticky_log c.if-self.false c.if-self-2.false c.pin.new.self done.reads done.went done.cause.fault);
      bounded = (kept-settled g.L.Log _ _ _ _ _ _ _ _ _ c.self.invariant whole).bounded;
    }
