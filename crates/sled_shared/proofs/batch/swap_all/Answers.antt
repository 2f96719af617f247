use Rattle.std.proofs.Common.{arith, refl, ap, length, List, ◌∙◌}
use Rattle.sled_base.specs.Errors.{error_of}
use Rattle.sled_shared.specs.declared.calls.Swap.{Swap}
use Rattle.sled_shared.proofs.Batching.{runs-more, runs-none, runs-refused, runs-tell}
use Rattle.sled_shared.proofs.batch.swap_all.Goals as goal

pub loop-one-init : goal.loop-one-init
loop-one-init g c =
    record {
      made = runs-none g.L.Log c.args.copies.items c.args.answers.now.items c.args.endings.now.items c.args.cache.now c.requires.none.0 c.requires.none.1;
      answers = omega (arith, c.requires.none.2, c.requires.room.0);
      endings = omega (arith, c.requires.none.3, c.requires.room.1);
      batch = refl;
    }

pub loop-one-preserved : goal.loop-one-preserved
loop-one-preserved g c =
    let left = c.in-Some.ensures.items in
    let shorter = ap (λ (l : List Swap). length l) left in
    record {
      made = runs-more g.L.Log c.args.copies.items c.loop-one.left.items c.pop_front.new.self.items c.in-Some.one c.loop-one.answers.items c.push_reserved.new.self.items c.loop-one.endings.items c.push_reserved-in-Ok.new.self.items c.in-Ok.answer c.in-Ok.ending c.args.cache.now c.loop-one.cache c.swap.new.cache c.loop-one.invariant.made left c.push_reserved.ensures.items c.push_reserved-in-Ok.ensures.items c.in-Ok.ensures.same c.in-Ok.ensures.made;
      answers = omega (arith, shorter, c.loop-one.invariant.answers, c.push_reserved.ensures.len, c.push_reserved.ensures.capacity);
      endings = omega (arith, shorter, c.loop-one.invariant.endings, c.push_reserved-in-Ok.ensures.len, c.push_reserved-in-Ok.ensures.capacity);
      batch = c.in-Ok.ensures.batch ∙ c.loop-one.invariant.batch;
    }

pub returns-in-Err-clause-made : goal.returns-in-Err-clause-made
returns-in-Err-clause-made g c =
    runs-refused g.L.Log c.args.copies.items c.loop-one.left.items c.pop_front.new.self.items c.in-Some.one c.loop-one.answers.items c.loop-one.endings.items (error_of c.in-Err.refusal) c.args.cache.now c.loop-one.cache c.swap.new.cache c.loop-one.invariant.made c.in-Some.ensures.items c.in-Err.ensures.refused

pub returns-in-Err-clause-same : goal.returns-in-Err-clause-same
returns-in-Err-clause-same g c =
    runs-tell g.L.Log c.args.copies.items c.loop-one.left.items c.loop-one.answers.items c.loop-one.endings.items c.args.cache.now c.loop-one.cache c.loop-one.invariant.made

pub returns-clause-same : goal.returns-clause-same
returns-clause-same g c =
    runs-tell g.L.Log c.args.copies.items c.loop-one.left.items c.loop-one.answers.items c.loop-one.endings.items c.args.cache.now c.loop-one.cache c.loop-one.invariant.made
