use Rattle.std.proofs.Common.{arith, ◌∙◌}
use Rattle.sled_base.specs.Errors.{error_of}
use Rattle.sled_shared.proofs.Reading.{read-failed, read-more, read-tells}
use Rattle.sled_shared.proofs.reads.read_each.Goals as goal

pub loop-pid-preserved : goal.loop-pid-preserved
loop-pid-preserved g c =
    record {
      made = read-more g.L.Log c.args.pages.now c.loop-pid.pid-index c.loop-pid.answers.items c.loop-pid.found.items c.args.cache.now c.loop-pid.cache c.read.new.cache c.loop-pid.invariant.made c.loop-pid-test.true c.push_reserved.new.self.items c.push_reserved-in-Ok.new.self.items c.in-Ok.one c.in-Ok.copy c.push_reserved.ensures.items c.push_reserved-in-Ok.ensures.items c.in-Ok.ensures.same c.in-Ok.ensures.made;
      answers = omega (arith, c.loop-pid.invariant.answers, c.push_reserved.ensures.len);
      found = omega (arith, c.loop-pid.invariant.found, c.push_reserved-in-Ok.ensures.len);
      room = omega (arith, c.loop-pid.invariant.room, c.push_reserved.ensures.capacity);
      space = omega (arith, c.loop-pid.invariant.space, c.push_reserved-in-Ok.ensures.capacity);
      batch = c.in-Ok.ensures.made.keeps.batch ∙ c.loop-pid.invariant.batch;
    }

pub returns-in-Err-clause-made : goal.returns-in-Err-clause-made
returns-in-Err-clause-made g c =
    read-failed g.L.Log c.args.pages.now c.loop-pid.pid-index c.loop-pid.answers.items c.loop-pid.found.items c.args.cache.now c.loop-pid.cache c.read.new.cache c.loop-pid.invariant.made c.loop-pid-test.true (error_of c.in-Err.refusal) c.in-Err.ensures.failed

pub returns-in-Err-clause-same : goal.returns-in-Err-clause-same
returns-in-Err-clause-same g c =
    read-tells g.L.Log c.args.pages.now c.loop-pid.pid-index c.loop-pid.answers.items c.loop-pid.found.items c.args.cache.now c.loop-pid.cache c.loop-pid.invariant.made
