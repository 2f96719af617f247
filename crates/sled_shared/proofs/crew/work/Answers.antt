use Rattle.std.proofs.Common.{◌≡◌, ◌+◌, arith}
use Rattle.sled_shared.specs.Held.{count_of}
use Rattle.sled_shared.proofs.Drawn.{drew_counts}
use Rattle.sled_shared.proofs.crew.work.Goals as goal

pub loop-call-preserved : goal.loop-call-preserved
loop-call-preserved g c =
    let one : count_of c.generate_id-answer.new.mine ≡ count_of c.loop-call.share + 1 = drew_counts c.loop-call.share c.in_default.field-0 c.generate_id-answer.new.mine c.in_default.ensures.told in
    let before : count_of c.loop-call.share ≡ count_of c.args.share + c.loop-call.call = c.loop-call.invariant in
    let made : count_of c.generate_id-answer.new.mine ≡ count_of c.args.share + (c.loop-call.call + 1) = omega (arith, one, before) in
    made
