-- No part is left for another share, so there is one for each worker.
use Rattle.std.proofs.Common.{◌≡◌, ◌*◌, sum_by, length, ap, ◌∙◌, arith}
use Rattle.sled_shared.specs.Held.{count_of}
use Rattle.sled_script.proofs.Job.{crew_fits, crew_sum}
use Rattle.sled_script.proofs.program.crew.draw_ids.Goals as goal

pub sum_of-requires : goal.sum_of-requires
sum_of-requires g c =
    let all : length c.loop-share.shares.items ≡ c.args.workers = omega (arith, c.loop-share.invariant.parts, c.in_default.ensures.none.0) in
    let made : sum_by count_of c.as_slice.result.now ≡ c.args.workers * c.args.calls = ap (sum_by count_of) c.as_slice.ensures.value ∙ crew_sum c.loop-share.shares.items c.in-Ok.shares.items c.args.workers c.args.calls c.in-Ok.ensures.raised c.loop-share.invariant.none all in
    omega (arith, made, crew_fits c.args.workers c.args.calls c.requires.workers c.requires.calls)

pub returns-in-Ok : goal.returns-in-Ok
returns-in-Ok g c =
    let all : length c.loop-share.shares.items ≡ c.args.workers = omega (arith, c.loop-share.invariant.parts, c.in_default.ensures.none.0) in
    c.sum_of.ensures ∙ ap (sum_by count_of) c.as_slice.ensures.value ∙ crew_sum c.loop-share.shares.items c.in-Ok.shares.items c.args.workers c.args.calls c.in-Ok.ensures.raised c.loop-share.invariant.none all
