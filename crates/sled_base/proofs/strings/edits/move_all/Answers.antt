use Rattle.std.proofs.Common.{◌+◌, ◌-◌, ◌<◌, ◌≤◌, ◌^◌, length, get_or, arith}
use Rattle.std.proofs.lemmas.List.{get_or_default}
use Rattle.std.proofs.lemmas.List.Edits.{map_over_more}
use Rattle.sled_base.proofs.Each.{all_at}
use Rattle.sled_base.proofs.StringEdits.{next_end}
use Rattle.sled_base.proofs.strings.edits.move_all.Goals as goal

-- the end that is next lies where it did
pub overflow_sub-end : goal.overflow_sub-end
overflow_sub-end c =
    let ends = c.args.ends.now in
    let i = c.loop-end.end-index in
    let same = next_end (λ end. end - c.args.taken + c.args.added) ends c.loop-end.ends i (c.loop-end-test.true) c.loop-end.invariant in
    let fits = all_at (λ end. (c.args.taken ≤ end) × (end - c.args.taken + c.args.added < 2 ^ 64)) ends i 0 c.requires (c.loop-end-test.true) in
    omega (arith, same, fits.0)

pub overflow_add-end : goal.overflow_add-end
overflow_add-end c =
    let ends = c.args.ends.now in
    let i = c.loop-end.end-index in
    let same = next_end (λ end. end - c.args.taken + c.args.added) ends c.loop-end.ends i (c.loop-end-test.true) c.loop-end.invariant in
    let fits = all_at (λ end. (c.args.taken ≤ end) × (end - c.args.taken + c.args.added < 2 ^ 64)) ends i 0 c.requires (c.loop-end-test.true) in
    omega (arith, same, fits.0, fits.1)

pub loop-end-preserved : goal.loop-end-preserved
loop-end-preserved c =
    let ends = c.args.ends.now in
    let now = c.loop-end.ends in
    let i = c.loop-end.end-index in
    let within : i < length now = omega arith in
    map_over_more (λ end. end - c.args.taken + c.args.added) ends now i (get_or now i 0) (c.loop-end-test.true) c.loop-end.invariant (get_or_default now i 0 (get_or now i 0) within)
