-- The piece that was found within both bounds is told.
use Rattle.std.proofs.Common.{inr, Ok}
use Rattle.sled_handle.proofs.calls.maps.ordered.count.Goals as goal

pub returns-in-Ok-range : goal.returns-in-Ok-range
returns-in-Ok-range g c =
    let both = c.in-Ok.both in
    let are = c.in-Ok.ensures.both in
    inr (inr (both.0, both.1, are.0, are.1, (Ok c.in-Ok-range.found, (c.in-Ok-range.ensures.pairs, tt), c.put_count.ensures)))
