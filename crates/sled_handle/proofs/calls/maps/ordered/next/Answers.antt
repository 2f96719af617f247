-- The pair that was found on that side is told.
use Rattle.std.proofs.Common.{inr, Ok, Some}
use Rattle.sled_handle.proofs.calls.maps.ordered.next.Goals as goal

pub returns-in-Ok-Some : goal.returns-in-Ok-Some
returns-in-Ok-Some g c = inr (inr (c.in-Ok.side, c.in-Ok.ensures.side, (Ok (Some c.in-Ok-Some.pair), rw c.in-Ok-Some.field-0-is at c.in-Ok-Some.ensures, c.put_pair.ensures)))
