use Rattle.std.proofs.Common.{rules}
use Rattle.sled_c.proofs.exports.maps.dilluvas_raw_map_cas.Goals as goal

pub returns : goal.returns
returns c =
    let swapped = rw c.given-new.ensures at (rw c.given-old.ensures at c.cas-status.ensures) in
    search (rules, swapped)
