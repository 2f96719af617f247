use Rattle.std.proofs.Common.{rules}
use Rattle.sled_c.proofs.exports.maps.dilluvas_raw_map_name.Goals as goal

pub returns : goal.returns
returns c =
    let named = rw c.given-after.ensures at c.next_name-status.ensures in
    search (rules, named)
