use Rattle.std.proofs.Common.{rules, ap}
use Rattle.sled_tree.specs.Dropping.{names_of}
use Rattle.sled_tree.proofs.DroppingNames.{keys-named}
use Rattle.sled_tree.proofs.maps.names.names_in.Goals as goal

pub loop-name-init : goal.loop-name-init
loop-name-init c =
    let named = keys-named c.in_ok-roots.roots.entries in
    let same = ap names_of c.in_ok-roots.ensures in
    search (rules, named, same)
