use Rattle.std.proofs.Common.{◌≡◌, drop}
use Rattle.std.specs.Option.{option_map}
use Rattle.sled_tree.specs.ByName.{first_name}
use Rattle.sled_tree.proofs.named.first_behind.Given as goal

abbrev pub invariant-loop-name : goal.invariant-loop-name
invariant-loop-name l =
    let after = option_map (λ after. after.now) l.after in
    first_name after (drop l.name-index l.names) ≡ first_name after l.names
