use Rattle.std.proofs.Common.{◌≡◌, Ok, Some}
use Rattle.sled_search.specs.Map.{at_key}
use Rattle.sled_tree.specs.Changed.{Reads}
use Rattle.sled_tree.specs.Dropping.{IsMapOf}
use Rattle.sled_tree.specs.Performs.{Performs}
use Rattle.sled_tree.specs.declared.error.TreeError.{TreeError}
use Rattle.sled_tree.proofs.ByName.{reads-found}
use Rattle.sled_tree.proofs.named.get.Goals as goal

pub returns-in-Some-clause-value : goal.returns-in-Some-clause-value
returns-in-Some-clause-value g c =
    let here = c.args.cache.now in
    let found : Performs g.L.Log (Reads {E = TreeError} (Ok (Some c.in-Some.tree)) (IsMapOf c.args.name.now)) here here = rw c.in-Some.is at c.in_ok-tree.ensures.map in
    reads-found g.L.Log c.args.name.now {E = TreeError} (λ m value. value ≡ at_key m c.args.key.now) c.in-Some.tree c.get.result here c.get.new.cache found c.get.ensures.value
