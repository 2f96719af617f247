use Rattle.std.proofs.Common.{◌≡◌, Ok, Some}
use Rattle.sled_tree.specs.Changed.{Reads}
use Rattle.sled_tree.specs.Dropping.{IsMapOf}
use Rattle.sled_tree.specs.Ordered.{before, last_of}
use Rattle.sled_tree.specs.Performs.{Performs}
use Rattle.sled_tree.specs.declared.error.TreeError.{TreeError}
use Rattle.sled_tree.proofs.ByName.{reads-found}
use Rattle.sled_tree.proofs.named.next_below.Goals as goal

pub returns-in-Some-clause-pair : goal.returns-in-Some-clause-pair
returns-in-Some-clause-pair g c =
    let here = c.args.cache.now in
    let found : Performs g.L.Log (Reads {E = TreeError} (Ok (Some c.in-Some.tree)) (IsMapOf c.args.name.now)) here here = rw c.in-Some.is at c.in_ok-tree.ensures.map in
    reads-found g.L.Log c.args.name.now {E = TreeError} (λ m pair. pair ≡ last_of (before c.args.bound.now m)) c.in-Some.tree c.next_to.result here c.next_to.new.cache found c.next_to.ensures.pair
