use Rattle.std.proofs.Common.{Ok, Some}
use Rattle.sled_tree.specs.Changed.{Reads}
use Rattle.sled_tree.specs.Dropping.{IsMapOf}
use Rattle.sled_tree.specs.Ordered.{IsPieceOf}
use Rattle.sled_tree.specs.Performs.{Performs}
use Rattle.sled_tree.specs.declared.error.TreeError.{TreeError}
use Rattle.sled_tree.proofs.ByName.{reads-found}
use Rattle.sled_tree.proofs.named.range.Goals as goal

pub returns-in-Some-clause-pairs : goal.returns-in-Some-clause-pairs
returns-in-Some-clause-pairs g c =
    let here = c.args.cache.now in
    let found : Performs g.L.Log (Reads {E = TreeError} (Ok (Some c.in-Some.tree)) (IsMapOf c.args.name.now)) here here = rw c.in-Some.is at c.in_ok-tree.ensures.map in
    reads-found g.L.Log c.args.name.now {E = TreeError} (λ m piece. IsPieceOf c.args.from.now c.args.to.now m piece) c.in-Some.tree c.range.result here c.range.new.cache found c.range.ensures.pairs
