use Rattle.sled_search.specs.Search.{HasAt}
use Rattle.sled_search.proofs.Search.{goes-finds}
use Rattle.sled_tree.proofs.OrderedReads.{read-done, read-fails, read-first, read-lost}
use Rattle.sled_tree.proofs.Walking.{begins, goes-on}
use Rattle.sled_tree.proofs.walk.value_for.Goals as goal

pub turns-init : goal.turns-init
turns-init g c = begins g.L.Log c.args.key.now c.args.root c.args.cache.now

pub returns-in-Value : goal.returns-in-Value
returns-in-Value g c =
    let key = c.args.key.now in
    read-done g.L.Log c.turns.invariant (λ pages a b. goes-finds pages key (λ _ n. HasAt key c.in-Value.value n) a.0 c.args.root c.turns.at a.1 b) (rw c.in-Value.is at c.in_ok-value.ensures)

pub turns-preserved : goal.turns-preserved
turns-preserved g c =
    goes-on g.L.Log c.args.key.now c.args.root c.turns.at c.in-On.page c.args.cache.now c.turns.cache c.sight_at.new.cache c.turns.invariant (read-first g.L.Log (rw c.in-On.is at c.in_ok-value.ensures))

pub returns-in_err-value : goal.returns-in_err-value
returns-in_err-value g c = read-fails g.L.Log c.turns.invariant c.from_residual.ensures.0 c.sight_at.ensures

pub returns : goal.returns
returns g c = read-lost g.L.Log c.turns.invariant
