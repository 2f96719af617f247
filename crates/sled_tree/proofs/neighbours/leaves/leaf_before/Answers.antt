use Rattle.std.proofs.Common.{ℕ, refl, sym, subst}
use Rattle.sled_tree.specs.Performs.{Performs}
use Rattle.sled_tree.proofs.OrderedReads.{LedBefore, begins-before, read-fails, read-lost, turn-here-before, turn-on-before}
use Rattle.sled_tree.proofs.Performing.{On}
use Rattle.sled_tree.proofs.neighbours.leaves.leaf_before.Goals.{in-Down, in-Down-2}
use Rattle.sled_tree.proofs.neighbours.leaves.leaf_before.Goals as goal

pub turns-init : goal.turns-init
turns-init g c = begins-before g.L.Log c.args.root c.args.bound.now c.args.cache.now

pub returns-in-Here : goal.returns-in-Here
returns-in-Here g c = turn-here-before g.L.Log c.args.root c.turns.at c.args.cache.now c.turns.cache c.turn_before_at.new.cache c.in_ok-turn_before_at.field-0 c.args.bound.now c.turns.invariant c.in_ok-turn_before_at.ensures c.in-Here.is

pub turns-preserved : goal.turns-preserved
turns-preserved g c =
    let on = turn-on-before g.L.Log c.args.root c.turns.at c.args.cache.now c.turns.cache c.turn_before_at.new.cache c.in_ok-turn_before_at.field-0 c.args.bound.now c.turns.invariant c.in_ok-turn_before_at.ensures in
    elim c.match-branch-2.branch [
      | in-Down w ↦ subst (λ (page : ℕ). Performs g.L.Log (On (LedBefore c.args.root c.args.bound.now page)) c.args.cache.now c.turn_before_at.new.cache) (sym w.at-is) (on w.in-Down.page w.in-Down.is)
      | in-Down-2 w ↦ subst (λ (page : ℕ). Performs g.L.Log (On (LedBefore c.args.root c.args.bound.now page)) c.args.cache.now c.turn_before_at.new.cache) (sym w.at-is) (on w.in-Down.page w.in-Down.is)
    ]

pub returns-in-Astray : goal.returns-in-Astray
returns-in-Astray g c = read-fails g.L.Log c.turns.invariant refl c.turn_before_at.ensures

pub returns-in_err-turn_before_at : goal.returns-in_err-turn_before_at
returns-in_err-turn_before_at g c = read-fails g.L.Log c.turns.invariant c.from_residual.ensures.0 c.turn_before_at.ensures

pub returns : goal.returns
returns g c = read-lost g.L.Log c.turns.invariant
