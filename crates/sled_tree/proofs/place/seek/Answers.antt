use Rattle.std.proofs.Common.{ℕ, sym, subst}
use Rattle.sled_search.specs.Search.{HasNodeAt}
use Rattle.sled_tree.specs.Performs.{Performs}
use Rattle.sled_tree.specs.Walks.{Leads, LeadsBy, HasPlace}
use Rattle.sled_tree.proofs.OrderedReads.{read-done, read-fails, read-first, read-lost}
use Rattle.sled_tree.proofs.Performing.{On}
use Rattle.sled_tree.proofs.Reaching.{leads-more}
use Rattle.sled_tree.proofs.Walking.{seek-begins, seek-down, seek-right}
use Rattle.sled_tree.proofs.place.seek.Goals.{in-Down, in-Right+else-reports}
use Rattle.sled_tree.proofs.place.seek.Goals as goal

pub turns-init : goal.turns-init
turns-init g c = seek-begins g.L.Log c.args.key.now c.args.root c.args.cache.now

pub returns-in-Here : goal.returns-in-Here
returns-in-Here g c =
    let key = c.args.key.now in
    let root = c.args.root in
    let place = c.in-Here.place in
    read-done g.L.Log c.turns.invariant (λ pages a b. record {
      leads = subst (λ (p : ℕ). Leads pages key root p) (sym b.leaf_is) (leads-more pages key root c.turns.above c.turns.at a.0 a.1);
      has = subst (λ (p : ℕ). HasNodeAt pages p (HasPlace key place.stored place.value)) (sym b.leaf_is) b.has;
    }) (rw c.in-Here.is at c.in_ok-place.ensures)

pub returns-in-Full : goal.returns-in-Full
returns-in-Full g c = read-done g.L.Log c.turns.invariant (λ _ leads _. leads) c.in_ok-place.ensures

pub returns-then-reports : goal.returns-then-reports
returns-then-reports g c = read-done g.L.Log c.turns.invariant (λ _ leads _. leads) c.in_ok-place.ensures

pub turns-preserved : goal.turns-preserved
turns-preserved g c =
    let key = c.args.key.now in
    let root = c.args.root in
    let above = c.turns.above in
    let at = c.turns.at in
    let old = c.args.cache.now in
    let new = c.look_at.new.cache in
    elim c.match-branch-2.branch [
      | in-Down w ↦
          let page = w.in-Down.page in
          subst (λ (p : ℕ). Performs g.L.Log (On (λ pages. LeadsBy pages key root c.match-branch-2.above p)) old new) (sym w.at-is)
          (subst (λ (p : ℕ). Performs g.L.Log (On (λ pages. LeadsBy pages key root p page)) old new) (sym w.above-is)
          (seek-down g.L.Log key root above at page old c.turns.cache new c.turns.invariant (read-first g.L.Log (rw w.in-Down.is at c.in_ok-place.ensures))))
      | in-Right+else-reports w ↦
          let page = w.in-Right.page in
          subst (λ (p : ℕ). Performs g.L.Log (On (λ pages. LeadsBy pages key root c.match-branch-2.above p)) old new) (sym w.at-is)
          (subst (λ (p : ℕ). Performs g.L.Log (On (λ pages. LeadsBy pages key root p page)) old new) (sym w.above-is)
          (seek-right g.L.Log key root above at page old c.turns.cache new c.turns.invariant (read-first g.L.Log (rw w.in-Right.is at c.in_ok-place.ensures))))
    ]

pub returns-in_err-place : goal.returns-in_err-place
returns-in_err-place g c = read-fails g.L.Log c.turns.invariant c.from_residual.ensures.0 c.look_at.ensures

pub returns : goal.returns
returns g c = read-lost g.L.Log c.turns.invariant
