use Rattle.std.proofs.Common.{ℕ, sym, subst}
use Rattle.std.proofs.lemmas.Bool.{false≢true}
use Rattle.sled_tree.specs.Performs.{Performs}
use Rattle.sled_tree.specs.Walks.{Leads}
use Rattle.sled_tree.proofs.OrderedReads.{read-done, read-fails, turn-on}
use Rattle.sled_tree.proofs.Performing.{On}
use Rattle.sled_tree.proofs.Walking.{begins}
use Rattle.sled_tree.proofs.walk.is_on_way.Goals.{in-Down, in-Down-2}
use Rattle.sled_tree.proofs.walk.is_on_way.Goals as goal

pub turns-init : goal.turns-init
turns-init g c = begins g.L.Log c.args.key.now c.args.root c.args.cache.now

pub returns-in_err-next : goal.returns-in_err-next
returns-in_err-next g c = read-fails g.L.Log c.turns.invariant c.from_residual.ensures.0 c.turn_at.ensures

pub returns-in_default : goal.returns-in_default
returns-in_default g c = read-done g.L.Log c.turns.invariant (λ pages _ _ e. absurd (false≢true e)) c.in_ok-next.ensures

pub turns-preserved : goal.turns-preserved
turns-preserved g c =
    let key = c.args.key.now in
    let root = c.args.root in
    let old = c.args.cache.now in
    let new = c.turn_at.new.cache in
    let on = turn-on g.L.Log root c.turns.at old c.turns.cache new c.in_ok-next.field-0 key c.turns.invariant c.in_ok-next.ensures in
    elim c.match-branch-2.branch [
      | in-Down w ↦ subst (λ (p : ℕ). Performs g.L.Log (On (λ pages. Leads pages key root p)) old new) (sym w.at-is) (on w.in-Down.next w.in-Down.is)
      | in-Down-2 w ↦ subst (λ (p : ℕ). Performs g.L.Log (On (λ pages. Leads pages key root p)) old new) (sym w.at-is) (on w.in-Down.next w.in-Down.is)
    ]
