use Rattle.std.proofs.Common.{refl}
use Rattle.sled_tree.specs.declared.merging.plan.Plan.{Plan}
use Rattle.sled_tree.proofs.MergingPages.{planned}
use Rattle.sled_tree.proofs.OrderedReads.{read-also, read-done, read-fails, read-first}
use Rattle.sled_tree.proofs.merging.plan.plan_for.Goals as goal

pub returns-in_err-parted-clause-plan : goal.returns-in_err-parted-clause-plan
returns-in_err-parted-clause-plan g c =
    let first = read-first g.L.Log (rw c.in-Some.is at c.in_ok-joined.ensures.joined) in
    read-fails g.L.Log first c.from_residual-in_err-parted.ensures.0 c.parted_at.ensures.parted

pub returns-in_default-2-clause-plan : goal.returns-in_default-2-clause-plan
returns-in_default-2-clause-plan g c =
    let first = read-first g.L.Log (rw c.in-Some.is at c.in_ok-joined.ensures.joined) in
    read-done g.L.Log first (λ _ _ _. tt) c.in_ok-parted.ensures.parted

pub returns-in_err-are_on_way-clause-plan : goal.returns-in_err-are_on_way-clause-plan
returns-in_err-are_on_way-clause-plan g c =
    let first = read-first g.L.Log (rw c.in-Some.is at c.in_ok-joined.ensures.joined) in
    read-fails g.L.Log (read-also g.L.Log first c.in_ok-parted.ensures.parted) c.from_residual-in_err-are_on_way.ensures.0 c.are_on_way.ensures

pub returns-then-not-branch-clause-plan : goal.returns-then-not-branch-clause-plan
returns-then-not-branch-clause-plan g c =
    let first = read-first g.L.Log (rw c.in-Some.is at c.in_ok-joined.ensures.joined) in
    read-done g.L.Log (read-also g.L.Log first c.in_ok-parted.ensures.parted) (λ _ _ _. tt) c.in_ok-are_on_way.ensures

pub returns-clause-plan : goal.returns-clause-plan
returns-clause-plan g c =
    let joined = c.in-Some.joined in
    let parted = c.in-Some-2.parted in
    let plan : Plan = record { above = parted.index; left = joined.left; right = joined.right } in
    let first = read-first g.L.Log (rw c.in-Some.is at c.in_ok-joined.ensures.joined) in
    let both = read-also g.L.Log first (rw c.in-Some-2.is at c.in_ok-parted.ensures.parted) in
    read-done g.L.Log both (λ pages p q. planned pages c.args.root c.args.above c.args.neighbours joined parted p.0 p.1 (q c.if-not-branch.false) plan refl refl) c.in_ok-are_on_way.ensures
