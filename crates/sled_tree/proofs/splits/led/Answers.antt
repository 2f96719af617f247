use Rattle.std.proofs.Common.{◌≡◌, ℕ, Some, ap, arith, subst, ◌∙◌}
use Rattle.std.proofs.lemmas.Grind.{common_steps}
use Rattle.sled_base.specs.Order.{Bytes}
use Rattle.sled_node.specs.Children.{HasChildFor}
use Rattle.sled_node.specs.Node.{Child}
use Rattle.sled_search.proofs.Leading.{leading-at}
use Rattle.sled_search.specs.Map.{leading}
use Rattle.sled_tree.proofs.splits.led.Goals as goal

pub returns-clause-led : goal.returns-clause-led
returns-clause-led c =
    let n = c.args.node.now in
    let same = c.as_slice-at.ensures in
    let key = c.as_slice-at.result.now in
    let found = c.index_next_node-leads_to in
    let has : HasChildFor n key = c.has_child_for.ensures.0 (grind arith) in
    let led : leading n.pairs key ≡ Some (Child found.result.1) = leading-at n.pairs key found.result.0 (Child found.result.1) found.ensures in
    record {
      index = has.0;
      ascending = c.data.ensures.well_formed.ascending;
      leads = subst (λ (k : Bytes). leading n.pairs k ≡ Some (Child c.args.child)) same (led ∙ ap (λ (page : ℕ). Some (Child page)) c.if-leads_to-child.false);
      is = grind (arith, common_steps, c.in_ok-parent_split.ensures.value, c.if-not-branch.false, same, c.in_ok-index.ensures.cases);
    }
