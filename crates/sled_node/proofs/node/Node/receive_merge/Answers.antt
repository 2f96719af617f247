use Rattle.std.proofs.Common.{take, sym, ap, subst, ◌∙◌}
use Rattle.sled_node.specs.contracts.node.Node.{the_view}
use Rattle.sled_node.specs.Splitting.{CanReceive, merged}
use Rattle.sled_node.proofs.Receiving.{joined_stored, joined_formed, joined_node}
use Rattle.sled_node.proofs.node.Node.receive_merge.Goals as goal

pub joined-requires-clause-stored : goal.joined-requires-clause-stored
joined-requires-clause-stored c =
    let front = c.prefix.ensures.value ∙ ap (λ n. take n.prefix_len n.lo) (sym c.self.view_is) in
    let back = c.prefix-2.ensures.value ∙ ap (λ n. take n.prefix_len n.lo) (sym c.right.view_is) in
    let can = subst (CanReceive (the_view c.self.inside)) (sym c.right.view_is) (subst (λ l. CanReceive l c.args.right.now) (sym c.self.view_is) c.requires) in
    rw (c.own_prefix-prefix_len.ensures, front, back) (joined_stored c.self.inside c.right.inside c.self.invariant c.right.invariant can)

pub invariant_of-result : goal.invariant_of-result
invariant_of-result c =
    let front = c.prefix.ensures.value ∙ ap (λ n. take n.prefix_len n.lo) (sym c.self.view_is) in
    let back = c.prefix-2.ensures.value ∙ ap (λ n. take n.prefix_len n.lo) (sym c.right.view_is) in
    let can = subst (CanReceive (the_view c.self.inside)) (sym c.right.view_is) (subst (λ l. CanReceive l c.args.right.now) (sym c.self.view_is) c.requires) in
    rw (c.in_ok-contents.ensures, c.own_prefix-prefix_len.ensures, front, back, c.in_ok-lo.ensures.cases, c.in_ok-hi.ensures.cases) (joined_formed c.self.inside c.right.inside c.self.invariant c.right.invariant can)

pub returns : goal.returns
returns c =
    let front = c.prefix.ensures.value ∙ ap (λ n. take n.prefix_len n.lo) (sym c.self.view_is) in
    let back = c.prefix-2.ensures.value ∙ ap (λ n. take n.prefix_len n.lo) (sym c.right.view_is) in
    let can = subst (CanReceive (the_view c.self.inside)) (sym c.right.view_is) (subst (λ l. CanReceive l c.args.right.now) (sym c.self.view_is) c.requires) in
    rw (c.in_ok-contents.ensures, c.own_prefix-prefix_len.ensures, front, back, c.in_ok-lo.ensures.cases, c.in_ok-hi.ensures.cases) (joined_node c.self.inside c.right.inside c.self.invariant c.right.invariant can ∙ (λ i. merged (c.self.view_is i) (c.right.view_is i)))
