use Rattle.std.proofs.Common.{sym, subst}
use Rattle.sled_node.specs.Splitting.{IsSplitPlace}
use Rattle.sled_node.proofs.SplitStored.{left_stored, right_stored, left_data_formed, right_data_formed, stored_split, stored_merge}
use Rattle.sled_node.proofs.node.Node.split_at.Goals as goal

pub split-requires-clause-left : goal.split-requires-clause-left
split-requires-clause-left c =
    let place = subst (λ n. IsSplitPlace n c.args.count c.args.separator) (sym c.self.view_is) c.requires in
    rw (c.as_slice.ensures, c.own_prefix-left_len.ensures) (left_stored c.self.inside c.args.count c.args.separator c.self.invariant place)

pub split-requires-clause-right : goal.split-requires-clause-right
split-requires-clause-right c =
    let place = subst (λ n. IsSplitPlace n c.args.count c.args.separator) (sym c.self.view_is) c.requires in
    rw (c.as_slice.ensures, c.own_prefix-right_len.ensures) (right_stored c.self.inside c.args.count c.args.separator c.self.invariant place)

pub invariant_of-left : goal.invariant_of-left
invariant_of-left c =
    let place = subst (λ n. IsSplitPlace n c.args.count c.args.separator) (sym c.self.view_is) c.requires in
    rw (c.in_ok-left.ensures.left, c.as_slice.ensures, c.own_prefix-left_len.ensures) (left_data_formed c.self.inside c.args.count c.args.separator c.self.invariant place)

pub invariant_of-right : goal.invariant_of-right
invariant_of-right c =
    let place = subst (λ n. IsSplitPlace n c.args.count c.args.separator) (sym c.self.view_is) c.requires in
    rw (c.in_ok-left.ensures.right, c.as_slice.ensures, c.own_prefix-right_len.ensures, c.in_ok-low.ensures.cases) (right_data_formed c.self.inside c.args.count c.args.separator c.self.invariant place)

pub returns-clause-parts : goal.returns-clause-parts
returns-clause-parts c =
    let place = subst (λ n. IsSplitPlace n c.args.count c.args.separator) (sym c.self.view_is) c.requires in
    rw (← c.self.view_is, c.in_ok-left.ensures.left, c.in_ok-left.ensures.right, c.as_slice.ensures, c.own_prefix-left_len.ensures, c.own_prefix-right_len.ensures, c.in_ok-low.ensures.cases) (stored_split c.self.inside c.args.count c.args.separator c.self.invariant place)

pub returns-clause-merge : goal.returns-clause-merge
returns-clause-merge c =
    let place = subst (λ n. IsSplitPlace n c.args.count c.args.separator) (sym c.self.view_is) c.requires in
    rw (← c.self.view_is, c.in_ok-left.ensures.left, c.in_ok-left.ensures.right, c.as_slice.ensures, c.own_prefix-left_len.ensures, c.own_prefix-right_len.ensures, c.in_ok-low.ensures.cases) (stored_merge c.self.inside c.args.count c.args.separator c.self.invariant place)
