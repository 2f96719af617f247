use Rattle.std.proofs.Common.{◌≡◌, suc, subst, arith}
use Rattle.std.proofs.lemmas.Option.{slice_get_within}
use Rattle.sled_node.specs.Node.{Value}
use Rattle.sled_node.specs.Neighbours.{IsBefore, IsCount}
use Rattle.sled_node.proofs.Nearest.{is_greatest}
use Rattle.sled_node.proofs.node.Node.predecessor.Goals as goal

pub returns-in_ok-whole_pair-in-Some-clause-greatest : goal.returns-in_ok-whole_pair-in-Some-clause-greatest
returns-in_ok-whole_pair-in-Some-clause-greatest c =
    let n = c.args.self.now in
    let copy = c.in_ok-whole_pair-in-Some in
    let last = c.in-Some.last in
    let next : c.end_before-end.result ≡ suc last = omega arith in
    let count = subst (IsCount (IsBefore c.args.bound.now) (λ key. IsBefore c.args.bound.now key → ⊥) n.pairs) next c.end_before-end.ensures in
    is_greatest (IsBefore c.args.bound.now) n last copy.field-0 copy.ensures.well_formed.ascending (slice_get_within n.pairs last (copy.field-0.0, Value copy.field-0.1) copy.ensures.there) copy.ensures.there count
