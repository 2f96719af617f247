use Rattle.std.proofs.Common.{◌≡◌, sym, ◌∙◌, ap, subst}
use Rattle.std.specs.declared.ops.Bound.{Bound}
use Rattle.std.specs.declared.ops.Bound.TheVariants.{Included, Excluded}
use Rattle.sled_base.specs.Order.{Bytes}
use Rattle.sled_search.specs.Ordered.{HasBefore}
use Rattle.sled_search.proofs.Counts.{CountsBefore, excluded-low, count-included, count-excluded, count-all}
use Rattle.sled_search.proofs.bounds.count_before.Goals as goal

pub count_below-requires-clause-low : goal.count_below-requires-clause-low
count_below-requires-clause-low c = rw c.as_slice-in-Excluded.ensures (excluded-low c.args.node.now c.in-Excluded.key (subst (λ (b : Bound Bytes). HasBefore b c.args.node.now) c.in-Excluded.is c.requires.has))

pub returns-in-Included : goal.returns-in-Included
returns-in-Included c =
    let pairs = c.args.node.now.pairs in
    let is : c.args.bound.now ≡ Included c.as_slice.result.now = c.in-Included.is ∙ ap (λ (b : Bytes). Included b) (sym c.as_slice.ensures) in
    subst (λ (b : Bound Bytes). CountsBefore b pairs c.count_up_to.result) (sym is) (count-included c.as_slice.result.now pairs c.count_up_to.result c.count_up_to.ensures)

pub returns-in-Excluded : goal.returns-in-Excluded
returns-in-Excluded c =
    let pairs = c.args.node.now.pairs in
    let is : c.args.bound.now ≡ Excluded c.as_slice-in-Excluded.result.now = c.in-Excluded.is ∙ ap (λ (b : Bytes). Excluded b) (sym c.as_slice-in-Excluded.ensures) in
    subst (λ (b : Bound Bytes). CountsBefore b pairs c.count_below.result) (sym is) (count-excluded c.as_slice-in-Excluded.result.now pairs c.count_below.result c.count_below.ensures)

pub returns-in-Unbounded : goal.returns-in-Unbounded
returns-in-Unbounded c = rw (c.in-Unbounded.is, c.len.ensures) (count-all c.args.node.now.pairs)
