use Rattle.std.proofs.Common.{ap, ◌∙◌, subst, add-one, arith}
use Rattle.sled_node.specs.Parts.{IsStoredWithin}
use Rattle.sled_node.proofs.Ascending.{all_more}
use Rattle.sled_node.proofs.node.parts.are_within.Goals as goal

pub loop-pair-preserved : goal.loop-pair-preserved
loop-pair-preserved g c =
    let here : IsStoredWithin c.args.lo.now c.args.hi.now c.args.most c.as_slice.result.now = c.is_within.ensures.0 cc in
    let key = c.as_slice.ensures ∙ ap (λ pair. pair.0) c.pair-item.is in
    rw add-one (all_more (λ pair. IsStoredWithin c.args.lo.now c.args.hi.now c.args.most pair.0) c.args.pairs.now c.loop-pair.pair-index c.pair-item.result c.loop-pair.invariant (omega arith) (subst (λ k. IsStoredWithin c.args.lo.now c.args.hi.now c.args.most k) key here))
