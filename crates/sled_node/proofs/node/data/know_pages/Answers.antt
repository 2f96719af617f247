use Rattle.std.proofs.Common.{◌<◌, ◌^◌, ap, ◌∙◌, subst, add-one, arith}
use Rattle.sled_node.proofs.Ascending.{all_more}
use Rattle.sled_node.proofs.node.data.know_pages.Goals as goal

pub loop-pair-preserved : goal.loop-pair-preserved
loop-pair-preserved c =
    let page = c.page_of.ensures.value ∙ ap (λ pair. pair.1) c.pair-item.is in
    rw add-one (all_more (λ pair. pair.1 < 2 ^ 64) c.args.pairs.now c.loop-pair.pair-index c.pair-item.result c.loop-pair.invariant (omega arith) (subst (λ k. k < 2 ^ 64) page c.page_of.ensures.bound))
