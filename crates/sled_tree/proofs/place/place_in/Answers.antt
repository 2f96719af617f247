use Rattle.sled_node.specs.Node.{Value}
use Rattle.sled_search.proofs.Pairs.{at-answer}
use Rattle.sled_tree.proofs.place.place_in.Goals as goal

pub returns-clause-place : goal.returns-clause-place
returns-clause-place c = (
  (
    (c.requires.leaf, c.requires.range),
    at-answer c.args.node.now.pairs c.args.key.now c.in_ok-stored.value (λ v. Value v) c.data.ensures.well_formed.ascending c.in_ok-stored.ensures.value c.in_ok-stored.ensures.absent,
  ),
  c.in_ok-stored.ensures.key,
)
