use Rattle.std.proofs.Common.{arith}
use Rattle.sled_node.specs.Node.{Value}
use Rattle.sled_search.proofs.Pairs.{at-answer}
use Rattle.sled_search.proofs.leaf.value_in.Goals as goal

pub returns-clause-value : goal.returns-clause-value
returns-clause-value c = (grind arith, at-answer c.args.node.now.pairs c.args.key.now c.in_ok-value.value (λ v. Value v) c.data.ensures.well_formed.ascending c.in_ok-value.ensures.value c.in_ok-value.ensures.absent)
