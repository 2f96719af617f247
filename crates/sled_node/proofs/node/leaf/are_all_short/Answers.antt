use Rattle.std.proofs.Common.{refl, ap, length, arith}
use Rattle.sled_node.proofs.LeafStrings.{short_together}
use Rattle.sled_node.proofs.node.leaf.are_all_short.Goals as goal

pub returns-then-written-le-MAX_BYTES : goal.returns-then-written-le-MAX_BYTES
returns-then-written-le-MAX_BYTES c = (λ yes. short_together c.args.strings.now (omega (arith, ap length c.written.ensures.value)), λ all. refl)
