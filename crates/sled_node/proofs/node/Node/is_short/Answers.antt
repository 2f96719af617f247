use Rattle.std.proofs.Common.{◌↔◌, IsTrue, ◌-◌, ◌^◌, length, subst}
use Rattle.std.proofs.Math.Dec.{leb}
use Rattle.sled_node.specs.Pairs.{IsWithinLimit}
use Rattle.sled_node.specs.Node.{whole}
use Rattle.sled_node.proofs.WholeKeys.{short_test}
use Rattle.sled_node.proofs.node.Node.is_short.Goals as goal

pub returns : goal.returns
returns c =
    let stored = c.args.stored.now in
    subst (λ n. IsTrue (leb (length stored) (2 ^ 31 - 1 - c.self.inside.prefix_len)) ↔ IsWithinLimit (whole n stored)) c.self.view_is (short_test _ c.self.invariant stored)
