use Rattle.std.proofs.Common.{take, ap, arith}
use Rattle.std.proofs.lemmas.List.{length-take-le}
use Rattle.sled_node.specs.Sizes.{node_size}
use Rattle.sled_node.proofs.WholeKeys.{prefix_within}
use Rattle.sled_node.proofs.Sizes.{data_under}
use Rattle.sled_node.proofs.node.Node.rss.Goals as goal

pub returns : goal.returns
returns c =
    let n = c.self.inside in
    let pairs = data_under n.prefix_len (take n.prefix_len n.lo) (length-take-le n.prefix_len n.lo (prefix_within _ c.self.invariant).0) n.contents in
    omega (arith, c.len.ensures, c.len-2.ensures, c.rss.ensures.value, pairs, ap node_size c.self.view_is)
