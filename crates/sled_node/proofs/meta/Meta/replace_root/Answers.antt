use Rattle.std.proofs.Common.{arith}
use Rattle.sled_node.specs.Meta.{named_pages}
use Rattle.sled_node.proofs.ChangedRoots.{replaced_map}
use Rattle.sled_node.proofs.meta.Meta.replace_root.Goals as goal

pub invariant_of-self : goal.invariant_of-self
invariant_of-self c =
    let done = c.replace_page.ensures in
    replaced_map c.args.name.now c.args.root (named_pages c.self.inside.roots) _ c.replace_page.result c.self.invariant (omega (arith, c.ranges.root.fits)) done.former done.there done.missing
