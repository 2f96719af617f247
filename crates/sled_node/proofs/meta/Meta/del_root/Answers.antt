use Rattle.std.proofs.Common.{sym, subst}
use Rattle.sled_node.specs.Meta.{named_pages, IsRootMap}
use Rattle.sled_node.proofs.Edits.{has_del}
use Rattle.sled_node.proofs.meta.Meta.del_root.Goals as goal

pub invariant_of-self : goal.invariant_of-self
invariant_of-self c = subst IsRootMap (sym c.take_page.ensures.value) (has_del _ (named_pages c.self.inside.roots) c.self.invariant)
