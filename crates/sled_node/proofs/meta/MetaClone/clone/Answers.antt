use Rattle.std.proofs.Common.{sym, subst, ◌∙◌}
use Rattle.sled_node.specs.Meta.{IsRootMap}
use Rattle.sled_node.proofs.RootEntries.{copied_entries}
use Rattle.sled_node.proofs.meta.MetaClone.clone.Goals as goal

pub invariant_of-result : goal.invariant_of-result
invariant_of-result c = subst IsRootMap (sym (copied_entries c.self.inside.roots.entries c.in_ok-clone.field-0.entries c.in_ok-clone.ensures.cases)) c.self.invariant

pub returns : goal.returns
returns c = record { cases = copied_entries c.self.inside.roots.entries c.in_ok-clone.field-0.entries c.in_ok-clone.ensures.cases ∙ c.self.view_is }
