use Rattle.std.specs.Prelude.{nat_eq}
use Rattle.std.proofs.Common.{sym, ◌∙◌}
use Rattle.sled_node.specs.Equality.{same_pairs}
use Rattle.sled_node.proofs.RootEntries.{compared_entries}
use Rattle.sled_node.proofs.meta.MetaPartialEq.eq.Goals as goal

pub returns : goal.returns
returns c = c.eq.ensures ∙ sym (compared_entries c.self.inside.roots.entries c.other.inside.roots.entries) ∙ (λ i. same_pairs nat_eq (c.self.view_is i) (c.other.view_is i))
