use Rattle.std.proofs.Common.{◌∙◌}
use Rattle.std.proofs.lemmas.Result.{MatchResult-weaker}
use Rattle.sled_node.proofs.RootEntries.{copied_entries}
use Rattle.sled_node.proofs.meta.Meta.tenants.Goals as goal

pub returns : goal.returns
returns c = MatchResult-weaker c.clone.result c.clone.ensures.cases (λ tenants copied. copied_entries c.self.inside.roots.entries tenants.entries copied ∙ c.self.view_is) (λ error refused. tt)
