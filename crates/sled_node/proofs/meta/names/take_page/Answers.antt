use Rattle.std.proofs.Common.{ap, ◌∙◌}
use Rattle.sled_node.specs.Meta.{named}
use Rattle.sled_node.proofs.RootEntries.{looked_up, taken_out}
use Rattle.sled_node.proofs.meta.names.take_page.Goals as goal

pub returns-clause-former : goal.returns-clause-former
returns-clause-former c = c.remove.ensures.value ∙ looked_up c.args.name.now c.args.pages.now.entries

pub returns-clause-value : goal.returns-clause-value
returns-clause-value c = ap named c.remove.ensures.entries ∙ taken_out c.args.name.now c.args.pages.now.entries c.requires.ascending
