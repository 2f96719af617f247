use Rattle.std.proofs.Common.{◌∙◌}
use Rattle.sled_node.proofs.RootEntries.{looked_up}
use Rattle.sled_node.proofs.meta.names.root_of.Goals as goal

pub returns : goal.returns
returns c = c.copied.ensures ∙ c.get.ensures.value ∙ looked_up c.args.name.now c.args.pages.now.entries
