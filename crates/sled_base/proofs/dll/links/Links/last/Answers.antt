use Rattle.std.proofs.Common.{◌∙◌}
use Rattle.sled_base.proofs.LinkedLists.Standing.{last_live, last_empty}
use Rattle.sled_base.proofs.dll.links.Links.last.Goals as goal

pub returns-clause-live : goal.returns-clause-live
returns-clause-live c = last_live _ _ (c.get.ensures ∙ c.requires.1.tail)

pub returns-clause-empty : goal.returns-clause-empty
returns-clause-empty c = last_empty _ _ (c.get.ensures ∙ c.requires.1.tail)
