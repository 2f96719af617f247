use Rattle.std.proofs.Common.{◌∙◌}
use Rattle.sled_base.proofs.LinkedLists.Standing.{first_live, first_empty}
use Rattle.sled_base.proofs.dll.links.Links.first.Goals as goal

pub returns-clause-live : goal.returns-clause-live
returns-clause-live c = first_live _ _ (c.get.ensures ∙ c.requires.1.head)

pub returns-clause-empty : goal.returns-clause-empty
returns-clause-empty c = first_empty _ _ (c.get.ensures ∙ c.requires.1.head)
