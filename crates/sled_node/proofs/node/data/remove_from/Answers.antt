use Rattle.std.proofs.Common.{◌∙◌, sym}
use Rattle.sled_node.proofs.Pages.{without_found, without_none}
use Rattle.sled_node.proofs.node.data.remove_from.Goals as goal

pub returns-in-Some : goal.returns-in-Some
returns-in-Some c =
    let found = rw c.deref.ensures.value at c.in-Some.ensures in
    c.remove.ensures.items ∙ without_found c.args.page c.args.pairs.now.items c.in-Some.at (sym found)

pub returns-in_default : goal.returns-in_default
returns-in_default c =
    let none = rw c.deref.ensures.value at c.in_default.ensures in
    without_none c.args.page c.args.pairs.now.items (sym none)
