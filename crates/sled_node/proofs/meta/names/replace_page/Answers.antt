use Rattle.std.proofs.Common.{◌≡◌, Some, ap, sym, ◌∙◌}
use Rattle.sled_node.specs.Meta.{named, root_of, with_root}
use Rattle.sled_node.proofs.RootEntries.{looked_up, page_put}
use Rattle.sled_node.proofs.meta.names.replace_page.Goals as goal

pub returns-in-Some-clause-former : goal.returns-in-Some-clause-former
returns-in-Some-clause-former c = ap Some c.replace.ensures.value ∙ c.in-Some.ensures.value ∙ looked_up c.args.name.now c.args.pages.now.entries

-- the page was written through what was lent
pub returns-in-Some-clause-there : goal.returns-in-Some-clause-there
returns-in-Some-clause-there c =
    let name = c.args.name.now in
    let entries = c.args.pages.now.entries in
    let there : root_of name (named entries) ≡ Some c.in-Some.former.now = sym (looked_up name entries) ∙ sym c.in-Some.ensures.value in
    ap named (c.get_mut.follows.holds c.replace.new.dest).0 ∙ page_put name c.replace.new.dest c.in-Some.former.now entries c.requires.ascending there ∙ ap (λ page. with_root name page (named entries)) c.replace.ensures.after

pub returns-in-None-clause-former : goal.returns-in-None-clause-former
returns-in-None-clause-former c = c.in-None.ensures.value ∙ looked_up c.args.name.now c.args.pages.now.entries
