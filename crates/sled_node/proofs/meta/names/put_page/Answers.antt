use Rattle.std.proofs.Common.{ap, ◌∙◌, sym}
use Rattle.sled_node.specs.Meta.{named}
use Rattle.sled_node.proofs.RootEntries.{looked_up, put_in}
use Rattle.sled_node.proofs.meta.names.put_page.Goals as goal

pub returns-clause-former : goal.returns-clause-former
returns-clause-former c = c.in_ok-former.ensures.old ∙ looked_up c.args.name.items c.args.pages.now.entries

pub returns-clause-ok : goal.returns-clause-ok
returns-clause-ok c = ap named c.in_ok-former.ensures.entries ∙ put_in c.args.name c.args.page c.args.pages.now.entries c.requires.ascending

pub returns-in_err-former-clause-there : goal.returns-in_err-former-clause-there
returns-in_err-former-clause-there c = λ there. absurd (there (sym (looked_up c.args.name.items c.args.pages.now.entries) ∙ c.in_err-former.ensures.absent))
