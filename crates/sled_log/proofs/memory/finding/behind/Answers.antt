use Rattle.sled_log.proofs.Names.{option_copied, sym, ◌∙◌, ap}
use Rattle.sled_log.specs.declared.memory.item.LogItem.{LogItem}
use Rattle.sled_log.proofs.Stored.{last-says}
use Rattle.sled_log.proofs.memory.finding.behind.Goals as goal

pub returns-in-Some-clause-place : goal.returns-in-Some-clause-place
returns-in-Some-clause-place c = sym (last-says (λ (item : LogItem). item.end) 0 c.args.items.now c.in-Some.item.now (sym c.last.ensures.value ∙ ap option_copied c.in-Some.is))

pub returns-in-Some-clause-start : goal.returns-in-Some-clause-start
returns-in-Some-clause-start c = sym (last-says (λ (item : LogItem). item.payload_end) 0 c.args.items.now c.in-Some.item.now (sym c.last.ensures.value ∙ ap option_copied c.in-Some.is))
