use Rattle.sled_pagecache.proofs.Names.{refl, sym, ◌∙◌, false≢true, found_message}
use Rattle.sled_pagecache.proofs.Memory.FoundMessages.{leads_nowhere}
use Rattle.sled_node.specs.declared.node.link.Link.TheVariants.{Set}
use Rattle.sled_pagecache.proofs.pagecache.memory.reading.apply_link.Goals as goal

pub returns-then-not-accepts_pair-clause-refused : goal.returns-then-not-accepts_pair-clause-refused
returns-then-not-accepts_pair-clause-refused c = (
  refl,
  leads_nowhere c.args.node.now (found_message c.args.found.now) (Set c.in-Some.key.now c.in-Some.value.now) c.in-Some.ensures
      (λ accepts. false≢true (sym c.if-not-accepts_pair.true ∙ c.accepts_pair.ensures.1 accepts)),
)

pub returns-then-not-accepts-clause-refused : goal.returns-then-not-accepts-clause-refused
returns-then-not-accepts-clause-refused c = (
  refl,
  leads_nowhere c.args.node.now (found_message c.args.found.now) c.in_ok-link.link c.in_ok-link.ensures.read
      (λ accepts. false≢true (sym c.if-not-accepts.true ∙ c.accepts.ensures.1 accepts)),
)
