use Rattle.sled_base.specs.StringLaws.{strings_are, keeps_own}
use Rattle.sled_base.proofs.strings.builder.StringsBuilder.push.Goals as goal

pub invariant_of-self-2 : goal.invariant_of-self-2
invariant_of-self-2 c = record {
  within = c.in_ok-self-inside.ensures.within;
  keeps = keeps_own _ _ _ c.in_ok-self-inside.ensures.ok;
}

pub returns-clause-ok : goal.returns-clause-ok
returns-clause-ok c = rw (← c.self.view_is) (strings_are _ _ _ c.in_ok-self-inside.ensures.ok)
