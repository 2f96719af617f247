use Rattle.sled_base.proofs.StringEdits.{kept_after, strings_after}
use Rattle.sled_base.proofs.strings.Strings.push.Goals as goal

pub invariant_of-self : goal.invariant_of-self
invariant_of-self c = kept_after _ c.self.inside.bytes.items c.self.inside.ends.items _ _ c.push.result c.self.invariant c.push.ensures.ok c.push.ensures.err

pub returns-clause-ok : goal.returns-clause-ok
returns-clause-ok c = rw (← c.self.view_is) (strings_after _ c.self.inside.bytes.items c.self.inside.ends.items _ _ c.push.result c.push.ensures.ok)
