use Rattle.std.proofs.Common.{arith}
use Rattle.sled_base.proofs.StringEdits.{as_seen, kept_after, strings_after}
use Rattle.sled_base.proofs.strings.Strings.insert.Goals as goal

pub insert-requires-clause-within : goal.insert-requires-clause-within
insert-requires-clause-within c = omega (arith, c.requires.within, as_seen c.self.inside.bytes.items c.self.inside.ends.items c.self.view_is)

pub invariant_of-self : goal.invariant_of-self
invariant_of-self c = kept_after _ c.self.inside.bytes.items c.self.inside.ends.items _ _ c.insert.result c.self.invariant c.insert.ensures.ok c.insert.ensures.err

pub returns-clause-ok : goal.returns-clause-ok
returns-clause-ok c = rw (← c.self.view_is) (strings_after _ c.self.inside.bytes.items c.self.inside.ends.items _ _ c.insert.result c.insert.ensures.ok)
