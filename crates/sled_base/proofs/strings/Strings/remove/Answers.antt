use Rattle.std.proofs.Common.{arith}
use Rattle.sled_base.proofs.StringEdits.{as_seen}
use Rattle.sled_base.specs.StringLaws.{strings_are, keeps_own}
use Rattle.sled_base.proofs.strings.Strings.remove.Goals as goal

pub remove-requires-clause-within : goal.remove-requires-clause-within
remove-requires-clause-within c =
    omega (arith, c.requires, as_seen c.self.inside.bytes.items c.self.inside.ends.items c.self.view_is)

pub invariant_of-self : goal.invariant_of-self
invariant_of-self c = keeps_own _ _ _ c.remove.ensures

pub returns : goal.returns
returns c = rw (← c.self.view_is) (strings_are _ _ _ c.remove.ensures)
