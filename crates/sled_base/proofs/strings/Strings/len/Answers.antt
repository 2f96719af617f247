use Rattle.std.proofs.Common.{arith}
use Rattle.sled_base.specs.StringLaws.{strings_count}
use Rattle.sled_base.proofs.strings.Strings.len.Goals as goal

pub returns : goal.returns
returns c = rw (← c.self.view_is) (omega (arith, c.len.ensures, c.self.inside.ends.ok.0, strings_count 0 c.self.inside.bytes.items c.self.inside.ends.items))
