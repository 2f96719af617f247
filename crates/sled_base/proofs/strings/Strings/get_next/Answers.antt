use Rattle.std.proofs.Common.{◌+◌, length, refl, ap, sym, arith}
use Rattle.std.proofs.lemmas.Option.{slice_get_read}
use Rattle.sled_base.specs.Strings.{strings_in}
use Rattle.sled_base.proofs.StringEdits.{as_seen}
use Rattle.sled_base.proofs.strings.Strings.get_next.Goals as goal

pub string_behind-requires-clause-within : goal.string_behind-requires-clause-within
string_behind-requires-clause-within c = omega (arith, c.requires, ap length c.deref.ensures.value, as_seen c.self.inside.bytes.items c.self.inside.ends.items c.self.view_is)

pub returns : goal.returns
returns c =
    let within = rw (← c.self.view_is) at c.requires in
    let here = rw c.deref.ensures.value at c.string_behind.ensures in
    rw (← c.self.view_is) (slice_get_read (strings_in c.self.inside.bytes.items c.self.inside.ends.items) _ (c.args.place + 1) c.string_behind.result.now refl within (sym (here c.string_behind.result.now)))
