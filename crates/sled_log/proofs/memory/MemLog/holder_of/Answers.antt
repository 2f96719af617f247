use Rattle.sled_log.proofs.Names.{sym, ◌∙◌, ap, slice_get, offset_of, kept_in}
use Rattle.std.specs.Prelude.{unsigned_abs}
use Rattle.sled_log.proofs.Rewriting.{named-read}
use Rattle.sled_log.proofs.memory.MemLog.holder_of.Goals as goal

pub returns-in_default-clause-told : goal.returns-in_default-clause-told
returns-in_default-clause-told c = λ i item change place is mark at named.
    let there = c.index_of-at.ensures i item change is mark (ap offset_of at ∙ sym (c.unsigned_abs.ensures.value ∙ ap unsigned_abs (named-read c.args.blob c.ranges.blob.sfits ∙ named))) in
    c.in_default.ensures.told item change (ap (slice_get (kept_in c.args.self.now)) there ∙ is) mark

pub returns-clause-told : goal.returns-clause-told
returns-clause-told c = λ i item change place is mark at named.
    let there = c.index_of-at.ensures i item change is mark (ap offset_of at ∙ sym (c.unsigned_abs.ensures.value ∙ ap unsigned_abs (named-read c.args.blob c.ranges.blob.sfits ∙ named))) in
    let told = c.in-Some.ensures.told item change (ap (slice_get (kept_in c.args.self.now)) there ∙ is) mark in
    (told.0, named-read c.args.blob c.ranges.blob.sfits, told.1)
