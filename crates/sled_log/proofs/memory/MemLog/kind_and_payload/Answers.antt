use Rattle.sled_log.proofs.Names.{◌+◌, ℕ, List, sym, ◌∙◌, ap, slice_get, offset_of, kind_at, kept_in, part}
use Rattle.sled_log.proofs.memory.MemLog.kind_and_payload.Goals as goal

pub returns : goal.returns
returns c = λ i item change is mark at.
    let there = c.index_of-at.ensures i item change is mark (ap offset_of at ∙ sym c.lid.ensures) in
    let told = c.in_ok-kind.ensures.told item change (ap (slice_get (kept_in c.args.self.now)) there ∙ is) mark in (
      c.kind_read.ensures ∙ ap (kind_at c.args.pointer) told.0 ∙ ap (λ p. kind_at p change.kind) (sym at),
      ap (λ (b : List ℕ). part c.in_ok-kind.start (c.in_ok-kind.start + c.in_ok-kind.len) b) c.deref.ensures.value ∙ told.1,
    )
