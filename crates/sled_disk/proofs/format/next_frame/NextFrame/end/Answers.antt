use Rattle.std.proofs.Common.{◌≡◌, ◌++◌, ◌∷◌, [], drop, ℕ, List, Some, false, sym, ◌∙◌, ap, subst, arith, ⊎_elim}
use Rattle.sled_disk.specs.Format.{Record, mark_id}
use Rattle.sled_disk.specs.Pending.{open_behind, is_own}
use Rattle.sled_disk.specs.Reading.{records_of}
use Rattle.sled_disk.specs.LogContents.{records_behind}
use Rattle.sled_disk.proofs.Frames.PendingBuffer.{behind-pushed, parsed-pushed, push-keeps, push-own}
use Rattle.sled_disk.proofs.format.next_frame.NextFrame.end.Goals as goal

pub returns-clause-records : goal.returns-clause-records
returns-clause-records c =
    let self = c.args.self.now in
    let r : Record = record { kind = c.args.kind; id = mark_id; payload = c.bytes_of.result } in
    ap records_behind c.push_record.ensures.items ∙ behind-pushed self.buffer.items r self.are_bytes self.front self.parsed (record { id = omega arith; payload = let l = c.bytes_of.ensures.length in omega (arith, l) })
    ∙ ap (λ (payload : List ℕ). records_behind self.buffer.items ++ record { kind = c.args.kind; id = mark_id; payload = payload } ∷ []) c.bytes_of.ensures.bytes

pub invariant_of-self-clause-are_bytes : goal.invariant_of-self-clause-are_bytes
invariant_of-self-clause-are_bytes c = c.push_record.ensures.are_bytes c.args.self.now.are_bytes

pub invariant_of-self-clause-parsed : goal.invariant_of-self-clause-parsed
invariant_of-self-clause-parsed c =
    let self = c.args.self.now in
    let r : Record = record { kind = c.args.kind; id = mark_id; payload = c.bytes_of.result } in
    subst (λ (l : List ℕ). records_of (drop 8 l) ≡ Some (records_behind l)) (sym c.push_record.ensures.items) (parsed-pushed self.buffer.items r self.are_bytes self.front self.parsed (record { id = omega arith; payload = let l = c.bytes_of.ensures.length in omega (arith, l) }))

pub invariant_of-self-clause-batch_is : goal.invariant_of-self-clause-batch_is
invariant_of-self-clause-batch_is c =
    let self = c.args.self.now in
    let r : Record = record { kind = c.args.kind; id = mark_id; payload = c.bytes_of.result } in
    push-keeps (records_behind self.buffer.items) (records_behind c.push_record.new.buffer.items) r self.spilled self.batch false
    (ap records_behind c.push_record.ensures.items ∙ behind-pushed self.buffer.items r self.are_bytes self.front self.parsed (record { id = omega arith; payload = let l = c.bytes_of.ensures.length in omega (arith, l) })) self.batch_is
    (⊎_elim (λ h. ap (open_behind self.batch) h) (λ h. ap (open_behind self.batch) h) c.requires.kind)

pub invariant_of-self-clause-own : goal.invariant_of-self-clause-own
invariant_of-self-clause-own c =
    let self = c.args.self.now in
    let r : Record = record { kind = c.args.kind; id = mark_id; payload = c.bytes_of.result } in
    push-own (records_behind self.buffer.items) (records_behind c.push_record.new.buffer.items) r
    (ap records_behind c.push_record.ensures.items ∙ behind-pushed self.buffer.items r self.are_bytes self.front self.parsed (record { id = omega arith; payload = let l = c.bytes_of.ensures.length in omega (arith, l) })) self.own
    (⊎_elim (λ h. ap (λ k. is_own (record { kind = k; id = mark_id; payload = c.bytes_of.result })) h) (λ h. ap (λ k. is_own (record { kind = k; id = mark_id; payload = c.bytes_of.result })) h) c.requires.kind)
