use Rattle.std.proofs.Common.{◌≡◌, drop, ℕ, List, Some, sym, ◌∙◌, ap, subst, refl, arith}
use Rattle.sled_disk.specs.Format.{Record, begin_record}
use Rattle.sled_disk.specs.Reading.{records_of}
use Rattle.sled_disk.specs.LogContents.{records_behind}
use Rattle.sled_disk.proofs.Frames.PendingBuffer.{behind-pushed, parsed-pushed, push-keeps, push-own}
use Rattle.sled_disk.proofs.format.next_frame.NextFrame.pin.Goals as goal

pub returns-clause-records : goal.returns-clause-records
returns-clause-records c =
    let self = c.args.self.now in
    let r : Record = begin_record in
    ap records_behind c.push_record.ensures.items ∙ behind-pushed self.buffer.items r self.are_bytes self.front self.parsed (record { id = omega arith; payload = omega arith })

pub invariant_of-self-clause-are_bytes : goal.invariant_of-self-clause-are_bytes
invariant_of-self-clause-are_bytes c = c.push_record.ensures.are_bytes c.args.self.now.are_bytes

pub invariant_of-self-clause-parsed : goal.invariant_of-self-clause-parsed
invariant_of-self-clause-parsed c =
    let self = c.args.self.now in
    let r : Record = begin_record in
    subst (λ (l : List ℕ). records_of (drop 8 l) ≡ Some (records_behind l)) (sym c.push_record.ensures.items) (parsed-pushed self.buffer.items r self.are_bytes self.front self.parsed (record { id = omega arith; payload = omega arith }))

pub invariant_of-self-clause-batch_is : goal.invariant_of-self-clause-batch_is
invariant_of-self-clause-batch_is c =
    let self = c.args.self.now in
    let r : Record = begin_record in
    push-keeps (records_behind self.buffer.items) (records_behind c.push_record.new.buffer.items) r self.spilled self.batch _ (ap records_behind c.push_record.ensures.items ∙ behind-pushed self.buffer.items r self.are_bytes self.front self.parsed (record { id = omega arith; payload = omega arith })) self.batch_is (refl)

pub invariant_of-self-clause-own : goal.invariant_of-self-clause-own
invariant_of-self-clause-own c =
    let self = c.args.self.now in
    let r : Record = begin_record in
    push-own (records_behind self.buffer.items) (records_behind c.push_record.new.buffer.items) r (ap records_behind c.push_record.ensures.items ∙ behind-pushed self.buffer.items r self.are_bytes self.front self.parsed (record { id = omega arith; payload = omega arith })) self.own (refl)
