use Rattle.std.proofs.Common.{◌≡◌, drop, ℕ, List, Some, sym, ◌∙◌, ap, subst, rules}
use Rattle.sled_disk.specs.Format.{Record}
use Rattle.sled_disk.specs.Reading.{records_of}
use Rattle.sled_disk.specs.LogContents.{records_behind}
use Rattle.sled_disk.proofs.Frames.PendingBuffer.{behind-pushed, parsed-pushed, push-keeps, push-own}
use Rattle.sled_disk.proofs.format.next_frame.NextFrame.push.Goals as goal

pub returns-clause-records : goal.returns-clause-records
returns-clause-records c =
    let self = c.args.self.now in
    let r : Record = record { kind = c.args.kind; id = c.args.page; payload = c.args.payload.now } in
    ap records_behind c.push_record.ensures.items ∙ behind-pushed self.buffer.items r self.are_bytes self.front self.parsed (record { id = search rules; payload = search rules })

pub invariant_of-self-clause-are_bytes : goal.invariant_of-self-clause-are_bytes
invariant_of-self-clause-are_bytes c = c.push_record.ensures.are_bytes c.args.self.now.are_bytes

pub invariant_of-self-clause-parsed : goal.invariant_of-self-clause-parsed
invariant_of-self-clause-parsed c =
    let self = c.args.self.now in
    let r : Record = record { kind = c.args.kind; id = c.args.page; payload = c.args.payload.now } in
    subst (λ (l : List ℕ). records_of (drop 8 l) ≡ Some (records_behind l)) (sym c.push_record.ensures.items) (parsed-pushed self.buffer.items r self.are_bytes self.front self.parsed (record { id = search rules; payload = search rules }))

pub invariant_of-self-clause-batch_is : goal.invariant_of-self-clause-batch_is
invariant_of-self-clause-batch_is c =
    let self = c.args.self.now in
    let r : Record = record { kind = c.args.kind; id = c.args.page; payload = c.args.payload.now } in
    push-keeps (records_behind self.buffer.items) (records_behind c.push_record.new.buffer.items) r self.spilled self.batch _ (ap records_behind c.push_record.ensures.items ∙ behind-pushed self.buffer.items r self.are_bytes self.front self.parsed (record { id = search rules; payload = search rules })) self.batch_is (c.requires.not_mark)

pub invariant_of-self-clause-own : goal.invariant_of-self-clause-own
invariant_of-self-clause-own c =
    let self = c.args.self.now in
    let r : Record = record { kind = c.args.kind; id = c.args.page; payload = c.args.payload.now } in
    push-own (records_behind self.buffer.items) (records_behind c.push_record.new.buffer.items) r (ap records_behind c.push_record.ensures.items ∙ behind-pushed self.buffer.items r self.are_bytes self.front self.parsed (record { id = search rules; payload = search rules })) self.own (c.requires.own)
