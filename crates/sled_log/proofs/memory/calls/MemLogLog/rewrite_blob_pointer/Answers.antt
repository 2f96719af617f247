use Rattle.sled_log.proofs.Names.{◌≡◌, ◌+◌, ◌≤◌, true, Option, Some, IsSomeAnd, [], ◌∷◌, subst, ⊤, Called, Change, Full, MessageKind, Message, placed_entry, put_message, effect_of_entry, state_of, clock_of, might_have_left, counts_of, kept_in, now, part, Held, size_limit}
use Rattle.std.specs.List.{list_any}
use Rattle.std.specs.Prelude.{IfOk, IsErrOf, ◌↔◌}
use Rattle.sled_log.specs.Inside.Blobs.{marks_of, is_first}
use Rattle.sled_log.specs.Inside.Memory.{MovesNothing}
use Rattle.sled_log.specs.MemLog.State.{size_of}
use Rattle.sled_log.specs.Messages.{message_size}
use Rattle.sled_log.specs.Moves.{message_at}
use Rattle.sled_log.proofs.Rewriting.{Tells, finds-first, first-held, message-is, named-read}
use Rattle.sled_log.proofs.memory.calls.MemLogLog.rewrite_blob_pointer.Goals.{In-Some}
use Rattle.sled_log.proofs.memory.calls.MemLogLog.rewrite_blob_pointer.Goals as goal

-- the message that the log holds is found
never : (c : goal.In_default) → ⊥
never c = subst (λ (o : Option (MessageKind × Held)). IsSomeAnd o (Tells c.args.blob c.args.self.now.bytes.items (message_at (now effect_of_entry (state_of c.args.self.now)) c.args.pid))) c.in_default.is (finds-first c.args.self.now c.args.pid c.args.blob _ (named-read c.args.blob c.ranges.blob.sfits) c.holder_of.result c.requires.holds c.holder_of.ensures.told)

pub returns-in_default-clause-called : goal.returns-in_default-clause-called
returns-in_default-clause-called c = absurd (never c)

pub returns-in_default-clause-full : goal.returns-in_default-clause-full
returns-in_default-clause-full c = absurd (never c)

told : (c : In-Some) → Tells c.args.blob c.args.self.now.bytes.items (message_at (now effect_of_entry (state_of c.args.self.now)) c.args.pid) (c.in-Some.kind, c.in-Some.held)
told c = subst (λ (o : Option (MessageKind × Held)). IsSomeAnd o (Tells c.args.blob c.args.self.now.bytes.items (message_at (now effect_of_entry (state_of c.args.self.now)) c.args.pid))) c.in-Some.is (finds-first c.args.self.now c.args.pid c.args.blob _ (named-read c.args.blob c.ranges.blob.sfits) c.holder_of.result c.requires.holds c.holder_of.ensures.told)

-- it is put again
same : (c : In-Some) → put_message c.args.self.now c.in-Some.kind (Some c.in-Some.held) [] ≡ message_at (now effect_of_entry (state_of c.args.self.now)) c.args.pid
same c = message-is _ c.in-Some.kind _ (told c).0 (told c).2

pub put-requires-clause-held : goal.put-requires-clause-held
put-requires-clause-held c = λ named is.
    let self = c.args.self.now in
    let at = (goal.at.put-requires-clause-held c).In-Some in
    let it : c.in-Some.held ≡ named = cc in
    subst (λ (held : Held). list_any (is_first held.first c.in-Some.kind (part held.start (held.start + held.len) self.bytes.items)) (marks_of (kept_in self)) ≡ true) it
    (rw ((told at).0, (told at).1, (told at).2) (first-held self c.args.pid c.args.blob c.requires.holds))

pub returns-clause-called : goal.returns-clause-called
returns-clause-called c =
    let self = c.args.self.now in
    subst (λ (m : Message). Called ⊤ state_of clock_of might_have_left counts_of self c.put.new.self self.reads (λ said. Change c.args.pid (placed_entry m said) ∷ []) (Change c.args.pid m ∷ []) c.put.result)
    (same (goal.at.returns-clause-called c).In-Some) c.put.ensures.called

pub returns-clause-size : goal.returns-clause-size
returns-clause-size c = subst (λ (m : Message). IfOk c.put.result (λ said. said.2 ≡ message_size m)) (same (goal.at.returns-clause-size c).In-Some) c.put.ensures.size

pub returns-clause-moves : goal.returns-clause-moves
returns-clause-moves c =
    subst (λ (m : Message). MovesNothing c.args.self.now c.put.new.self (λ said. Change c.args.pid (placed_entry m said) ∷ []) c.put.result) (same (goal.at.returns-clause-moves c).In-Some) c.put.ensures.moves

pub returns-clause-full : goal.returns-clause-full
returns-clause-full c =
    subst (λ (m : Message). IsErrOf c.put.result Full ↔ (size_limit ≤ size_of c.args.self.now + message_size m)) (same (goal.at.returns-clause-full c).In-Some) c.put.ensures.full
