use Rattle.std.proofs.Common.{rules, ◌≡◌, ◌+◌, ◌<◌, ◌^◌, ◌++◌, ◌∷◌, [], ℕ, List, true, length, arith, sym, ◌∙◌, ap, subst}
use Rattle.std.proofs.lemmas.Result.{err_from_is_err_and}
use Rattle.std.proofs.lemmas.Bool.{lt-ltb}
use Rattle.sled_base.specs.Kinds.{log_kind_of, byte_of}
use Rattle.sled_base.specs.declared.kinds.MessageKind.{MessageKind}
use Rattle.sled_log.specs.Calls.{can_append}
use Rattle.std.specs.Global.{Vec}
use Rattle.sled_disk.specs.declared.recovery.head.Head.{Head}
use Rattle.sled_disk.specs.Pending.{open_behind, is_own}
use Rattle.sled_disk.specs.Format.{is_changing}
use Rattle.sled_disk.specs.Reading.{chains_of, step_head, effect_of_head}
use Rattle.sled_disk.specs.LogContents.{records_behind}
use Rattle.sled_disk.specs.StepLaws.{changing}
use Rattle.sled_disk.specs.PendingFrame.{place_of, batch_of}
use Rattle.sled_disk.proofs.Frames.RecordAppend.{append-taken, change-stands, made-none, same-error}
use Rattle.sled_disk.proofs.Frames.WrittenFrame.{open-by-batch}
use Rattle.sled_disk.proofs.Chains.LogHeads.{step-heads, step-ends}
use Rattle.sled_disk.proofs.Moves.MovesAfterCalls.{counted-places}
use Rattle.sled_disk.proofs.Frames.PendingBuffer.{place-is}
use Rattle.sled_disk.proofs.LogCalls.OneMore.{IsMore, more-stands, more-stood, more-looked}
use Rattle.sled_disk.proofs.log.DiskLog.add.Goals.{After-push}
use Rattle.sled_disk.proofs.log.DiskLog.add.Goals as goal

pub returns-in_err-take_head-clause-sound : goal.returns-in_err-take_head-clause-sound
returns-in_err-take_head-clause-sound g c = λ can is.
    let chains = chains_of c.make_room.new.self.pages.items in
    let head : Head = record { kind = c.args.kind; place = c.place-place.result; len = length c.args.payload.now } in
    let p = err_from_is_err_and c.from_residual-in_err-take_head.result c.from_residual-in_err-take_head.ensures.1 in
    let corrupt = sym p.2 ∙ same-error c.from_residual-in_err-take_head.result p.0 _ p.1 is in
    append-taken chains c.args.pid head (ap (λ (l : List (Vec Head)). can_append effect_of_head (chains_of l) c.args.pid c.args.kind) c.make_room.ensures.pages ∙ can)
    (made-none c.in_err-take_head.field-0.0 (chains_of c.take_head.new.pages.items) (step_head chains c.args.pid head) c.in_err-take_head.ensures.made corrupt)

own-of : (kind : MessageKind) (pid : ℕ) (payload : List ℕ) (byte : ℕ) → byte ≡ byte_of kind → is_changing (log_kind_of kind) ≡ true → is_own (record { kind = byte; id = pid; payload = payload }) ≡ true
own-of kind pid payload byte same changes = ap (λ k. is_own (record { kind = k; id = pid; payload = payload })) same ∙ lt-ltb (byte_of kind) 14 (changing kind changes).own

pub push-requires-clause-own : goal.push-requires-clause-own
push-requires-clause-own g c = own-of c.args.kind c.args.pid c.args.payload.now c.from.result c.from.ensures (sym c.is_change.ensures ∙ c.if-not-is_change.false)

pub push-requires-clause-not_mark : goal.push-requires-clause-not_mark
push-requires-clause-not_mark g c =
    let changes : is_changing (log_kind_of c.args.kind) ≡ true = sym c.is_change.ensures ∙ c.if-not-is_change.false in
    let batch = c.make_room.new.self.next.batch in
    ap (open_behind batch) c.from.ensures ∙ (changing c.args.kind changes).opens batch

-- the record waits
more : (g : _) (c : After-push g) → IsMore c.make_room.new.self.next c.push.new.self (record { kind = c.from.result; id = c.args.pid; payload = c.args.payload.now })
more g c = let e = c.push.ensures in record { gate = e.gate; spilled = e.spilled; records = e.records }

pub invariant_of-self-2-clause-stands : goal.invariant_of-self-2-clause-stands
invariant_of-self-2-clause-stands g c = λ told usable.
    let mid = c.make_room.new.self in
    let next = c.push.new.self in
    let chains = chains_of mid.pages.items in
    let at = c.place-place.ensures ∙ place-is mid.next.gate mid.next.buffer.items mid.next.are_bytes mid.next.front mid.next.parsed in
    let records = subst (λ k. records_behind next.buffer.items ≡ records_behind mid.next.buffer.items ++ record { kind = k; id = c.args.pid; payload = c.args.payload.now } ∷ []) c.from.ensures c.push.ensures.records in
    let batch = open-by-batch mid.next next c.push.ensures.batch c.push.ensures.batch_place in
    more-stands (more g (goal.at.invariant_of-self-2-clause-stands g c).After-push) (g.D.Disk.seen mid.disk) _ (chains_of c.take_head.new.pages.items) batch
    (change-stands (g.D.Disk.seen mid.disk) mid.next.gate mid.next.spilled mid.next.buffer.items (batch_of mid.next) chains (λ i. g.met.D.Disk.are_bytes mid.disk i told) (mid.stands told usable) c.args.kind c.args.pid c.place-place.result c.args.payload.now next.buffer.items (chains_of c.take_head.new.pages.items) at (sym c.is_change.ensures ∙ c.if-not-is_change.false) c.in_ok-take_head.ensures.made records)

pub invariant_of-self-2-clause-heads : goal.invariant_of-self-2-clause-heads
invariant_of-self-2-clause-heads g c =
    let mid = c.make_room.new.self in
    let chains = chains_of mid.pages.items in
    let small : c.place-place.result + (17 + length c.args.payload.now) < 2 ^ 63 = search rules in
    step-heads chains c.args.pid (record { kind = c.args.kind; place = c.place-place.result; len = length c.args.payload.now }) (chains_of c.take_head.new.pages.items) small mid.heads c.in_ok-take_head.ensures.made

pub invariant_of-self-2-clause-ends : goal.invariant_of-self-2-clause-ends
invariant_of-self-2-clause-ends g c = λ usable.
    let mid = c.make_room.new.self in
    let next = c.push.new.self in
    let chains = chains_of mid.pages.items in
    let gate = c.push.ensures.gate in
    let len = c.push.ensures.len in
    let at = c.place-place.ensures in
    step-ends (place_of mid.next) (place_of next) chains c.args.pid (record { kind = c.args.kind; place = c.place-place.result; len = length c.args.payload.now }) (chains_of c.take_head.new.pages.items)
    (omega (arith, gate, len)) (omega (arith, gate, len, at)) (mid.ends usable) c.in_ok-take_head.ensures.made

pub returns-clause-added : goal.returns-clause-added
returns-clause-added g c =
    let log = c.args.self.now in
    c.push.ensures.records ∙ ap (λ (l : List ℕ). records_behind l ++ record { kind = c.from.result; id = c.args.pid; payload = c.args.payload.now } ∷ []) c.make_room.ensures.buffer
    ∙ ap (λ k. records_behind log.next.buffer.items ++ record { kind = k; id = c.args.pid; payload = c.args.payload.now } ∷ []) c.from.ensures

pub returns-clause-batch : goal.returns-clause-batch
returns-clause-batch g c = open-by-batch c.make_room.new.self.next c.push.new.self c.push.ensures.batch c.push.ensures.batch_place ∙ c.make_room.ensures.batch

pub invariant_of-self-2-clause-stood : goal.invariant_of-self-2-clause-stood
invariant_of-self-2-clause-stood g c = λ told usable.
    let mid = c.make_room.new.self in
    let seen = g.D.Disk.seen mid.disk in
    let both = counted-places seen (records_behind mid.next.buffer.items) mid.names c.count.new.self c.count.ensures.kept (mid.stood told usable, mid.looked told usable) in
    more-stood (more g (goal.at.invariant_of-self-2-clause-stood g c).After-push) seen c.count.new.self.gate c.count.new.self.at both.0

pub invariant_of-self-2-clause-looked : goal.invariant_of-self-2-clause-looked
invariant_of-self-2-clause-looked g c = λ told usable.
    let mid = c.make_room.new.self in
    let seen = g.D.Disk.seen mid.disk in
    let both = counted-places seen (records_behind mid.next.buffer.items) mid.names c.count.new.self c.count.ensures.kept (mid.stood told usable, mid.looked told usable) in
    more-looked (more g (goal.at.invariant_of-self-2-clause-looked g c).After-push) seen c.count.new.self (own-of c.args.kind c.args.pid c.args.payload.now c.from.result c.from.ensures (sym c.is_change.ensures ∙ c.if-not-is_change.false)) both.0 both.1
