use Rattle.std.proofs.Common.{◌≡◌, ◌≢◌, ◌⊎◌, inl, inr, ⊎_elim, ℕ, List, [], get_or, slice_index_or, refl, sym, ◌∙◌, ap, subst, arith}
use Rattle.std.specs.Prelude.{Err}
use Rattle.std.specs.Global.{Vec}
use Rattle.std.specs.List.{All, AllByRecursion}
use Rattle.std.proofs.lemmas.Bool.{cases_lt}
use Rattle.std.proofs.lemmas.Result.{err_from_is_err_and}
use Rattle.sled_base.specs.declared.kinds.MessageKind.TheVariants as kinds
use Rattle.sled_base.specs.declared.types.DiskPtr.{DiskPtr}
use Rattle.sled_base.specs.declared.types.DiskPtr.TheVariants.{Inline}
use Rattle.sled_base.specs.Pointers.{offset_of}
use Rattle.sled_log.specs.LogState.{now}
use Rattle.sled_log.specs.Messages.{effect_of_entry}
use Rattle.sled_log.specs.Pages.{IsAt, IsReadAs}
use Rattle.sled_log.specs.Payloads.{payload_in}
use Rattle.sled_log.specs.declared.log.LogError.{LogError}
use Rattle.sled_log.specs.declared.log.LogError.TheVariants.{Memory, Full, ReadFault, Corruption}
use Rattle.sled_disk.specs.declared.recovery.head.Head.{Head}
use Rattle.sled_disk.specs.declared.format.next_frame.NextFrame.{NextFrame}
use Rattle.sled_disk.specs.HeadLookup.{IsHeadOf}
use Rattle.sled_disk.specs.Pending.{state_in}
use Rattle.sled_disk.specs.Reading.{chains_of}
use Rattle.sled_disk.specs.RecoveredLog.{IsFull}
use Rattle.sled_disk.proofs.Frames.RecordAppend.{same-error}
use Rattle.sled_disk.proofs.Chains.MessageLookup.{read-is, known-place, durable-payload, pending-payload, all-at}
use Rattle.sled_disk.specs.LogContents.{records_behind}
use Rattle.sled_disk.specs.PendingFrame.{place_of, batch_of}
use Rattle.sled_disk.proofs.Chains.LogHeads.{found-placed, found-ends}
use Rattle.sled_disk.proofs.LogCalls.CallOutcomes.{called-read, called-unread, rests-same}
use Rattle.sled_disk.proofs.log.calls.DiskLogLog.read_to.Goals as goal

no_head : Head
no_head = record { kind = kinds.Corrupted; place = 0; len = 0 }

pub returns-clause-found : goal.returns-clause-found
returns-clause-found g c = λ told.
    let log = c.args.self.now in
    let head = c.in-Some.head in
    let found = (subst (λ (l : List (Vec Head)). IsHeadOf c.in-Inline.at c.in-Some.head (slice_index_or (chains_of l) c.args.pid [])) c.deref.ensures.value c.in-Some.ensures.some) in
    let payload = ⊎_elim (λ lt. c.in_ok-payload.ensures.pending lt ∙ pending-payload (g.D.Disk.seen log.disk) log.next.gate log.next.spilled log.next.buffer.items log.usable (batch_of log.next) (chains_of log.pages.items) (λ i. g.met.D.Disk.are_bytes log.disk i told) (log.stands told c.requires.usable) log.next.are_bytes log.next.front log.next.parsed log.next.own c.args.pid c.in-Inline.at head found lt)
    (λ le. c.in_ok-payload.ensures.durable told le ∙ durable-payload (g.D.Disk.seen log.disk) log.next.gate log.next.spilled log.next.buffer.items log.usable (batch_of log.next) (chains_of log.pages.items) (λ i. g.met.D.Disk.are_bytes log.disk i told) (log.stands told c.requires.usable) log.next.are_bytes log.next.front log.next.parsed log.next.own c.args.pid c.in-Inline.at head found le) (cases_lt log.next.gate head.place) in
    subst (λ (pointer : DiskPtr). All (λ entry. IsAt c.args.lsn pointer entry → IsReadAs entry head.kind (payload_in c.payload.new.space c.in_ok-payload.payload)) (slice_index_or (now effect_of_entry (state_in (g.D.Disk.seen log.disk) log.next.gate log.next.spilled log.next.buffer.items log.usable)) c.args.pid [])) (sym c.in-Inline.is)
    (read-is (g.D.Disk.seen log.disk) log.next.gate log.next.spilled log.next.buffer.items log.usable (batch_of log.next) (chains_of log.pages.items) (λ i. g.met.D.Disk.are_bytes log.disk i told) (log.stands told c.requires.usable) log.next.are_bytes log.next.front log.next.parsed log.next.own c.args.pid c.in-Inline.at head found c.args.lsn head.kind (payload_in c.payload.new.space c.in_ok-payload.payload) refl payload)

pub returns-clause-called : goal.returns-clause-called
returns-clause-called g c =
    let log = c.args.self.now in
    called-read g.D.Disk (λ disk left told was. g.met.D.Disk.only_now disk left told was) (λ disk told i. g.met.D.Disk.are_bytes disk i told)
    log c.payload.new.self _ c.payload.ensures.usable (record { gate = ap (λ (next : NextFrame). next.gate) c.payload.ensures.next; spilled = ap (λ (next : NextFrame). next.spilled) c.payload.ensures.next; records = ap (λ (next : NextFrame). records_behind next.buffer.items) c.payload.ensures.next }) (c.payload.ensures.reads ∙ c.count.ensures) c.payload.ensures.rests
    c.requires.usable
    c.payload.ensures.faults.failed_reads c.payload.ensures.faults.write_faults (c.in-Some.head.kind, c.in_ok-payload.payload)

pub returns-clause-room : goal.returns-clause-room
returns-clause-room g c = λ n full. subst (λ (next : NextFrame). IsFull next.gate next.buffer.items next.batch n) c.payload.ensures.next full

pub returns-in_err-payload-clause-room : goal.returns-in_err-payload-clause-room
returns-in_err-payload-clause-room g c = λ n full. subst (λ (next : NextFrame). IsFull next.gate next.buffer.items next.batch n) c.payload.ensures.next full

pub payload-requires : goal.payload-requires
payload-requires g c =
    let log = c.args.self.now in
    let found = (subst (λ (l : List (Vec Head)). IsHeadOf c.in-Inline.at c.in-Some.head (slice_index_or (chains_of l) c.args.pid [])) c.deref.ensures.value c.in-Some.ensures.some) in
    record {
      usable = c.requires.usable;
      placed = found-placed (chains_of log.pages.items) c.args.pid c.in-Inline.at c.in-Some.head log.heads found;
      ends = found-ends (place_of log.next) (chains_of log.pages.items) c.args.pid c.in-Inline.at c.in-Some.head (log.ends c.requires.usable) found;
    }

same-place : (pointer : DiskPtr) (at other : ℕ) → pointer ≡ Inline at → pointer ≡ Inline other → at ≡ other
same-place pointer at other is also = ap offset_of (sym is ∙ also)

pub returns-clause-memory : goal.returns-clause-memory
returns-clause-memory g c = λ at is lt.
    let found = c.in-Some.ensures.some in
    let place = found.3 ∙ same-place c.args.pointer c.in-Inline.at at c.in-Inline.is is in
    c.payload.ensures.memory (omega (arith, place, lt))

pub returns-in_err-payload-clause-memory : goal.returns-in_err-payload-clause-memory
returns-in_err-payload-clause-memory g c = λ at is lt.
    let found = c.in-Some.ensures.some in
    let place = found.3 ∙ same-place c.args.pointer c.in-Inline.at at c.in-Inline.is is in
    c.payload.ensures.memory (omega (arith, place, lt))

no-other : (e : LogError) → (e ≡ Memory) ⊎ (e ≡ ReadFault) → (e ≢ Full) × (e ≢ Corruption)
no-other e (inl m) = (λ w. cc, λ w. cc)
no-other e (inr f) = (λ w. cc, λ w. cc)

pub returns-in_err-payload-clause-not_full : goal.returns-in_err-payload-clause-not_full
returns-in_err-payload-clause-not_full g c = λ is.
    let p = err_from_is_err_and c.from_residual.result c.from_residual.ensures.1 in
    (no-other c.in_err-payload.field-0.0 c.in_err-payload.ensures.only).0 (sym p.2 ∙ same-error c.from_residual.result p.0 Full p.1 is)

pub returns-in_err-payload-clause-sound : goal.returns-in_err-payload-clause-sound
returns-in_err-payload-clause-sound g c = λ any is.
    let p = err_from_is_err_and c.from_residual.result c.from_residual.ensures.1 in
    (no-other c.in_err-payload.field-0.0 c.in_err-payload.ensures.only).1 (sym p.2 ∙ same-error c.from_residual.result p.0 Corruption p.1 is)

pub returns-in_default-clause-sound : goal.returns-in_default-clause-sound
returns-in_default-clause-sound g c = λ any is. absurd (c.in_default.not-Inline _ any.4)

pub returns-in_default-find-clause-sound : goal.returns-in_default-find-clause-sound
returns-in_default-find-clause-sound g c = λ any is.
    let log = c.args.self.now in
    let none = subst (λ (l : List (Vec Head)). AllByRecursion (λ head. head.place ≢ c.in-Inline.at) (slice_index_or (chains_of l) c.args.pid [])) c.deref.ensures.value c.in_default-find.ensures.none in
    let other : (get_or (slice_index_or (chains_of log.pages.items) c.args.pid []) any.0 any.1).place ≢ c.in-Inline.at = all-at (λ head. head.place ≢ c.in-Inline.at) (slice_index_or (chains_of log.pages.items) c.args.pid []) any.0 any.1 any.2 none in
    other (ap (λ (head : Head). head.place) any.3 ∙ sym (same-place c.args.pointer c.in-Inline.at _ c.in-Inline.is any.4))

pub returns-in_err-payload-clause-called : goal.returns-in_err-payload-clause-called
returns-in_err-payload-clause-called g c =
    let log = c.args.self.now in
    let head = c.in-Some.head in
    let p = err_from_is_err_and c.from_residual.result c.from_residual.ensures.1 in
    rw p.1 (rw p.2
    (called-unread g.D.Disk (λ disk left told was. g.met.D.Disk.only_now disk left told was) (λ disk told i. g.met.D.Disk.are_bytes disk i told)
    log c.payload.new.self _ c.payload.ensures.usable (record { gate = ap (λ (next : NextFrame). next.gate) c.payload.ensures.next; spilled = ap (λ (next : NextFrame). next.spilled) c.payload.ensures.next; records = ap (λ (next : NextFrame). records_behind next.buffer.items) c.payload.ensures.next }) (c.payload.ensures.reads ∙ c.count.ensures) c.payload.ensures.rests
    c.requires.usable
    c.payload.ensures.faults.failed_reads c.payload.ensures.faults.write_faults _ c.in_err-payload.field-0.0 (⊎_elim (λ m. inl m) (λ f. inr (inl f)) c.in_err-payload.ensures.only)
    (λ told. (no-other c.in_err-payload.field-0.0 c.in_err-payload.ensures.only).1)
    (λ is. c.in_err-payload.ensures.faults.read (ap (λ e. Err e) is))))

pub returns-in_default-clause-called : goal.returns-in_default-clause-called
returns-in_default-clause-called g c =
    let log = c.args.self.now in
    called-unread g.D.Disk (λ disk left told was. g.met.D.Disk.only_now disk left told was) (λ disk told i. g.met.D.Disk.are_bytes disk i told)
    log _ _ c.requires.usable (record { gate = refl; spilled = refl; records = refl }) c.count.ensures (rests-same g.D.Disk.seen g.D.Disk.may_leave g.D.Disk.moment g.D.Disk.left_since g.D.Disk.tells log.disk)
    c.requires.usable
    (omega arith) (omega arith) _ Corruption (inr (inr refl))
    (λ told is. let k = known-place (g.D.Disk.seen log.disk) log.next.gate log.next.spilled log.next.buffer.items log.usable (batch_of log.next) (chains_of log.pages.items) (λ i. g.met.D.Disk.are_bytes log.disk i told) (log.stands told c.requires.usable) log.next.are_bytes log.next.front log.next.parsed log.next.own c.args.pid c.args.lsn c.args.pointer no_head (c.requires.known told) in absurd (c.in_default.not-Inline _ k.2))
    (λ is. cc)

pub returns-in_default-find-clause-called : goal.returns-in_default-find-clause-called
returns-in_default-find-clause-called g c =
    let log = c.args.self.now in
    called-unread g.D.Disk (λ disk left told was. g.met.D.Disk.only_now disk left told was) (λ disk told i. g.met.D.Disk.are_bytes disk i told)
    log _ _ c.requires.usable (record { gate = refl; spilled = refl; records = refl }) c.count.ensures (rests-same g.D.Disk.seen g.D.Disk.may_leave g.D.Disk.moment g.D.Disk.left_since g.D.Disk.tells log.disk)
    c.requires.usable
    (omega arith) (omega arith) _ Corruption (inr (inr refl))
    (λ told is.
    let k = known-place (g.D.Disk.seen log.disk) log.next.gate log.next.spilled log.next.buffer.items log.usable (batch_of log.next) (chains_of log.pages.items) (λ i. g.met.D.Disk.are_bytes log.disk i told) (log.stands told c.requires.usable) log.next.are_bytes log.next.front log.next.parsed log.next.own c.args.pid c.args.lsn c.args.pointer no_head (c.requires.known told) in
    let none = subst (λ (l : List (Vec Head)). AllByRecursion (λ head. head.place ≢ c.in-Inline.at) (slice_index_or (chains_of l) c.args.pid [])) c.deref.ensures.value c.in_default-find.ensures.none in
    let same : Inline c.in-Inline.at ≡ _ = sym c.in-Inline.is ∙ k.2 in
    all-at (λ head. head.place ≢ c.in-Inline.at) (slice_index_or (chains_of log.pages.items) c.args.pid []) k.0 no_head k.1 none (sym (ap offset_of same)))
    (λ is. cc)
