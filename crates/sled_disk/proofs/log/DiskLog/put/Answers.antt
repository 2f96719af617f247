use Rattle.std.proofs.Common.{rules, arith, ◌≡◌, ◌++◌, ◌∷◌, ◌+◌, ◌-◌, ℕ, ℤ, pos, List, [], length, refl, sym, ◌∙◌, ap}
use Rattle.sled_base.specs.declared.types.DiskPtr.{DiskPtr}
use Rattle.sled_base.specs.declared.types.DiskPtr.TheVariants.{Inline}
use Rattle.sled_disk.specs.declared.log.names.Names.{Names}
use Rattle.sled_disk.specs.declared.format.next_frame.NextFrame.{NextFrame}
use Rattle.sled_disk.proofs.Moves.SearchSteps.{kept-at, within}
use Rattle.sled_disk.proofs.Moves.MovesAfterCalls.{moves-more, messages-changed}
use Rattle.sled_disk.specs.Names.{all_messages}
use Rattle.sled_disk.specs.Pending.{pending_in, room_after}
use Rattle.sled_disk.specs.LogContents.{records_behind, is_begun}
use Rattle.sled_disk.specs.PendingFrame.{pending_of, place_of, said_of, state_of, batch_of, progress_of, events_of, events_with}
use Rattle.std.specs.Prelude.{Err}
use Rattle.std.proofs.lemmas.Result.{err_from_is_err_and}
use Rattle.sled_log.specs.Events.{Change}
use Rattle.sled_log.specs.LogState.{now}
use Rattle.sled_log.specs.Messages.{message, placed_entry, effect_of_entry}
use Rattle.sled_log.specs.declared.log.LogError.TheVariants.{WriteFault}
use Rattle.sled_disk.specs.Reading.{chains_of}
use Rattle.sled_disk.proofs.Frames.RecordAppend.{can-heads}
use Rattle.sled_disk.proofs.LogCalls.CallOutcomes.{called-refused, called-waits, called-wrote, called-fault, read-described, written-described}
use Rattle.sled_disk.proofs.Chains.ChainSizes.{stands-sized, waits-small}
use Rattle.sled_disk.specs.RecoveredLogLaws.{none-behind}
use Rattle.sled_disk.proofs.Frames.WrittenFrame.{change-waits, settles-then, begins-now, room-small, flag-of, begins-after, size-zero, size-some, events-added}
use Rattle.sled_disk.proofs.log.DiskLog.put.Goals.{In_ok-place}
use Rattle.sled_disk.proofs.log.DiskLog.put.Goals as goal

said-is : (next : NextFrame) (payload : List ℕ) (place : ℕ) (said : ℤ × DiskPtr × ℕ) → place ≡ place_of next → said ≡ (pos place, Inline place, 17 + length payload) → said ≡ said_of next payload
said-is next payload place said at is = is ∙ ap (λ n. (pos n, Inline n, 17 + length payload)) at

-- the message waits, by what is said of it
waits : (g : _) (c : In_ok-place g) → g.D.Disk.tells → (said : ℤ × DiskPtr × ℕ) → said ≡ said_of c.args.self.now.next c.args.payload.now
    → (let log = c.args.self.now in let new = c.add.new.self in pending_of (g.D.Disk.seen new.disk) new.next ≡ pending_of (g.D.Disk.seen log.disk) log.next ++ Change c.args.pid (placed_entry (message c.args.kind c.args.payload.now) said) ∷ [])
waits g c told said is =
    let log = c.args.self.now in
    let new = c.add.new.self in
    let seen = g.D.Disk.seen log.disk in
    ap (λ (l : List ℕ). pending_in l new.next.gate new.next.spilled new.next.buffer.items) (c.add.ensures.rests.same told) ∙ ap (λ n. pending_in seen n new.next.spilled new.next.buffer.items) c.add.ensures.gate ∙ ap (λ b. pending_in seen log.next.gate b new.next.buffer.items) c.add.ensures.spilled
    ∙ change-waits log.next c.args.kind c.args.pid c.args.payload.now said seen new.next.buffer.items c.in_ok-place.ensures.added (now effect_of_entry (state_of seen log.next log.usable)) (c.requires.can told) is

messages : (g : _) (c : In_ok-place g) → g.D.Disk.tells
    → (let log = c.args.self.now in let new = c.add.new.self in all_messages (g.D.Disk.seen new.disk) new.next ≡ all_messages (g.D.Disk.seen log.disk) log.next ++ (c.args.pid, place_of log.next) ∷ [])
messages g c told =
    let log = c.args.self.now in
    let new = c.add.new.self in
    let said = said_of log.next c.args.payload.now in
    messages-changed (g.D.Disk.seen log.disk) (g.D.Disk.seen new.disk) log.next new.next c.args.pid (placed_entry (message c.args.kind c.args.payload.now) said) (c.add.ensures.rests.same told) (waits g c told said refl)

-- how many bytes wait with it
bytes : (g : _) (c : In_ok-place g) → length c.add.new.self.next.buffer.items - 8 ≡ length c.args.self.now.next.buffer.items - 8 + (17 + length c.args.payload.now)
bytes g c = let len = c.in_ok-place.ensures.len in let front = c.args.self.now.next.front in omega (arith, len, front)

pub returns-in_err-place-clause-adds : goal.returns-in_err-place-clause-adds
returns-in_err-place-clause-adds g c = record {
  called =
      let log = c.args.self.now in
      let p = err_from_is_err_and c.from_residual.result c.from_residual.ensures.1 in
      rw p.1 (rw p.2
      (called-refused g.D.Disk (λ disk left told was. g.met.D.Disk.only_now disk left told was) (λ disk told i. g.met.D.Disk.are_bytes disk i told)
      log c.add.new.self _ _ c.in_err-place.field-0.0 c.in_err-place.ensures.only (λ told is. c.in_err-place.ensures.sound (can-heads (g.D.Disk.seen log.disk) log.next.gate log.next.spilled log.next.buffer.items (batch_of log.next) (chains_of log.pages.items) (λ i. g.met.D.Disk.are_bytes log.disk i told) (log.stands told c.requires.usable) log.usable c.args.kind c.args.pid log.next.own (c.requires.can told)) (ap (λ e. Err e) is)) c.add.ensures.rests c.add.ensures.counts c.add.ensures.usable c.add.ensures.reads
      (record { gate = c.add.ensures.gate; spilled = c.add.ensures.spilled; records = ap records_behind c.in_err-place.ensures.kept })
      c.requires.usable));
  any_moment = λ told.
      let log = c.args.self.now in
      read-described g.D.Disk.seen g.D.Disk.may_leave g.D.Disk.moment g.D.Disk.left_since (λ disk left was. g.met.D.Disk.only_now disk left told was)
      log.disk c.add.new.self.disk told log.next.gate log.next.spilled (records_behind log.next.buffer.items) (batch_of log.next) (chains_of log.pages.items) (events_with (g.D.Disk.seen log.disk) log.next c.args.kind c.args.pid c.args.payload.now) (λ i. g.met.D.Disk.are_bytes log.disk i told) (log.stands told c.requires.usable) (log.durable told c.requires.usable) c.add.ensures.rests;
  sized = λ told. search rules;
  written = search rules;
  named = search rules;
}

pub returns-then-len-self-clause-adds : goal.returns-then-len-self-clause-adds
returns-then-len-self-clause-adds g c = record {
  called =
      let log = c.args.self.now in
      let new = c.add.new.self in
      called-waits g.D.Disk (λ disk left told was. g.met.D.Disk.only_now disk left told was) (λ disk told i. g.met.D.Disk.are_bytes disk i told)
      log new _ _ c.said_at-said.result c.add.ensures.rests c.add.ensures.counts c.add.ensures.usable c.add.ensures.reads
      (λ told. waits g (goal.at.returns-then-len-self-clause-adds g c).In_ok-place told c.said_at-said.result (said-is log.next c.args.payload.now c.in_ok-place.place c.said_at-said.result c.in_ok-place.ensures.place c.said_at-said.ensures))
      (sym new.next.batch_is ∙ flag-of new.next log.next c.add.ensures.batch ∙ log.next.batch_is)
      c.requires.usable;
  any_moment = λ told.
      let log = c.args.self.now in
      read-described g.D.Disk.seen g.D.Disk.may_leave g.D.Disk.moment g.D.Disk.left_since (λ disk left was. g.met.D.Disk.only_now disk left told was)
      log.disk c.add.new.self.disk told log.next.gate log.next.spilled (records_behind log.next.buffer.items) (batch_of log.next) (chains_of log.pages.items) (events_with (g.D.Disk.seen log.disk) log.next c.args.kind c.args.pid c.args.payload.now) (λ i. g.met.D.Disk.are_bytes log.disk i told) (log.stands told c.requires.usable) (log.durable told c.requires.usable) c.add.ensures.rests;
  sized = λ told.
      let log = c.add.new.self in
      let next = log.next in
      stands-sized (g.D.Disk.seen log.disk) next.gate next.spilled next.buffer.items log.usable (batch_of next) (chains_of log.pages.items) (λ i. g.met.D.Disk.are_bytes log.disk i told) (log.stands told c.add.ensures.usable) next.own
      (waits-small next.gate (room_after next.batch) next.buffer.items next.are_bytes next.front next.parsed next.small next.fits);
  written =
      let n = bytes g (goal.at.returns-then-len-self-clause-adds g c).In_ok-place in
      (λ due. absurd (omega (arith, due, n, c.len.ensures, c.in_ok-place.ensures.settings.0, c.if-len-self.true)), λ none. absurd (size-some c.add.new.self.next.buffer.items c.in_ok-place.ensures.some none));
  named = λ told some.
      let log = c.args.self.now in
      let next = log.next in
      let new = c.add.new.self in
      let seen = g.D.Disk.seen log.disk in
      moves-more seen (g.D.Disk.seen new.disk) next new.next log.names new.names c.args.pid
      (messages g (goal.at.returns-then-len-self-clause-adds g c).In_ok-place told)
      (within (kept-at log told c.requires.usable (λ i. g.met.D.Disk.are_bytes log.disk i told) log.names.gate log.names.at (log.stood told c.requires.usable)))
      (ap (λ (n : Names). n.at) c.add.ensures.places) (ap (λ (n : Names). n.read) c.add.ensures.places) (c.in_ok-place.ensures.counted some);
}

pub returns-clause-adds : goal.returns-clause-adds
returns-clause-adds g c = record {
  called =
      let log = c.args.self.now in
      let new = c.add.new.self in
      let after = c.write_next.new.self in
      let cause = c.in_ok-write_next.ensures.cause in
      let said = said-is log.next c.args.payload.now c.in_ok-place.place c.said_at-said.result c.in_ok-place.ensures.place c.said_at-said.ensures in
      called-wrote g.D.Disk (λ disk left told was. g.met.D.Disk.only_now disk left told was) (λ disk told i. g.met.D.Disk.are_bytes disk i told)
      log after _ _ new (Change c.args.pid (placed_entry (message c.args.kind c.args.payload.now) c.said_at-said.result) ∷ []) refl c.add.ensures.rests c.add.ensures.counts
      c.requires.usable
      (λ told. waits g (goal.at.returns-clause-adds g c).In_ok-place told c.said_at-said.result (said-is log.next c.args.payload.now c.in_ok-place.place c.said_at-said.result c.in_ok-place.ensures.place c.said_at-said.ensures))
      (sym new.next.batch_is ∙ flag-of new.next log.next c.add.ensures.batch ∙ log.next.batch_is) (c.write_next.ensures.reads ∙ c.add.ensures.reads)
      (progress_of (g.D.Disk.seen new.disk) new.next) (λ told. settles-then (g.D.Disk.seen new.disk) new.next.gate new.next.spilled new.next.buffer.items (batch_of new.next) (chains_of new.pages.items) (λ i. g.met.D.Disk.are_bytes new.disk i told) (new.stands told c.add.ensures.usable) new.next.are_bytes new.next.parsed c.in_ok-place.ensures.some (room-small new.next (new.next.fits c.in_ok-place.ensures.some)) new.next.own)
      (λ told. begins-now (g.D.Disk.seen new.disk) new.next.gate new.next.spilled new.next.buffer.items (batch_of new.next) (chains_of new.pages.items) (λ i. g.met.D.Disk.are_bytes new.disk i told) (new.stands told c.add.ensures.usable) new.next.are_bytes new.next.parsed c.in_ok-place.ensures.some (room-small new.next (new.next.fits c.in_ok-place.ensures.some)))
      c.write_next.ensures.any_moment
      c.said_at-said.result refl c.in_ok-write_next.ensures.usable (none-behind after.next.buffer.items (let l = c.write_next.ensures.buffer in omega (arith, l))) (c.write_next.ensures.spilled ∙ new.next.batch_is)
      c.in_ok-write_next.ensures.stable
      (λ told. ap (λ q. is_begun q.begun) (sym (c.in_ok-write_next.ensures.stable told)) ∙ begins-after (g.D.Disk.seen after.disk) after.next (chains_of after.pages.items) (λ i. g.met.D.Disk.are_bytes after.disk i told) (after.stands told c.in_ok-write_next.ensures.usable))
      (record { failed_reads = cause.failed_reads; write_faults = cause.write_faults; read = λ is. cc; write = λ is. cc });
  any_moment = λ told.
      let log = c.args.self.now in
      let new = c.add.new.self in
      written-described g.D.Disk.seen g.D.Disk.may_leave g.D.Disk.moment g.D.Disk.left_since (λ disk left was. g.met.D.Disk.only_now disk left told was)
      log.disk new.disk c.write_next.new.self.disk told log.next.gate log.next.spilled (records_behind log.next.buffer.items) (batch_of log.next) (chains_of log.pages.items) (events_with (g.D.Disk.seen log.disk) log.next c.args.kind c.args.pid c.args.payload.now) (λ i. g.met.D.Disk.are_bytes log.disk i told) (log.stands told c.requires.usable) (log.durable told c.requires.usable) c.add.ensures.rests
      (events_of (g.D.Disk.seen new.disk) new.next) (events-added (g.D.Disk.seen log.disk) (g.D.Disk.seen new.disk) log.next new.next c.args.kind c.args.pid c.args.payload.now (c.add.ensures.rests.same told) c.add.ensures.gate c.in_ok-place.ensures.added) (c.write_next.ensures.any_moment told);
  sized = λ told.
      let log = c.write_next.new.self in
      let next = log.next in
      stands-sized (g.D.Disk.seen log.disk) next.gate next.spilled next.buffer.items log.usable (batch_of next) (chains_of log.pages.items) (λ i. g.met.D.Disk.are_bytes log.disk i told) (log.stands told c.in_ok-write_next.ensures.usable) next.own
      (waits-small next.gate (room_after next.batch) next.buffer.items next.are_bytes next.front next.parsed next.small next.fits);
  written =
      let n = bytes g (goal.at.returns-clause-adds g c).In_ok-place in
      (λ due. size-zero c.write_next.new.self.next.buffer.items (let l = c.write_next.ensures.buffer in omega (arith, l)), λ none. omega (arith, n, c.len.ensures, c.in_ok-place.ensures.settings.0, c.if-len-self.false));
  named = λ told some.
      let log = c.args.self.now in
      let next = log.next in
      let new = c.add.new.self in
      let last = c.write_next.new.self in
      let seen = g.D.Disk.seen log.disk in
      let names = c.write_next.ensures.names in
      moves-more seen (g.D.Disk.seen last.disk) next last.next log.names last.names c.args.pid
      (c.in_ok-write_next.ensures.messages told ∙ messages g (goal.at.returns-clause-adds g c).In_ok-place told)
      (within (kept-at log told c.requires.usable (λ i. g.met.D.Disk.are_bytes log.disk i told) log.names.gate log.names.at (log.stood told c.requires.usable)))
      (ap (λ (n : Names). n.at) names ∙ ap (λ (n : Names). n.at) c.add.ensures.places) (ap (λ (n : Names). n.read) names ∙ ap (λ (n : Names). n.read) c.add.ensures.places) (ap (λ (n : Names). n.appended) names ∙ c.in_ok-place.ensures.counted some);
}

pub returns-in_err-write_next-clause-adds : goal.returns-in_err-write_next-clause-adds
returns-in_err-write_next-clause-adds g c = record {
  called =
      let log = c.args.self.now in
      let new = c.add.new.self in
      let cause = c.in_err-write_next.ensures.cause in
      let p = err_from_is_err_and c.from_residual-in_err-write_next.result c.from_residual-in_err-write_next.ensures.1 in
      let fault : p.0 ≡ WriteFault = p.2 ∙ c.in_err-write_next.ensures.only in
      rw p.1 (rw fault
      (called-fault g.D.Disk (λ disk left told was. g.met.D.Disk.only_now disk left told was) (λ disk told i. g.met.D.Disk.are_bytes disk i told)
      log c.write_next.new.self _ _ new (Change c.args.pid (placed_entry (message c.args.kind c.args.payload.now) c.said_at-said.result) ∷ []) refl c.add.ensures.rests c.add.ensures.counts
      c.requires.usable
      (λ told. waits g (goal.at.returns-in_err-write_next-clause-adds g c).In_ok-place told c.said_at-said.result (said-is log.next c.args.payload.now c.in_ok-place.place c.said_at-said.result c.in_ok-place.ensures.place c.said_at-said.ensures))
      (sym new.next.batch_is ∙ flag-of new.next log.next c.add.ensures.batch ∙ log.next.batch_is) (c.write_next.ensures.reads ∙ c.add.ensures.reads)
      (progress_of (g.D.Disk.seen new.disk) new.next) (λ told. settles-then (g.D.Disk.seen new.disk) new.next.gate new.next.spilled new.next.buffer.items (batch_of new.next) (chains_of new.pages.items) (λ i. g.met.D.Disk.are_bytes new.disk i told) (new.stands told c.add.ensures.usable) new.next.are_bytes new.next.parsed c.in_ok-place.ensures.some (room-small new.next (new.next.fits c.in_ok-place.ensures.some)) new.next.own)
      (λ told. begins-now (g.D.Disk.seen new.disk) new.next.gate new.next.spilled new.next.buffer.items (batch_of new.next) (chains_of new.pages.items) (λ i. g.met.D.Disk.are_bytes new.disk i told) (new.stands told c.add.ensures.usable) new.next.are_bytes new.next.parsed c.in_ok-place.ensures.some (room-small new.next (new.next.fits c.in_ok-place.ensures.some)))
      c.write_next.ensures.any_moment
      c.in_err-write_next.ensures.usable (record { failed_reads = cause.failed_reads; write_faults = cause.write_faults; read = λ is. cc; write = λ is. cause.write (ap (λ e. Err e) c.in_err-write_next.ensures.only) })));
  any_moment = λ told.
      let log = c.args.self.now in
      let new = c.add.new.self in
      written-described g.D.Disk.seen g.D.Disk.may_leave g.D.Disk.moment g.D.Disk.left_since (λ disk left was. g.met.D.Disk.only_now disk left told was)
      log.disk new.disk c.write_next.new.self.disk told log.next.gate log.next.spilled (records_behind log.next.buffer.items) (batch_of log.next) (chains_of log.pages.items) (events_with (g.D.Disk.seen log.disk) log.next c.args.kind c.args.pid c.args.payload.now) (λ i. g.met.D.Disk.are_bytes log.disk i told) (log.stands told c.requires.usable) (log.durable told c.requires.usable) c.add.ensures.rests
      (events_of (g.D.Disk.seen new.disk) new.next) (events-added (g.D.Disk.seen log.disk) (g.D.Disk.seen new.disk) log.next new.next c.args.kind c.args.pid c.args.payload.now (c.add.ensures.rests.same told) c.add.ensures.gate c.in_ok-place.ensures.added) (c.write_next.ensures.any_moment told);
  sized = λ told. search rules;
  written = search rules;
  named = search rules;
}
