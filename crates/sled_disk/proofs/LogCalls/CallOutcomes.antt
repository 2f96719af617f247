-- From the disk's bytes to the log's events.
use Rattle.std.proofs.Common.{◌≡◌, ◌≢◌, ◌⊎◌, inl, inr, ⊎_elim, ℕ, ◌+◌, ◌≤◌, Bool, true, false, not, List, [], ◌++◌, length, map, take, drop, refl, ap, sym, ◌∙◌, subst, arith, le_trans}
use Rattle.std.specs.Prelude.{Result, Ok, Err, IfErr, IsErrOf, Option}
use Rattle.std.proofs.lemmas.Bool.{true≢false}
use Rattle.std.proofs.lemmas.List.{take_at, drop_at, append-nil, map-append, length-append}
use Rattle.sled_log.specs.Events.{is_open, open_after, IsFair}
use Rattle.sled_log.specs.Calls.{Called, Counts, HasCause, HasGrown, begun_by, is_write_fault}
use Rattle.sled_log.specs.Chains.{chains_after}
use Rattle.sled_log.specs.Events.{Event}
use Rattle.sled_log.specs.Inside.Laws.{IsFair-none, IsPrefix-all}
use Rattle.sled_log.specs.LogState.{LogState, Adds, IsLeft, CrashesSinceLeave, unplaced_state}
use Rattle.sled_log.specs.Messages.{Message, Messages, Entry, Chain, messages_of, effect_of, effect_of_entry}
use Rattle.sled_log.specs.Messages.{unplaced_events}
use Rattle.sled_log.specs.Inside.UnplacedLaws.{chains_after-unplaced, is_open-unplaced}
use Rattle.sled_log.specs.declared.log.LogError.{LogError}
use Rattle.sled_log.specs.declared.log.LogError.TheVariants.{Memory, Full, ReadFault, WriteFault, Corruption}
use Rattle.sled_disk.specs.declared.disk.Disk.{Ghosts}
use Rattle.sled_disk.specs.declared.log.DiskLog.{DiskLog}
use Rattle.sled_disk.specs.declared.recovery.head.Head.{Head}
use Rattle.sled_disk.specs.Crash.{BytesLeft}
use Rattle.sled_disk.specs.Disk.{Only}
use Rattle.sled_disk.specs.Format.{Describes, Record, IsBytes}
use Rattle.sled_disk.specs.DiskReads.{Rests}
use Rattle.sled_disk.specs.Pending.{pending_in, state_in}
use Rattle.sled_disk.specs.RecoveredLog.{Means, LeavesPages, IsEither}
use Rattle.sled_disk.specs.RecoveredLogLaws.{stands-described}
use Rattle.sled_disk.specs.LogContents.{Stands, records_behind, events_in, inside_in, progress_in, is_begun, inside_of}
use Rattle.sled_disk.specs.MeaningLaws.{Meant}
use Rattle.sled_disk.specs.PendingFrame.{batch_of}
use Rattle.sled_disk.specs.Reading.{chains_of}
use Rattle.sled_disk.specs.Pending.{open_by, batch_events, pending_events}
use Rattle.sled_disk.specs.PendingLaws.{all-open, Settles, open_events}
use Rattle.sled_disk.proofs.Frames.WrittenFrame.{left-so}

-- a part of a list whose batches are closed
fair-part : {E : Type 0} (xs ys : List (Event E)) → is_open xs ≡ false → IsFair (xs ++ ys) (length xs)
fair-part xs ys closed = record { within = omega (arith, length-append xs ys); no_part = λ o. absurd (true≢false (sym o ∙ ap is_open (take_at xs ys (length xs) refl) ∙ closed)) }

module _ (seen : List ℕ) (gate : ℕ) (spilled : Bool) (buffer : List ℕ) (usable : Bool) where
  abbrev old : LogState Entry
  old = state_in seen gate spilled buffer usable

  abbrev durable : List Chain
  durable = chains_after effect_of_entry [] (events_in seen)

  abbrev waiting : List (Event Entry)
  waiting = pending_in seen gate spilled buffer

  -- a crash leaves what is durable
  pub left-none : (begun : List (Event Message)) (pages : List Messages) → pages ≡ map messages_of durable → IsLeft effect_of (unplaced_state old) begun pages
  left-none begun pages is = record { came = []; beginning = (begun, refl); cut = 0; fair = IsFair-none ((unplaced_state old).pending ++ []); is = is }

  -- or a part of what was pending and came, whose batches are closed
  pub left-part : (more done rest : List (Event Entry)) (pages : List Messages) → waiting ++ more ≡ done ++ rest → is_open done ≡ false → pages ≡ map messages_of (chains_after effect_of_entry durable done)
      → IsLeft effect_of (unplaced_state old) (unplaced_events more) pages
  left-part more done rest pages parts closed is =
      let all : List (Event Message) = unplaced_events waiting ++ unplaced_events more in
      let whole : all ≡ unplaced_events done ++ unplaced_events rest = sym (map-append _ waiting more) ∙ ap unplaced_events parts ∙ map-append _ done rest in
      record {
        came = unplaced_events more;
        beginning = IsPrefix-all (unplaced_events more);
        cut = length (unplaced_events done);
        fair = subst (λ (l : List (Event Message)). IsFair l (length (unplaced_events done))) (sym whole) (fair-part (unplaced_events done) (unplaced_events rest) (is_open-unplaced done ∙ closed));
        is = is ∙ chains_after-unplaced durable done ∙ ap (chains_after effect_of (map messages_of durable)) (sym (ap (take (length (unplaced_events done))) whole ∙ take_at (unplaced_events done) (unplaced_events rest) (length (unplaced_events done)) refl));
      }

  pub adds-none : (more : List (Event Entry)) (new : LogState Entry) → new.stable ≡ durable → new.pending ≡ waiting ++ more → Adds effect_of_entry old more new
  adds-none more new same pending = record { cut = 0; fair = IsFair-none (old.pending ++ more); stable = same; pending = pending }

  pub adds-part : (more done rest : List (Event Entry)) (new : LogState Entry) → waiting ++ more ≡ done ++ rest → is_open done ≡ false → new.stable ≡ chains_after effect_of_entry durable done → new.pending ≡ rest → Adds effect_of_entry old more new
  adds-part more done rest new parts closed stable pending = record {
    cut = length done;
    fair = subst (λ (l : List (Event Entry)). IsFair l (length done)) (sym parts) (fair-part done rest closed);
    stable = stable ∙ ap (chains_after effect_of_entry durable) (sym (ap (take (length done)) parts ∙ take_at done rest (length done) refl));
    pending = pending ∙ sym (ap (drop (length done)) parts ∙ drop_at done rest (length done) refl);
  }

  -- what the bytes mean that a crash leaves
  module _ (batch : Option ℕ) (heads : List (List Head)) (fits : IsBytes seen) (s : Stands seen gate spilled (records_behind buffer) batch heads) where
    pub means-none : (begun : List (Event Message)) (bytes : List ℕ) (pages : List Messages) → bytes ≡ seen → Means bytes pages → IsLeft effect_of (unplaced_state old) begun pages
    means-none begun bytes pages same means =
        left-none begun pages (means (events_in seen) (subst (λ (l : List ℕ). Describes l (events_in seen)) (sym same) (gate, stands-described seen gate spilled (records_behind buffer) batch heads fits s)))

  pub means-frame : (more done rest written : List (Event Entry)) (bytes : List ℕ) (pages : List Messages) → waiting ++ more ≡ done ++ rest → is_open done ≡ false
      → chains_after effect_of_entry [] written ≡ chains_after effect_of_entry durable done
      → IsEither (events_in seen) written bytes → Means bytes pages → IsLeft effect_of (unplaced_state old) (unplaced_events more) pages
  means-frame more done rest written bytes pages parts closed same (inl before) means = left-none (unplaced_events more) pages (means (events_in seen) before)
  means-frame more done rest written bytes pages parts closed same (inr after) means = left-part more done rest pages parts closed (means written after ∙ ap (map messages_of) same)

-- whether a batch is open
pub opens-by : (seen : List ℕ) (gate : ℕ) (spilled : Bool) (buffer : List ℕ) → is_open (pending_in seen gate spilled buffer) ≡ open_by spilled (records_behind buffer)
opens-by seen gate spilled buffer = all-open spilled (inside_in seen) (gate + 9) (records_behind buffer)

-- and in the next frame
pub batch-now : {D : Type 0} {g : Ghosts D} (log : DiskLog D g) (b : Bool) → is_open (pending_in (g.seen log.disk) log.next.gate log.next.spilled log.next.buffer.items) ≡ b → log.next.batch ≡ b
batch-now {g = g} log b is = log.next.batch_is ∙ sym (opens-by (g.seen log.disk) log.next.gate log.next.spilled log.next.buffer.items) ∙ is

-- ---- crashes

-- a disk that wasn't called
pub rests-same : {D : Type 0} (seen : D → List ℕ) (may_leave : D → List ℕ → Type 0) (moment : D → ℕ) (left_since : D → ℕ → List ℕ → Type 0) (tells : Type 0) (d : D) → Rests tells seen may_leave moment left_since d d
rests-same seen may_leave moment left_since tells d = record { same = λ _. refl; may = λ _ left may. may; later = λ _. omega arith; nothing_else = λ _ t left le was. was; kept = λ _ t left le was. was }

module _ {D : Type 0} (seen : D → List ℕ) (may_leave : D → List ℕ → Type 0) (moment : D → ℕ) (left_since : D → ℕ → List ℕ → Type 0) (only_now : (disk : D) (left : List ℕ) → left_since disk (moment disk) left → may_leave disk left) where
  -- a disk at rest
  pub at-rest : (d : D) → Only (seen d) (may_leave d) → BytesLeft moment left_since d d (λ bytes. bytes ≡ seen d)
  at-rest d only = record { later = omega arith; each = λ left was. only left (only_now d left was); before = λ t left le was. inl was; kept = λ t left le was. was }

  -- and one that was read
  pub at-read : {tells : Type 0} (old new : D) → tells → Only (seen old) (may_leave old) → Rests tells seen may_leave moment left_since old new → BytesLeft moment left_since old new (λ bytes. bytes ≡ seen old)
  at-read old new told only r = record {
    later = r.later told;
    each = λ left was. only left (only_now old left (r.nothing_else told (moment old) left (omega arith) was));
    before = λ t left le was. inl (r.nothing_else told t left le was);
    kept = λ t left le was. r.kept told t left le was;
  }

-- a disk that was read at most, and then called
pub rests-then : {D : Type 0} (seen : D → List ℕ) (may_leave : D → List ℕ → Type 0) (moment : D → ℕ) (left_since : D → ℕ → List ℕ → Type 0) (only_now : (disk : D) (left : List ℕ) → left_since disk (moment disk) left → may_leave disk left)
    → {tells : Type 0} (old mid new : D) (P : List ℕ → Type 0) → tells → Only (seen old) (may_leave old) → P (seen old) → Rests tells seen may_leave moment left_since old mid → BytesLeft moment left_since mid new P → BytesLeft moment left_since old new P
rests-then seen may_leave moment left_since only_now old mid new P told only holds r l = record {
  later = le_trans (r.later told) l.later;
  each = λ left was. ⊎_elim (λ earlier. subst P (sym (only left (only_now old left (r.nothing_else told (moment old) left (omega arith) earlier)))) holds) (λ here. here) (l.before (moment old) left (r.later told) was);
  before = λ t left le was. ⊎_elim (λ earlier. inl (r.nothing_else told t left le earlier)) (λ here. inr here) (l.before t left (le_trans le (r.later told)) was);
  kept = λ t left le was. l.kept t left (le_trans le (r.later told)) (r.kept told t left le was);
}

-- what the file describes at each moment, where the disk was read at most, and where a frame was written then
module _ {D : Type 0} (seen : D → List ℕ) (may_leave : D → List ℕ → Type 0) (moment : D → ℕ) (left_since : D → ℕ → List ℕ → Type 0) (only_now : (disk : D) (left : List ℕ) → left_since disk (moment disk) left → may_leave disk left) where
  pub read-described : {tells : Type 0} (old new : D) → tells → (gate : ℕ) (spilled : Bool) (rs : List Record) (batch : Option ℕ) (heads : List (List Head)) (more : List (Event Entry)) → IsBytes (seen old) → Stands (seen old) gate spilled rs batch heads → Only (seen old) (may_leave old)
      → Rests tells seen may_leave moment left_since old new → BytesLeft moment left_since old new (IsEither (events_in (seen old)) more)
  read-described old new told gate spilled rs batch heads more fits s only rest =
      left-so (λ bytes. bytes ≡ seen old) (IsEither (events_in (seen old)) more)
      (λ bytes same. inl (subst (λ (l : List ℕ). Describes l (events_in (seen old))) (sym same) (gate, stands-described (seen old) gate spilled rs batch heads fits s)))
      (at-read seen may_leave moment left_since only_now old new told only rest)

  pub written-described : {tells : Type 0} (old mid new : D) → tells → (gate : ℕ) (spilled : Bool) (rs : List Record) (batch : Option ℕ) (heads : List (List Head)) (more : List (Event Entry)) → IsBytes (seen old) → Stands (seen old) gate spilled rs batch heads → Only (seen old) (may_leave old)
      → Rests tells seen may_leave moment left_since old mid → (written : List (Event Entry)) → written ≡ more → BytesLeft moment left_since mid new (IsEither (events_in (seen mid)) written)
      → BytesLeft moment left_since old new (IsEither (events_in (seen old)) more)
  written-described old mid new told gate spilled rs batch heads more fits s only rest written is left =
      rests-then seen may_leave moment left_since only_now old mid new (IsEither (events_in (seen old)) more) told only (inl (gate, stands-described (seen old) gate spilled rs batch heads fits s)) rest
      (subst (λ events. BytesLeft moment left_since mid new (IsEither (events_in (seen old)) events)) is
      (subst (λ (l : List ℕ). BytesLeft moment left_since mid new (IsEither (events_in l) written)) (rest.same told) left))

-- a crash of the disk is one of the log
pub crashes : {L D : Type 0} (disk_of : L → D) (moment : D → ℕ) (left_since : D → ℕ → List ℕ → Type 0) (old new : L) (P : List ℕ → Type 0) (Q : List Messages → Type 0)
    → BytesLeft moment left_since (disk_of old) (disk_of new) P → ((bytes : List ℕ) (pages : List Messages) → P bytes → Means bytes pages → Q pages)
    → CrashesSinceLeave (λ log. moment (disk_of log)) (λ log t pages. LeavesPages (left_since (disk_of log) t) pages) old new Q
crashes disk_of moment left_since before after P Q l so = record {
  later = l.later;
  each = λ pages left. so left.0 pages (l.each left.0 left.1) left.2;
  before = λ t pages le left. ⊎_elim (λ earlier. inl (left.0, earlier, left.2)) (λ here. inr (so left.0 pages here left.2)) (l.before t left.0 le left.1);
  kept = λ t pages le left. (left.0, l.kept t left.0 le left.1, left.2);
}

-- ---- answers

-- an error other than a write fault begins nothing
pub quiet : (T : Type 0) (e : LogError) (begun : List (Event Message)) → e ≢ WriteFault → (let result : Result T LogError = Err e in (is_write_fault result ≡ false) × (begun_by result begun ≡ []))
quiet T Memory begun h = (refl, refl)
quiet T Full begun h = (refl, refl)
quiet T ReadFault begun h = (refl, refl)
quiet T WriteFault begun h = absurd (h refl)
quiet T Corruption begun h = (refl, refl)

-- why a call that calls no device may be refused
abbrev pub IsRefusal : LogError → Type 0
IsRefusal e = (e ≡ Memory) ⊎ (e ≡ Full) ⊎ (e ≡ Corruption)

not-write : (e : LogError) → IsRefusal e → e ≢ WriteFault
not-write e (inl m) w = cc
not-write e (inr (inl f)) w = cc
not-write e (inr (inr c)) w = cc

not-read : (e : LogError) → IsRefusal e → e ≢ ReadFault
not-read e (inl m) w = cc
not-read e (inr (inl f)) w = cc
not-read e (inr (inr c)) w = cc

-- a log on a disk
module _ {D : Type 0} (g : Ghosts D) (only_now : (disk : D) (left : List ℕ) → g.tells → g.left_since disk (g.moment disk) left → g.may_leave disk left) (are_bytes : (disk : D) → g.tells → IsBytes (g.seen disk)) where
  abbrev pub log_state : DiskLog D g → LogState Entry
  log_state log = state_in (g.seen log.disk) log.next.gate log.next.spilled log.next.buffer.items log.usable

  abbrev pub log_moment : DiskLog D g → ℕ
  log_moment log = g.moment log.disk

  abbrev pub log_left : DiskLog D g → ℕ → List Messages → Type 0
  log_left log t pages = LeavesPages (g.left_since log.disk t) pages

  abbrev pub log_counts : DiskLog D g → Counts
  log_counts log = record { reads = log.reads; failed_reads = (g.counts log.disk).failed_reads; write_faults = (g.counts log.disk).write_faults }

  abbrev pub pending_of : DiskLog D g → List (Event Entry)
  pending_of log = pending_in (g.seen log.disk) log.next.gate log.next.spilled log.next.buffer.items

  abbrev pub records_of : DiskLog D g → List Record
  records_of log = records_behind log.next.buffer.items

  opens : (log : DiskLog D g) → is_open (pending_of log) ≡ open_by log.next.spilled (records_of log)
  opens log = opens-by (g.seen log.disk) log.next.gate log.next.spilled log.next.buffer.items

  -- what waits is the same where the records, the gate and the file are
  pub record IsSame (before after : DiskLog D g) : Type 0 where
    pub gate : after.next.gate ≡ before.next.gate
    pub spilled : after.next.spilled ≡ before.next.spilled
    pub records : records_of after ≡ records_of before

  same-open : (before after : DiskLog D g) → IsSame before after → is_open (pending_of after) ≡ is_open (pending_of before)
  same-open before after s = opens after ∙ ap (λ b. open_by b (records_of after)) s.spilled ∙ ap (open_by before.next.spilled) s.records ∙ sym (opens before)

  same-pending : (before after : DiskLog D g) → g.seen after.disk ≡ g.seen before.disk → IsSame before after → pending_of after ≡ pending_of before
  same-pending before after is s =
      ap (λ (l : List ℕ). batch_events after.next.spilled (inside_in l) ++ pending_events (after.next.gate + 9) (records_of after)) is
      ∙ ap (λ b. batch_events b (inside_in (g.seen before.disk)) ++ pending_events (after.next.gate + 9) (records_of after)) s.spilled
      ∙ ap (λ n. batch_events before.next.spilled (inside_in (g.seen before.disk)) ++ pending_events (n + 9) (records_of after)) s.gate
      ∙ ap (λ (rs : List Record). batch_events before.next.spilled (inside_in (g.seen before.disk)) ++ pending_events (before.next.gate + 9) rs) s.records

  -- the disk was read at most: a crash leaves what is durable
  rests : (before after : DiskLog D g) (begun : List (Event Message)) → g.tells → before.usable ≡ true → Rests g.tells g.seen g.may_leave g.moment g.left_since before.disk after.disk → CrashesSinceLeave log_moment log_left before after (IsLeft effect_of (unplaced_state (log_state before)) begun)
  rests before after begun told can rest =
      let d = before.disk in
      crashes (λ (log : DiskLog D g). log.disk) g.moment g.left_since before after (λ bytes. bytes ≡ g.seen d) (IsLeft effect_of (unplaced_state (log_state before)) begun)
      (at-read g.seen g.may_leave g.moment g.left_since (λ disk bytes was. only_now disk bytes told was) d after.disk told (before.durable told can) rest)
      (means-none (g.seen d) before.next.gate before.next.spilled before.next.buffer.items before.usable (batch_of before.next) (chains_of before.pages.items) (are_bytes d told) (before.stands told can) begun)

  -- it has what it had
  kept : (before after : DiskLog D g) (more : List (Event Entry)) → g.tells → Rests g.tells g.seen g.may_leave g.moment g.left_since before.disk after.disk → pending_of after ≡ pending_of before ++ more → Adds effect_of_entry (log_state before) more (log_state after)
  kept before after more told rest pending =
      adds-none (g.seen before.disk) before.next.gate before.next.spilled before.next.buffer.items before.usable more (log_state after)
      (ap (λ (l : List ℕ). chains_after effect_of_entry [] (events_in l)) (rest.same told)) pending

  module _ {T : Type 0} (before after : DiskLog D g) (events : T → List (Event Entry)) (begun : List (Event Message)) where
    -- nothing changed
    pub called-refused : (e : LogError) → IsRefusal e → (g.tells → e ≢ Corruption) → Rests g.tells g.seen g.may_leave g.moment g.left_since before.disk after.disk → g.counts after.disk ≡ g.counts before.disk → after.usable ≡ true → after.reads ≡ before.reads
        → IsSame before after → before.usable ≡ true
        → (let result : Result T LogError = Err e in Called g.tells log_state log_moment log_left log_counts before after before.reads events begun result)
    called-refused e why sound rest same usable reads pending can =
        let result : Result T LogError = Err e in
        let q = quiet T e begun (not-write e why) in
        record {
          usable = usable ∙ ap not (sym q.0);
          opened = λ _. same-open before after pending ∙ ap (open_after (is_open (pending_of before))) (sym q.1);
          cause = record {
            failed_reads = let f = ap (λ (c : Counts). c.failed_reads) same in omega (arith, f);
            write_faults = let f = ap (λ (c : Counts). c.write_faults) same in omega (arith, f);
            read = λ is. absurd (not-read e why (let h : e ≡ ReadFault = cc in h));
            write = λ is. absurd (not-write e why (let h : e ≡ WriteFault = cc in h));
          };
          reads = reads;
          added = λ _. tt;
          refused = λ told _. kept before after [] told rest (same-pending before after (rest.same told) pending ∙ sym (append-nil (pending_of before)));
          stop = λ told. rests before after (begun_by result begun) told can rest;
          sound = λ told is. sound told (let h : e ≡ Corruption = cc in h);
        }

    -- events came, and wait
    pub called-waits : (said : T) → Rests g.tells g.seen g.may_leave g.moment g.left_since before.disk after.disk → g.counts after.disk ≡ g.counts before.disk → after.usable ≡ true → after.reads ≡ before.reads → (g.tells → pending_of after ≡ pending_of before ++ events said)
        → open_by after.next.spilled (records_of after) ≡ open_after (open_by before.next.spilled (records_of before)) begun → before.usable ≡ true
        → (let result : Result T LogError = Ok said in Called g.tells log_state log_moment log_left log_counts before after before.reads events begun result)
    called-waits said rest same usable reads pending opened can = record {
      usable = usable;
      opened = λ _. opens after ∙ opened ∙ ap (λ b. open_after b begun) (sym (opens before));
      cause = record {
        failed_reads = let f = ap (λ (c : Counts). c.failed_reads) same in omega (arith, f);
        write_faults = let f = ap (λ (c : Counts). c.write_faults) same in omega (arith, f);
        read = λ is. cc;
        write = λ is. cc;
      };
      reads = reads;
      added = λ told. kept before after (events said) told rest (pending told);
      refused = λ _. tt;
      stop = λ told. rests before after begun told can rest;
      sound = λ told is. cc;
    }

    -- events came, and then what was pending was written as a frame
    module _ (mid : DiskLog D g) (more : List (Event Entry)) (tells_begun : unplaced_events more ≡ begun) (rest : Rests g.tells g.seen g.may_leave g.moment g.left_since before.disk mid.disk) (same : g.counts mid.disk ≡ g.counts before.disk) (can : before.usable ≡ true)
        (pending : g.tells → pending_of mid ≡ pending_of before ++ more) (opened : open_by mid.next.spilled (records_of mid) ≡ open_after (open_by before.next.spilled (records_of before)) begun)
        (reads : after.reads ≡ before.reads) (written : Meant) (settled : g.tells → Settles (progress_in (g.seen mid.disk)) written (pending_events (mid.next.gate + 9) (records_of mid))) (begins : g.tells → is_begun (progress_in (g.seen mid.disk)).begun ≡ mid.next.spilled)
        (any_moment : g.tells → BytesLeft g.moment g.left_since mid.disk after.disk (IsEither (events_in (g.seen mid.disk)) written.settled)) where
      abbrev seen_before : List ℕ
      seen_before = g.seen before.disk

      parts : (told : g.tells) → pending_of before ++ more ≡ (settled told).done ++ open_events written
      parts told = sym (pending told) ∙ ap (λ b. batch_events b (inside_in (g.seen mid.disk)) ++ pending_events (mid.next.gate + 9) (records_of mid)) (sym (begins told)) ∙ (settled told).parts

      same-pages : (told : g.tells) → chains_after effect_of_entry [] written.settled ≡ chains_after effect_of_entry (chains_after effect_of_entry [] (events_in seen_before)) (settled told).done
      same-pages told = (settled told).made ∙ ap (λ (l : List ℕ). chains_after effect_of_entry (chains_after effect_of_entry [] (events_in l)) (settled told).done) (rest.same told)

      stops : g.tells → CrashesSinceLeave log_moment log_left before after (IsLeft effect_of (unplaced_state (log_state before)) begun)
      stops told =
          let d = before.disk in
          let left : BytesLeft g.moment g.left_since d after.disk (IsEither (events_in seen_before) written.settled) =
          rests-then g.seen g.may_leave g.moment g.left_since (λ disk bytes was. only_now disk bytes told was) d mid.disk after.disk (IsEither (events_in seen_before) written.settled) told (before.durable told can)
          (inl (before.next.gate, stands-described seen_before before.next.gate before.next.spilled (records_of before) (batch_of before.next) (chains_of before.pages.items) (are_bytes d told) (before.stands told can))) rest
          (subst (λ (l : List ℕ). BytesLeft g.moment g.left_since mid.disk after.disk (IsEither (events_in l) written.settled)) (rest.same told) (any_moment told)) in
          crashes (λ (log : DiskLog D g). log.disk) g.moment g.left_since before after (IsEither (events_in seen_before) written.settled) (IsLeft effect_of (unplaced_state (log_state before)) begun) left
          (λ bytes pages was means. subst (λ (l : List (Event Message)). IsLeft effect_of (unplaced_state (log_state before)) l pages) tells_begun
          (means-frame seen_before before.next.gate before.next.spilled before.next.buffer.items before.usable more (settled told).done (open_events written) written.settled bytes pages (parts told) (settled told).closed (same-pages told) was means))

      pub called-wrote : (said : T) → events said ≡ more → after.usable ≡ true → records_of after ≡ [] → after.next.spilled ≡ open_by mid.next.spilled (records_of mid)
          → (g.tells → progress_in (g.seen after.disk) ≡ written) → (g.tells → is_begun written.begun ≡ after.next.spilled)
          → (let result : Result T LogError = Ok said in HasCause (g.counts mid.disk) (g.counts after.disk) result)
          → (let result : Result T LogError = Ok said in Called g.tells log_state log_moment log_left log_counts before after before.reads events begun result)
      called-wrote said are usable none spilled stable ends cause = record {
        usable = usable;
        opened = λ _. opens after ∙ ap (open_by after.next.spilled) none ∙ spilled ∙ opened ∙ ap (λ b. open_after b begun) (sym (opens before));
        cause = record {
          failed_reads = let f = ap (λ (c : Counts). c.failed_reads) same in let h = cause.failed_reads in omega (arith, f, h);
          write_faults = let f = ap (λ (c : Counts). c.write_faults) same in let h = cause.write_faults in omega (arith, f, h);
          read = λ is. cc;
          write = λ is. cc;
        };
        reads = reads;
        added = λ told.
            adds-part seen_before before.next.gate before.next.spilled before.next.buffer.items before.usable (events said) (settled told).done (open_events written) (log_state after)
            (ap (λ (l : List (Event Entry)). pending_of before ++ l) are ∙ parts told) (settled told).closed
            (ap (λ (q : Meant). chains_after effect_of_entry [] q.settled) (stable told) ∙ same-pages told)
            (ap (λ (rs : List Record). batch_events after.next.spilled (inside_in (g.seen after.disk)) ++ pending_events (after.next.gate + 9) rs) none ∙ append-nil (batch_events after.next.spilled (inside_in (g.seen after.disk)))
            ∙ ap (λ b. batch_events b (inside_in (g.seen after.disk))) (sym (ends told)) ∙ ap (λ (q : Meant). batch_events (is_begun written.begun) (inside_of q.begun)) (stable told));
        refused = λ _. tt;
        stop = stops;
        sound = λ told is. cc;
      }

      pub called-fault : after.usable ≡ false
          → (let result : Result T LogError = Err WriteFault in HasCause (g.counts mid.disk) (g.counts after.disk) result)
          → (let result : Result T LogError = Err WriteFault in Called g.tells log_state log_moment log_left log_counts before after before.reads events begun result)
      called-fault usable cause = record {
        usable = usable;
        opened = λ clear. absurd (true≢false clear);
        cause = record {
          failed_reads = let f = ap (λ (c : Counts). c.failed_reads) same in let h = cause.failed_reads in omega (arith, f, h);
          write_faults = let f = ap (λ (c : Counts). c.write_faults) same in let h = cause.write_faults in omega (arith, f, h);
          read = λ is. cc;
          write = λ is. subst (λ (c : Counts). HasGrown c.write_faults (g.counts after.disk).write_faults) same (cause.write refl);
        };
        reads = reads;
        added = λ _. tt;
        refused = λ _ clear. absurd (true≢false clear);
        stop = stops;
        sound = λ told is. cc;
      }

  -- a call that changes nothing, and needs memory alone
  pub called-nothing : {T : Type 0} (log : DiskLog D g) (result : Result T LogError) → IfErr result (λ e. (e ≡ Memory) ⊎ (e ≡ Corruption)) → (g.tells → IsErrOf result Corruption → ⊥) → log.usable ≡ true
      → Called g.tells log_state log_moment log_left log_counts log log log.reads (λ _. []) [] result
  called-nothing log (Ok said) only sound usable = called-waits log log (λ _. []) [] said (rests-same g.seen g.may_leave g.moment g.left_since g.tells log.disk) refl usable refl (λ told. sym (append-nil (pending_of log))) refl usable
  called-nothing log (Err e) only sound usable = called-refused log log (λ _. []) [] e (⊎_elim (λ m. inl m) (λ c. inr (inr c)) only) (λ told is. sound told (ap (λ e. Err e) is)) (rests-same g.seen g.may_leave g.moment g.left_since g.tells log.disk) refl usable refl (record { gate = refl; spilled = refl; records = refl }) usable

  -- a call that reads the disk at most
  module _ (before after : DiskLog D g) (count : ℕ) (usable : after.usable ≡ true) (pending : IsSame before after) (reads : after.reads ≡ count)
      (rest : Rests g.tells g.seen g.may_leave g.moment g.left_since before.disk after.disk) (can : before.usable ≡ true)
      (failed : (g.counts before.disk).failed_reads ≤ (g.counts after.disk).failed_reads) (faults : (g.counts before.disk).write_faults ≤ (g.counts after.disk).write_faults) where
    pub called-read : {T : Type 0} (said : T) → (let result : Result T LogError = Ok said in Called g.tells log_state log_moment log_left log_counts before after count (λ _. []) [] result)
    called-read said = record {
      usable = usable;
      opened = λ _. same-open before after pending;
      cause = record { failed_reads = failed; write_faults = faults; read = λ is. cc; write = λ is. cc };
      reads = reads;
      added = λ told. kept before after [] told rest (same-pending before after (rest.same told) pending ∙ sym (append-nil (pending_of before)));
      refused = λ _. tt;
      stop = λ told. rests before after [] told can rest;
      sound = λ told is. cc;
    }

    pub called-unread : (T : Type 0) (e : LogError) → (e ≡ Memory) ⊎ (e ≡ ReadFault) ⊎ (e ≡ Corruption) → (g.tells → e ≢ Corruption) → (e ≡ ReadFault → HasGrown (g.counts before.disk).failed_reads (g.counts after.disk).failed_reads)
        → (let result : Result T LogError = Err e in Called g.tells log_state log_moment log_left log_counts before after count (λ _. []) [] result)
    called-unread T e why sound grown =
        let result : Result T LogError = Err e in
        let none : List (Event Message) = [] in
        let clear : e ≢ WriteFault = never e why in
        let q = quiet T e none clear in
        record {
          usable = usable ∙ ap not (sym q.0);
          opened = λ _. same-open before after pending ∙ ap (open_after (is_open (pending_of before))) (sym q.1);
          cause = record { failed_reads = failed; write_faults = faults; read = λ is. grown (let h : e ≡ ReadFault = cc in h); write = λ is. absurd (clear (let h : e ≡ WriteFault = cc in h)) };
          reads = reads;
          added = λ _. tt;
          refused = λ told _. kept before after [] told rest (same-pending before after (rest.same told) pending ∙ sym (append-nil (pending_of before)));
          stop = λ told. rests before after (begun_by result none) told can rest;
          sound = λ told is. sound told (let h : e ≡ Corruption = cc in h);
        }
      where
        never : (e : LogError) → (e ≡ Memory) ⊎ (e ≡ ReadFault) ⊎ (e ≡ Corruption) → e ≢ WriteFault
        never e (inl m) w = cc
        never e (inr (inl f)) w = cc
        never e (inr (inr c)) w = cc
