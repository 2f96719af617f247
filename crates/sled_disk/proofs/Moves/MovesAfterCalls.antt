-- What the calls of a log leave of its place among its records, and of the messages that it has still to name.
use Rattle.std.proofs.Common.{◌≡◌, ◌≢◌, inl, inr, ℕ, zero, suc, ◌+◌, ◌≤◌, ◌<◌, true, false, List, [], ◌∷◌, ◌++◌, length, drop, refl, ap, sym, ◌∙◌, subst, append_assoc, arith}
use Rattle.std.specs.Prelude.{Option, Some, None, ◌==◌, ◌||◌, nat_lt, if◌then◌else◌}
use Rattle.std.proofs.lemmas.Bool.{cases_lt, lt-ltb, le-leb, eq-eqb}
use Rattle.std.proofs.lemmas.List.{append-nil}
use Rattle.sled_log.specs.Calls.{Counts}
use Rattle.sled_log.specs.Events.{Event, Change}
use Rattle.sled_log.specs.Messages.{Entry}
use Rattle.sled_log.specs.Moves.{Moves, first_of, due_among, moves_with}
use Rattle.sled_disk.specs.declared.log.names.Names.{Names}
use Rattle.sled_disk.specs.declared.format.next_frame.NextFrame.{NextFrame}
use Rattle.sled_disk.specs.CountedMessages.{placed_in, counted_messages, IsLooked}
use Rattle.sled_disk.specs.Cursor.{is_among, IsAmong}
use Rattle.sled_disk.specs.Format.{Record, Frame, body}
use Rattle.sled_disk.specs.MeaningLaws.{gate_after}
use Rattle.sled_disk.specs.Names.{offset_in, messages_in, all_messages, from_place, one_or_none, moves_in, read_of, most_steps, IsStep, AreSteps, IsSought, IsReadAhead, IsDueOfAll}
use Rattle.sled_disk.specs.Pending.{pending_in, pending_event}
use Rattle.sled_disk.specs.Reading.{frames_of}
use Rattle.sled_disk.specs.LogContents.{or_none, events_in, records_behind}
use Rattle.sled_disk.specs.PendingFrame.{pending_of, place_of}
use Rattle.sled_disk.proofs.Frames.RecordAppend.{waiting-more}
use Rattle.sled_disk.proofs.Moves.RecordPlaces.{Between, between-more, stands, is-among, stands-first, stands-other, stands-written}
use Rattle.sled_disk.proofs.Moves.CountedMessages.{message_of, event-messages, messages-append}
use Rattle.sled_disk.proofs.Moves.SearchProgress.{names-append, first-names, looks-alike}
use Rattle.sled_disk.proofs.Moves.SearchSteps.{grown-later}

-- ---- the place

among-other : (seen : List ℕ) (rs others : List Record) (gate at : ℕ) → ((place : ℕ) → Between place rs at → place ≡ gate_after 8 (or_none (frames_of (drop 8 seen))) + 9 → Between place others at) → IsAmong seen rs gate at → IsAmong seen others gate at
among-other seen rs others gate at k s =
    let frames = or_none (frames_of (drop 8 seen)) in
    record { known = is-among 8 frames others gate at (stands-other 8 frames rs others gate at k (stands 8 frames rs gate at s.known)) }

-- one record more
pub among-more : (seen : List ℕ) (rs : List Record) (r : Record) (gate at : ℕ) → IsAmong seen rs gate at → IsAmong seen (rs ++ r ∷ []) gate at
among-more seen rs r gate at s = among-other seen rs (rs ++ r ∷ []) gate at (λ place b is. between-more place rs r at b) s

-- the pending records were written as a frame
pub among-written : (seen after : List ℕ) (rs none : List Record) (gate at : ℕ) → none ≡ [] → or_none (frames_of (drop 8 after)) ≡ or_none (frames_of (drop 8 seen)) ++ record { gate = 1; records = rs } ∷ [] → IsAmong seen rs gate at → IsAmong after none gate at
among-written seen after rs none gate at empty is s =
    let frames = or_none (frames_of (drop 8 seen)) in
    subst (λ (l : List Record). IsAmong after l gate at) (sym empty)
    (record { known = subst (λ (l : List Frame). is_among 8 l [] gate at ≡ true) (sym is) (is-among 8 (frames ++ record { gate = 1; records = rs } ∷ []) [] gate at (stands-written 8 frames 1 rs gate at (stands 8 frames rs gate at s.known))) })

-- the first place of a file
pub among-first : (seen : List ℕ) (rs : List Record) (gate at : ℕ) → gate ≡ 8 → at ≡ 17 → IsAmong seen rs gate at
among-first seen rs gate at g a =
    let frames = or_none (frames_of (drop 8 seen)) in
    subst (λ n. IsAmong seen rs n at) (sym g) (subst (λ n. IsAmong seen rs 8 n) (sym a) (record { known = is-among 8 frames rs 8 17 (stands-first 8 frames rs) }))

-- behind an append, or behind none
pub counted-places : (seen : List ℕ) (rs : List Record) (old new : Names) → new ≡ record old { appended = new.appended } → IsAmong seen rs old.gate old.at × IsLooked seen rs old → IsAmong seen rs new.gate new.at × IsLooked seen rs new
counted-places seen rs old new same (s, k) =
    let count = new.appended in
    let later : Names = record old { appended = count } in
    subst (λ (n : Names). IsAmong seen rs n.gate n.at × IsLooked seen rs n) (sym same) (s, record { looks = looks-alike (placed_in seen rs) old later refl k.looks; among = k.among })

-- ---- what is to be named

abbrev moves : List (ℕ × ℕ) → ℕ → Moves
moves waiting appended = record { waiting = waiting; appended = appended }

-- the same messages
pub moves-same : (seen after : List ℕ) (next later : NextFrame) (old new : Names) → new ≡ old → all_messages after later ≡ all_messages seen next → moves_in after later new ≡ moves_in seen next old
moves-same seen after next later old new same messages =
    ap (moves_in after later) same ∙ ap (λ (l : List (ℕ × ℕ)). moves (one_or_none old.read ++ from_place old.at l) old.appended) messages

-- a pending record more
pub messages-more : (seen after : List ℕ) (next later : NextFrame) (r : Record) → after ≡ seen → later.gate ≡ next.gate → later.spilled ≡ next.spilled → records_behind later.buffer.items ≡ records_behind next.buffer.items ++ r ∷ []
    → all_messages after later ≡ all_messages seen next ++ message_of ((next.gate + 9) + length (body (records_behind next.buffer.items))) r
messages-more seen after next later r same gate spilled records =
    let place = (next.gate + 9) + length (body (records_behind next.buffer.items)) in
    ap (λ (l : List ℕ). messages_in (events_in l ++ pending_in l later.gate later.spilled later.buffer.items)) same
    ∙ ap (λ n. messages_in (events_in seen ++ pending_in seen n later.spilled later.buffer.items)) gate
    ∙ ap (λ b. messages_in (events_in seen ++ pending_in seen next.gate b later.buffer.items)) spilled
    ∙ ap (λ (l : List (Event Entry)). messages_in (events_in seen ++ l)) (waiting-more seen next.gate next.spilled next.buffer.items later.buffer.items r records)
    ∙ ap messages_in (sym (append_assoc (events_in seen) (pending_of seen next) (pending_event place r)))
    ∙ messages-append (events_in seen ++ pending_of seen next) (pending_event place r)
    ∙ ap (λ (l : List (ℕ × ℕ)). all_messages seen next ++ l) (event-messages place r)

-- a change more
pub messages-changed : (seen after : List ℕ) (next later : NextFrame) (pid : ℕ) (e : Entry) → after ≡ seen → pending_of after later ≡ pending_of seen next ++ Change pid e ∷ [] → all_messages after later ≡ all_messages seen next ++ (pid, offset_in e.place.pointer) ∷ []
messages-changed seen after next later pid e same pending =
    ap (λ (l : List ℕ). messages_in (events_in l ++ pending_of after later)) same
    ∙ ap (λ (l : List (Event Entry)). messages_in (events_in seen ++ l)) pending
    ∙ ap messages_in (sym (append_assoc (events_in seen) (pending_of seen next) (Change pid e ∷ [])))
    ∙ messages-append (events_in seen ++ pending_of seen next) (Change pid e ∷ [])

-- one that has no message
pub moves-marked : (seen after : List ℕ) (next later : NextFrame) (old new : Names) (r : Record) → new ≡ old → after ≡ seen → later.gate ≡ next.gate → later.spilled ≡ next.spilled → records_behind later.buffer.items ≡ records_behind next.buffer.items ++ r ∷ []
    → ((place : ℕ) → message_of place r ≡ []) → moves_in after later new ≡ moves_in seen next old
moves-marked seen after next later old new r names same gate spilled records none =
    moves-same seen after next later old new names
    (messages-more seen after next later r same gate spilled records ∙ ap (λ (l : List (ℕ × ℕ)). all_messages seen next ++ l) (none ((next.gate + 9) + length (body (records_behind next.buffer.items)))) ∙ append-nil (all_messages seen next))

-- one message more
pub moves-more : (seen after : List ℕ) (next later : NextFrame) (old new : Names) (pid : ℕ) → all_messages after later ≡ all_messages seen next ++ (pid, place_of next) ∷ []
    → old.at ≤ place_of next → new.at ≡ old.at → new.read ≡ old.read → new.appended ≡ old.appended + 1
    → moves_in after later new ≡ moves_with (moves_in seen next old) ((pid, place_of next) ∷ [])
moves-more seen after next later old new pid messages le at read appended =
    let was = all_messages seen next in
    let one : List (ℕ × ℕ) = (pid, place_of next) ∷ [] in
    let kept : from_place old.at one ≡ one = rw (le-leb old.at (place_of next) le) refl in
    ap (λ n. moves (one_or_none new.read ++ from_place new.at (all_messages after later)) n) appended
    ∙ ap (λ r. moves (one_or_none r ++ from_place new.at (all_messages after later)) (old.appended + 1)) read
    ∙ ap (λ n. moves (one_or_none old.read ++ from_place n (all_messages after later)) (old.appended + 1)) at
    ∙ ap (λ (l : List (ℕ × ℕ)). moves (one_or_none old.read ++ from_place old.at l) (old.appended + 1)) messages
    ∙ ap (λ (l : List (ℕ × ℕ)). moves (one_or_none old.read ++ l) (old.appended + 1)) (names-append old.at was one ∙ ap (λ (l : List (ℕ × ℕ)). from_place old.at was ++ l) kept)
    ∙ ap (λ (l : List (ℕ × ℕ)). moves l (old.appended + 1)) (sym (append_assoc (one_or_none old.read) (from_place old.at was) one))

-- a log that was opened
pub waiting-all : (seen : List ℕ) (next : NextFrame) (names : Names) → names.at ≡ 17 → names.read ≡ None → counted_messages true (placed_in seen (records_behind next.buffer.items)) ≡ messages_in (events_in seen) → pending_of seen next ≡ []
    → (moves_in seen next names).waiting ≡ messages_in (events_in seen)
waiting-all seen next names at read counts none =
    let rs = records_behind next.buffer.items in
    let same : all_messages seen next ≡ messages_in (events_in seen) = ap (λ (l : List (Event Entry)). messages_in (events_in seen ++ l)) none ∙ ap messages_in (append-nil (events_in seen)) in
    ap (λ r. one_or_none r ++ from_place names.at (all_messages seen next)) read
    ∙ ap (λ n. from_place n (all_messages seen next)) at
    ∙ ap (from_place 17) (same ∙ sym counts)
    ∙ first-names seen rs
    ∙ counts

-- ---- what is due

some-first : (read : Option (ℕ × ℕ)) (others : List (ℕ × ℕ)) (pages : ℕ) → one_or_none read ≢ [] → first_of pages (one_or_none read) ≡ first_of pages (one_or_none read ++ others)
some-first None others pages some = absurd (some refl)
some-first (Some named) others pages some = refl

due-alike : (pages every appended : ℕ) (xs ys : List (ℕ × ℕ)) → (0 < every → every ≤ appended → first_of pages xs ≡ first_of pages ys) → due_among pages every (moves xs appended) ≡ due_among pages every (moves ys appended)
due-alike pages every appended xs ys k = elim (cases_lt 0 every) [
  | inr none ↦ let z = eq-eqb every 0 (omega (arith, none)) in rw z refl
  | inl some ↦ elim (cases_lt appended every) [
    | inl few ↦ elim (every == 0) as (λ b. (if b || nat_lt appended every then None else first_of pages xs) ≡ (if b || nat_lt appended every then None else first_of pages ys)) [
      | true ↦ refl
      | false ↦ let l = lt-ltb appended every few in rw l refl
    ]
    | inr enough ↦ ap (λ (f : Option (ℕ × ℕ)). if (every == 0) || nat_lt appended every then None else f) (k some enough)
  ]
]

-- no step, and one more
pub steps-none : (names : Names) → AreSteps 0 names names
unfolding AreSteps
steps-none names = (refl, refl, refl)

pub steps-more : (n : ℕ) (old mid new : Names) → AreSteps n old mid → IsStep mid new → AreSteps (n + 1) old new
unfolding AreSteps
steps-more n old mid new steps step = let more : suc n ≡ n + 1 = omega arith in subst (λ k. AreSteps k old new) more (one n steps)
  where
    one : (n : ℕ) → AreSteps n old mid → AreSteps (suc n) old new
    one n steps = (mid, steps, step)

-- steps from the same place
steps-from : (n : ℕ) (first old new : Names) → old.at ≡ first.at → old.ahead ≡ first.ahead → old.seeks ≡ first.seeks → AreSteps n old new → AreSteps n first new
unfolding AreSteps
steps-from zero first old new at ahead seeks (a, b, c) = (a ∙ at, b ∙ ahead, c ∙ seeks)
steps-from (suc n) first old new at ahead seeks (mid, steps, last) = (mid, steps-from n first old mid at ahead seeks steps, last)

-- what was read behind an append, where there is a message
pub read-ahead : (first old new : Names) (counts mid now : Counts) (moves : Moves) → IsSought old new mid now moves → moves.waiting ≢ [] → old.at ≡ first.at → old.ahead ≡ first.ahead → old.seeks ≡ first.seeks → counts.failed_reads ≤ mid.failed_reads → IsReadAhead first new counts now
read-ahead first old new counts mid now moves (inl (inl read)) some at ahead seeks later = inl read
read-ahead first old new counts mid now moves (inl (inr (inl none))) some at ahead seeks later = absurd (some none)
read-ahead first old new counts mid now moves (inl (inr (inr grown))) some at ahead seeks later = inr (inl (grown-later counts.failed_reads mid.failed_reads now.failed_reads later grown))
read-ahead first old new counts mid now moves (inr far) some at ahead seeks later = inr (inr (steps-from most_steps first old new at ahead seeks far))

-- what is due of the message that was read is due of all
pub due-of-all : (pages every : ℕ) (seen : List ℕ) (next : NextFrame) (first new : Names) (counts now : Counts) → (0 < every → IsReadAhead first new counts now)
    → IsDueOfAll (due_among pages every (read_of new)) (due_among pages every (moves_in seen next new)) first new counts now
due-of-all pages every seen next first new counts now ahead = elim (cases_lt 0 every) [
  | inr none ↦ inl (due-alike pages every new.appended (one_or_none new.read) (moves_in seen next new).waiting (λ lt le. absurd (omega (arith, none, lt))))
  | inl lt ↦ by (ahead lt)
]
  where
    by : IsReadAhead first new counts now → IsDueOfAll (due_among pages every (read_of new)) (due_among pages every (moves_in seen next new)) first new counts now
    by (inl read) = inl (due-alike pages every new.appended (one_or_none new.read) (moves_in seen next new).waiting (λ l le. some-first new.read (from_place new.at (all_messages seen next)) pages read))
    by (inr others) = inr others

-- behind an append there is one
pub never-empty : (were : List (ℕ × ℕ)) (one : ℕ × ℕ) (waiting : List (ℕ × ℕ)) → waiting ≡ were ++ one ∷ [] → waiting ≢ []
never-empty [] one waiting is none = let e = sym is ∙ none in cc
never-empty (first ∷ were) one waiting is none = let e = sym is ∙ none in cc
