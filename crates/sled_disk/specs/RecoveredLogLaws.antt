-- What follows for a log that may be called.
use Rattle.std.proofs.Common.{◌≡◌, ℕ, ◌≤◌, ◌<◌, Bool, true, false, List, [], ◌∷◌, ◌++◌, length, map, drop, get_or, refl, ap, sym, ◌∙◌, subst, append_assoc, arith}
use Rattle.std.specs.Prelude.{Option, Some, None}
use Rattle.std.specs.List.{list_all}
use Rattle.std.proofs.lemmas.List.{drop_all, get_or_at, length-append, length-map}
use Rattle.std.specs.Global.{Vec}
use Rattle.sled_log.specs.Chains.{chains_after}
use Rattle.sled_log.specs.Events.{Event}
use Rattle.sled_log.specs.Inside.Laws.{IsFair-none}
use Rattle.sled_log.specs.Inside.MovesLaws.{due_within}
use Rattle.sled_log.specs.Moves.{Moves, due_among}
use Rattle.sled_log.specs.LogState.{now, IsLeft, unplaced_state}
use Rattle.sled_log.specs.Messages.{Message, Messages, Entry, messages_of, effect_of, effect_of_entry}
use Rattle.sled_disk.specs.declared.recovery.head.Head.{Head}
use Rattle.sled_disk.specs.Crash.{IsClosed}
use Rattle.sled_disk.specs.Disk.{Only}
use Rattle.sled_disk.specs.AppendedFrameLaws.{one-meaning}
use Rattle.sled_disk.specs.EncodingLaws.{number_bytes-length}
use Rattle.sled_disk.specs.Format.{opening, body, number_bytes, Record, frames_bytes, Describes, DescribesTo, IsBytes, Begun}
use Rattle.sled_disk.specs.RecoveredHeads.{AreRead}
use Rattle.sled_disk.specs.Pending.{is_own, state_in}
use Rattle.sled_disk.specs.Reading.{Read, chains_of, entry_in, records_in, records_of}
use Rattle.sled_disk.specs.RecoveredLog.{Means, LeavesPages}
use Rattle.sled_disk.specs.LogContents.{events_in, records_behind, Stands}
use Rattle.sled_disk.specs.LogContentsLaws.{parsed, stands, described, place-is, heads-stand, file-read, file-parsed}

-- a buffer of 8 bytes has no records
pub none-parsed : (buffer : List ℕ) → length buffer ≤ 8 → records_of (drop 8 buffer) ≡ Some []
unfolding records_of records_in
none-parsed buffer le = ap records_of (drop_all 8 buffer le)

pub none-behind : (buffer : List ℕ) → length buffer ≤ 8 → records_behind buffer ≡ []
none-behind buffer le = rw (none-parsed buffer le) refl

-- a file that was read to its end outside a batch satisfies `Stands` with no records after it
pub read-stands : (seen : List ℕ) (gate : ℕ) (read : Read) → IsBytes seen → AreRead seen gate read → read.begun ≡ None → Stands seen gate false [] None read.settled
read-stands seen gate read fits are closed = by read.begun closed refl
  where
    by : (begun : Option (Begun Head)) → begun ≡ None → read.begun ≡ begun → Stands seen gate false [] None read.settled
    by None none is = stands seen gate false [] None read.settled (file-parsed seen gate read (file-read seen gate read fits are.opens are.found) read.settled None (rw is refl) (rw is refl))
    by (Some b) none is = absurd cc

module _ (seen : List ℕ) (gate : ℕ) (spilled : Bool) (rs : List Record) (batch : Option ℕ) (heads : List (List Head)) (fits : IsBytes seen) (s : Stands seen gate spilled rs batch heads) where
  -- the file is described
  pub stands-described : DescribesTo gate seen (events_in seen)
  stands-described = described seen gate spilled rs batch heads (parsed seen gate spilled rs batch heads fits s)

  -- its gate is closed
  pub stands-closed : IsClosed gate seen
  stands-closed =
      let p = parsed seen gate spilled rs batch heads fits s in
      let front = opening ++ frames_bytes p.frames in
      let file : seen ≡ front ++ 0 ∷ p.rest = p.is ∙ sym (append_assoc opening (frames_bytes p.frames) (0 ∷ p.rest)) in
      let at = place-is seen gate spilled rs batch heads p in
      record {
        within = let e = ap length file in omega (arith, e, at, length-append front (0 ∷ p.rest));
        closed = ap (λ (l : List ℕ). get_or l gate 1) file ∙ get_or_at front 0 p.rest 1 gate at;
      }

  -- the pages that the open frames make
  abbrev pub durable_pages : List Messages
  durable_pages = map messages_of (chains_after effect_of_entry [] (events_in seen))

  -- what its own bytes mean
  pub stands-means : Means seen durable_pages
  stands-means events describes = ap (λ (l : List (Event Entry)). map messages_of (chains_after effect_of_entry [] l)) (one-meaning seen (events_in seen) events (gate, stands-described) describes)

  -- a crash may leave exactly what is durable
  pub ready-keeps : (left : List ℕ → Type 0) → left seen → LeavesPages left durable_pages
  ready-keeps left may = (seen, may, stands-means)

  -- and nothing else
  pub ready-only : (may_leave : List ℕ → Type 0) → Only seen may_leave → (pages : List Messages) → LeavesPages may_leave pages → pages ≡ durable_pages
  ready-only may_leave only pages (bytes, may, means) =
      means (events_in seen) (subst (λ (l : List ℕ). Describes l (events_in seen)) (sym (only bytes may)) (gate, stands-described))

-- ---- the laws of a log at rest

module _ (seen : List ℕ) (gate : ℕ) (spilled : Bool) (rs : List Record) (batch : Option ℕ) (heads : List (List Head)) (fits : IsBytes seen) (s : Stands seen gate spilled rs batch heads) where
  pub log-keeps : (left : List ℕ → Type 0) → left seen → LeavesPages left (map messages_of (chains_after effect_of_entry [] (events_in seen)))
  log-keeps left may = ready-keeps seen gate spilled rs batch heads fits s left may

  pub log-only : (ends : Bool) (buffer : List ℕ) (usable : Bool) (may_leave : List ℕ → Type 0) → Only seen may_leave → (pages : List Messages) → LeavesPages may_leave pages → IsLeft effect_of (unplaced_state (state_in seen gate ends buffer usable)) [] pages
  log-only ends buffer usable may_leave only pages left =
      let pending : List (Event Message) = (unplaced_state (state_in seen gate ends buffer usable)).pending in
      record { came = []; beginning = ([], refl); cut = 0; fair = IsFair-none (pending ++ []); is = ready-only seen gate spilled rs batch heads fits s may_leave only pages left }

-- what is due is of a page that the log holds
pub log-due : (seen : List ℕ) (gate : ℕ) (spilled : Bool) (buffer : List ℕ) (usable : Bool) (batch : Option ℕ) (pages : List (Vec Head)) → IsBytes seen → Stands seen gate spilled (records_behind buffer) batch (chains_of pages) → list_all is_own (records_behind buffer) ≡ true
    → (every : ℕ) (moves : Moves) (pid place : ℕ) → due_among (length pages) every moves ≡ Some (pid, place) → pid < length (now effect_of_entry (state_in seen gate spilled buffer usable))
log-due seen gate spilled buffer usable batch pages fits s own every moves pid place is =
    let heads : List (List Head) = chains_of pages in
    let rs = records_behind buffer in
    let p = parsed seen gate spilled rs batch heads fits s in
    let bytes = opening ++ (frames_bytes p.frames ++ 0 ∷ (number_bytes 0 ++ body rs)) in
    let held = heads-stand seen gate spilled rs batch heads p bytes (number_bytes 0) (number_bytes-length 0) refl own in
    let long = ap length held in
    let within = due_within (length pages) every moves pid place is in
    omega (arith, length-map heads (map (entry_in bytes)), length-map pages (λ (v : Vec Head). v.items), long, within)
