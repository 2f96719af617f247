-- What a file and the pending records after it make together.
use Rattle.std.specs.Prelude.{◌≡◌, ◌+◌, ◌==◌, ◌&&◌, ℕ, Bool, true, false, not, List, [], ◌++◌, take, drop, Option, Some, None, if◌then◌else◌}
use Rattle.sled_log.specs.Events.{Event}
use Rattle.sled_log.specs.Messages.{Entry, effect_of_entry}
use Rattle.sled_disk.specs.declared.recovery.head.Head.{Head}
use Rattle.sled_disk.specs.Format.{opening, Record, entry_at, ◌>>=◌, Begun, Progress, outside, turns, taken, takes_event, takes_change, said_by}
use Rattle.sled_disk.specs.Reading.{Read, start, records_of, frames_of, found_at, steps, head_at, effect_of_head}

-- what was read, or an empty list
abbrev pub or_none : {X : Type 0} → Option (List X) → List X
or_none None = []
or_none (Some xs) = xs

-- whether both are the same
abbrev pub bool_eq : Bool → Bool → Bool
bool_eq true b = b
bool_eq false b = not b

-- the progress that was made, or none
abbrev pub or_start : Option (Progress Entry (List (Event Entry))) → Progress Entry (List (Event Entry))
or_start None = outside []
or_start (Some p) = p

-- what the open frames mean: the events, and the changes of a batch in which they end
abbrev pub progress_in : List ℕ → Progress Entry (List (Event Entry))
progress_in bytes = or_start (said_by (or_none (frames_of (drop 8 bytes))))

abbrev pub events_in : List ℕ → List (Event Entry)
events_in bytes = (progress_in bytes).settled

abbrev pub inside_of : {E : Type 0} → Option (Begun E) → List (ℕ × E)
inside_of None = []
inside_of (Some begun) = begun.inside

abbrev pub inside_in : List ℕ → List (ℕ × Entry)
inside_in bytes = inside_of (progress_in bytes).begun

-- what they mean with these records in a frame after the gate at that place
abbrev pub progress_then : List ℕ → ℕ → List Record → Progress Entry (List (Event Entry))
progress_then bytes gate rs = or_start (turns entry_at (takes_event effect_of_entry) (gate + 9) (progress_in bytes) rs)

-- the pending records of a buffer that begins with 8 bytes for their length
abbrev pub records_behind : List ℕ → List Record
records_behind buffer = or_none (records_of (drop 8 buffer))

-- whether a batch has begun, and whether the one that has begun began at that place, or none has
abbrev pub is_begun : {E : Type 0} → Option (Begun E) → Bool
is_begun None = false
is_begun (Some begun) = true

abbrev pub begins_at : {E : Type 0} → Option ℕ → Option (Begun E) → Bool
begins_at None None = true
begins_at None (Some begun) = false
begins_at (Some place) None = false
begins_at (Some place) (Some begun) = begun.place == place

-- all chains, with the changes of a batch that has begun
abbrev pub chains_now : Read → Option (List (List Head))
chains_now p = taken head_at (takes_change effect_of_head) p.settled (inside_of p.begun)

-- The chains that the open frames up to a gate and these records after it make. Each record must be allowed where it is; the frames must
-- end inside a batch if and only if `spilled`; and the records must end inside the batch that began at `batch`, or outside of one.
abbrev pub heads_with : ℕ → Bool → Option ℕ → List ℕ → List Record → Option (List (List Head))
heads_with gate spilled batch seen rs =
    found_at 8 start (drop 8 seen) >>= λ x. if x.0 == gate && bool_eq (is_begun x.1.begun) spilled then (steps (gate + 9) x.1 rs >>= λ q. if begins_at batch q.begun then chains_now q else None) else None

-- The described part of the file ends at the closed gate there, and its records and these after it make these chains.
pub record Stands (seen : List ℕ) (gate : ℕ) (spilled : Bool) (rs : List Record) (batch : Option ℕ) (heads : List (List Head)) : Type 0 where
  pub opens : take 8 seen ≡ opening
  pub made : heads_with gate spilled batch seen rs ≡ Some heads

-- the bytes of the file up to its closed gate, and the buffer after it: each record is where it will be in the file
abbrev pub whole : List ℕ → ℕ → List ℕ → List ℕ
whole seen gate buffer = take (gate + 1) seen ++ buffer
