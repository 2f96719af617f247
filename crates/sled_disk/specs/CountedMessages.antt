-- Which messages of a file and of the pending records count, and how far a log has looked for the next.
use Rattle.std.specs.Prelude.{◌≡◌, ◌+◌, ◌≤◌, ◌==◌, ◌||◌, not, nat_le, nat_lt, ℕ, Bool, true, false, List, [], ◌∷◌, ◌++◌, length, drop, if◌then◌else◌}
use Rattle.std.specs.List.{filter, list_all}
use Rattle.sled_base.specs.Kinds.{kind_of, log_kind_of}
use Rattle.sled_disk.specs.declared.log.names.Names.{Names}
use Rattle.sled_disk.specs.Cursor.{is_among}
use Rattle.sled_disk.specs.Format.{Record, Frame, size, body, is_closing}
use Rattle.sled_disk.specs.Names.{from_place, named_by}
use Rattle.sled_disk.specs.Pending.{is_own}
use Rattle.sled_disk.specs.Reading.{frames_of}
use Rattle.sled_disk.specs.LogContents.{or_none}

-- records with their places, the first of which is `place`
abbrev pub placed : ℕ → List Record → List (ℕ × Record)
placed place [] = []
placed place (r ∷ rs) = (place, r) ∷ placed (place + size r) rs

-- those of frames, and the pending ones after them
abbrev pub all_placed : ℕ → List Frame → List Record → List (ℕ × Record)
all_placed first [] pending = placed (first + 9) pending
all_placed first (frame ∷ frames) pending = placed (first + 9) frame.records ++ all_placed (first + (9 + length (body frame.records))) frames pending

-- those of a file with these bytes
abbrev pub placed_in : List ℕ → List Record → List (ℕ × Record)
placed_in seen pending = all_placed 8 (or_none (frames_of (drop 8 seen))) pending

-- those at a place or after it
abbrev pub placed_from : ℕ → List (ℕ × Record) → List (ℕ × Record)
placed_from at records = filter (λ x. nat_le at x.0) records

-- whether a batch counts that began before these records: the record that closes it does not mark it as abandoned, or there is no such
-- record
abbrev pub is_kept : List (ℕ × Record) → Bool
is_kept [] = true
is_kept (x ∷ xs) = if is_closing x.1.kind then not (x.1.kind == 14) else is_kept xs

-- the messages of these records that count; `kept` says whether those of a batch do that began before them
abbrev pub counted_messages : Bool → List (ℕ × Record) → List (ℕ × ℕ)
counted_messages kept [] = []
counted_messages kept (x ∷ xs) =
    if x.1.kind == 12 then counted_messages (is_kept xs) xs else
    if is_closing x.1.kind then counted_messages true xs else
    (if kept then named_by (log_kind_of (kind_of x.1.kind)) x.1.id x.0 else []) ++ counted_messages kept xs

-- no record that the log wrote itself marks a batch as abandoned
abbrev pub is_own_from : ℕ → List (ℕ × Record) → Bool
is_own_from own records = list_all (λ x. nat_lt x.0 own || is_own x.1) records

-- The messages that count from the place on follow from the records there: the place is not inside an abandoned batch. Or the record is
-- looked for that closes the batch whose changes follow there: up to the second place there is none.
pub record Looks (records : List (ℕ × Record)) (names : Names) : Type 0 where
  pub own : is_own_from names.own records ≡ true
  pub counts : names.seeks ≡ false → from_place names.at (counted_messages true records) ≡ counted_messages true (placed_from names.at records)
  pub seeks : names.seeks ≡ true → from_place names.at (counted_messages true records) ≡ counted_messages (is_kept (placed_from names.at records)) (placed_from names.at records)
  pub behind : names.seeks ≡ true → names.at ≤ names.ahead
  pub kept : names.seeks ≡ true → is_kept (placed_from names.at records) ≡ is_kept (placed_from names.ahead records)
  pub none : names.seeks ≡ true → is_kept (placed_from names.ahead records) ≡ false → counted_messages false (placed_from names.at records) ≡ counted_messages false (placed_from names.ahead records)

-- the same for the records of a file with these bytes and the pending ones
pub record IsLooked (seen : List ℕ) (pending : List Record) (names : Names) : Type 0 where
  pub looks : Looks (placed_in seen pending) names
  pub among : names.seeks ≡ true → is_among 8 (or_none (frames_of (drop 8 seen))) pending names.ahead_gate names.ahead ≡ true
