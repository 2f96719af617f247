-- What is left of a file for a reader that reads record by record.
use Rattle.std.specs.Prelude.{ℕ, ◌-◌, Bool, List, take, drop, Option, None, if◌then◌else◌}
use Rattle.std.specs.List.{list_all}
use Rattle.sled_disk.specs.Format.{◌>>=◌, Record, stands_in}
use Rattle.sled_disk.specs.Reading.{Read, records_of, steps, found_at}

-- the bytes from a place up to another
abbrev pub piece : List ℕ → ℕ → ℕ → List ℕ
piece bytes from to = take (to - from) (drop from bytes)

-- whether each of these places is that of one of these records of a frame
abbrev pub all_stand : List ℕ → ℕ → List Record → Bool
all_stand targets place rs = list_all (λ target. stands_in target place rs) targets

-- What the rest of a file makes of what was read so far: the rest of a frame's body, which must have a record at each place that earlier
-- marks named, and then the frames after it.
unfoldable pub left_at : List ℕ → ℕ → ℕ → List ℕ → Read → Option (ℕ × Read)
left_at bytes at body_end targets p =
    records_of (piece bytes at body_end) >>= λ rs.
    if all_stand targets at rs then (steps at p rs >>= λ q. found_at body_end q (drop body_end bytes)) else None
