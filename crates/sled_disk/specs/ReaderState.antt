-- A reader that can resume.
use Rattle.std.specs.Prelude.{◌≡◌, ◌≤◌, ◌<◌, ◌⊎◌, ℕ, List, length, take, drop, Option, None, Some, Result, IfErr}
use Rattle.std.specs.List.{AllByRecursion}
use Rattle.sled_log.specs.declared.log.LogError.{LogError}
use Rattle.sled_log.specs.declared.log.LogError.TheVariants.{Memory, ReadFault, Corruption}
use Rattle.sled_disk.specs.declared.disk.Disk.{Ghosts}
use Rattle.sled_disk.specs.declared.format.record.RawHead.{RawHead}
use Rattle.sled_disk.specs.declared.recovery.head.Head.{Head}
use Rattle.sled_disk.specs.declared.reader.Reader.{Reader}
use Rattle.sled_disk.specs.Format.{Begun, opening}
use Rattle.sled_disk.specs.UnreadBytes.{left_at}
use Rattle.sled_disk.specs.Reading.{Read, chains_of, start, found_at}
use Rattle.sled_disk.specs.BatchChanges.{taken_by}
use Rattle.sled_disk.specs.DiskReads.{Rests, ReadFaults, HasHead, HeadOnDisk}

-- the batch that is begun, by its place and its changes
abbrev pub begun_by : Option ℕ → List (ℕ × Head) → Option (Begun Head)
begun_by None inside = None
begun_by (Some place) inside = Some (record { place = place; inside = inside })

-- how far it has read
abbrev pub read_by : Reader → Read
read_by reader = record { settled = chains_of reader.pages.items; begun = begun_by reader.begun reader.changes.items }

-- what the waiting changes make of the pages
abbrev pub waiting_by : Reader → Option (List (List Head))
waiting_by reader = taken_by (chains_of reader.pages.items) reader.changes.items

-- A reader resumes in these bytes: from what it has read, the rest of them leads to the same result as reading all of them.
pub record GoesOn (bytes : List ℕ) (reader : Reader) : Type 0 where
  pub opens : take 8 bytes ≡ opening
  pub end : reader.end ≡ length bytes
  pub shows : reader.window.bytes.items ≡ take (length reader.window.bytes.items) (drop reader.window.start bytes)
  pub left : left_at bytes reader.at reader.body_end reader.targets (read_by reader) ≡ found_at 8 start (drop 8 bytes)

-- The bytes describe no events: reading them from the first frame on ends at an error.
abbrev pub AreCorrupt : List ℕ → Type 0
AreCorrupt bytes = found_at 8 start (drop 8 bytes) ≡ None

-- The record that a reader takes next has this head and a payload of this length. It ends within its body, and the places that marks name
-- are after it.
pub record TakesNext (tells : Type 0) (bytes : List ℕ) (reader : Reader) (raw : RawHead) (len : ℕ) : Type 0 where
  pub on : tells → GoesOn bytes reader
  pub head : tells → HeadOnDisk bytes reader.at reader.body_end (Some (raw, len))
  pub has : HasHead reader.at reader.body_end (Some (raw, len))
  pub ahead : AllByRecursion (λ target. reader.at < target) reader.targets

-- A step of a reader, whatever it finds: it does not go back in the file, and its disk is only read.
pub record StepsOn {D T : Type 0} (g : Ghosts D) (old_disk new_disk : D) (old new : Reader) (result : Result T LogError) : Type 0 where
  pub end : new.end ≡ old.end
  pub kept : old.at ≤ new.at
  pub only : IfErr result (λ e. (e ≡ Memory) ⊎ (e ≡ ReadFault) ⊎ (e ≡ Corruption))
  pub rests : Rests g.tells g.seen g.may_leave g.moment g.left_since old_disk new_disk
  pub faults : ReadFaults (g.counts old_disk) (g.counts new_disk) result
