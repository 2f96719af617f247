-- Which message of a log is due to be moved, and the blob that a page is kept as.
use Rattle.std.specs.Prelude.{◌≡◌, ◌+◌, ◌==◌, ◌||◌, ℕ, ℤ, nat_lt, Option, Some, None, List, [], ◌∷◌, ◌++◌, length, slice_index_or, if◌then◌else◌}
use Rattle.sled_base.specs.declared.kinds.MessageKind.TheVariants as kinds
use Rattle.sled_base.specs.declared.types.DiskPtr.{DiskPtr}
use Rattle.sled_base.specs.declared.types.DiskPtr.TheVariants.{Inline, Blob}
use Rattle.sled_log.specs.Messages.{Message, Chain, message}

-- ---- which message is due

-- The messages that were not named yet, each by its page and its place, and how many messages were appended since one was named
-- or the log was opened.
pub record Moves : Type 0 where
  pub waiting : List (ℕ × ℕ)
  pub appended : ℕ

-- none of these was named
abbrev pub fresh_moves : List (ℕ × ℕ) → Moves
fresh_moves waiting = record { waiting = waiting; appended = 0 }

-- these were appended
abbrev pub moves_with : Moves → List (ℕ × ℕ) → Moves
moves_with moves names = record { waiting = moves.waiting ++ names; appended = moves.appended + length names }

-- the first of them, if its page is below that number of pages
abbrev pub first_of : ℕ → List (ℕ × ℕ) → Option (ℕ × ℕ)
first_of pages [] = None
first_of pages (named ∷ others) = if nat_lt named.0 pages then Some named else None

-- The message that is due in a log of that many pages, if one is due for every `every` that are appended: the first that was not
-- named yet. None is due if `every` is 0.
abbrev pub due_among : ℕ → ℕ → Moves → Option (ℕ × ℕ)
due_among pages every moves = if (every == 0) || nat_lt moves.appended every then None else first_of pages moves.waiting

-- the first was named
pub record Named (named : ℕ × ℕ) (old new : Moves) : Type 0 where
  pub waiting : old.waiting ≡ named ∷ new.waiting
  pub appended : new.appended ≡ 0

-- ---- the blob of a page

-- the pointer refers to that blob
abbrev pub NamesBlob : ℤ → DiskPtr → Type 0
NamesBlob blob (Inline place) = ⊥
NamesBlob blob (Blob place named) = named ≡ blob

-- the chain is one message, stored as that blob
abbrev pub IsBlob : ℤ → Chain → Type 0
IsBlob blob [] = ⊥
IsBlob blob (entry ∷ chain) = (chain ≡ []) × NamesBlob blob entry.place.pointer

-- the page with that id is stored as that blob
abbrev pub HasBlob : List Chain → ℕ → ℤ → Type 0
HasBlob chains pid blob = IsBlob blob (slice_index_or chains pid [])

abbrev pub first_message : Chain → Message
first_message [] = message kinds.Corrupted []
first_message (entry ∷ chain) = entry.message

-- the message that begins the chain of a page
abbrev pub message_at : List Chain → ℕ → Message
message_at chains pid = first_message (slice_index_or chains pid [])
