-- A message that is kept as a blob, and what the log finds of the one that held it first.
use Rattle.std.proofs.Common.{◌^◌, ltb, w64, to_z, of_z, ◌≡◌, ◌+◌, ◌<◌, ℕ, ℤ, pos, true, Option, Some, None, IsSomeAnd, List, [], ◌∷◌, length, sym, ◌∙◌, ap, subst, arith}
use Rattle.std.specs.Int.Signed.{mag}
use Rattle.std.proofs.Math.Facts.{to_z-of_z, sfits_lit}
use Rattle.std.proofs.lemmas.Bool.{lt-ltb}
use Rattle.std.proofs.lemmas.Float.{T_from_true}
use Rattle.std.specs.List.{slice_get, list_any}
use Rattle.std.specs.Prelude.{slice_index_or}
use Rattle.sled_base.specs.declared.kinds.MessageKind.{MessageKind}
use Rattle.sled_base.specs.declared.types.DiskPtr.{DiskPtr}
use Rattle.sled_base.specs.declared.types.DiskPtr.TheVariants.{Inline, Blob}
use Rattle.sled_log.specs.Inside.Blobs.{marks_of, is_first, are_held}
use Rattle.sled_log.specs.MemLog.Kept.{KeptChange, LogItem}
use Rattle.sled_log.specs.MemLog.Kept as kept
use Rattle.sled_log.specs.LogState.{now}
use Rattle.sled_log.specs.MemLog.State.{kept_in, state_of}
use Rattle.sled_log.specs.Messages.{Message, Entry, Chain, message, effect_of_entry}
use Rattle.sled_log.specs.MemLog.Stored.{part}
use Rattle.sled_log.specs.Moves.{NamesBlob, IsBlob, HasBlob, first_message, message_at}
use Rattle.sled_log.specs.declared.memory.item.Held.{Held}
use Rattle.sled_log.specs.declared.memory.MemLog.{MemLog}
use Rattle.sled_log.proofs.Blobs.{first-stands, blob-first}
use Rattle.sled_log.proofs.KeptEntries.{IsKept, now-kept}

names-is : (blob : ℤ) (pointer : DiskPtr) → NamesBlob blob pointer → (place : ℕ) × (pointer ≡ Blob place blob)
names-is blob (Inline place) h = absurd h
names-is blob (Blob place named) h = (place, ap (λ (n : ℤ). Blob place n) h)

-- a message held it first
first-of : (items : List LogItem) (held : are_held [] (marks_of items) ≡ true) (blob : ℤ) (chain : Chain) → ((k : ℕ) (d : Entry) → k < length chain → IsKept items (slice_index_or chain k d)) → IsBlob blob chain
    → list_any (is_first blob (first_message chain).kind (first_message chain).payload) (marks_of items) ≡ true
first-of items held blob [] are h = absurd h
first-of items held blob (entry ∷ rest) are h =
    let is = are 0 entry (omega arith) in
    let names = names-is blob entry.place.pointer h.1 in
    subst (λ (e : Entry). list_any (is_first blob e.message.kind e.message.payload) (marks_of items) ≡ true) is.5
    (blob-first items is.0 is.1 is.2 names.0 blob held is.3 is.4 (ap (λ (e : Entry). e.place.pointer) is.5 ∙ names.1))

pub first-held : (self : MemLog) (pid : ℕ) (blob : ℤ) → (let chain : Chain = slice_index_or (now effect_of_entry (state_of self)) pid [] in
    IsBlob blob chain → list_any (is_first blob (first_message chain).kind (first_message chain).payload) (marks_of (kept_in self)) ≡ true)
first-held self pid blob h = first-of (kept_in self) self.holds_blobs blob (slice_index_or (now effect_of_entry (state_of self)) pid []) (now-kept self.clock self.stable (kept_in self) self.in_order pid) h

some-weaker : {T : Type 0} (o : Option T) (P Q : T → Type 0) → ((x : T) → P x → Q x) → IsSomeAnd o P → IsSomeAnd o Q
some-weaker None P Q f h = absurd h
some-weaker (Some x) P Q f h = f x h

-- and the search for it finds its kind and its payload
abbrev pub Tells : ℤ → List ℕ → Message → MessageKind × Held → Type 0
Tells blob bytes m told = (told.0 ≡ m.kind) × (told.1.first ≡ blob) × (part told.1.start (told.1.start + told.1.len) bytes ≡ m.payload)

pub finds-first : (self : MemLog) (pid : ℕ) (blob named : ℤ) → named ≡ blob → (found : Option (MessageKind × Held)) → HasBlob (now effect_of_entry (state_of self)) pid blob
    → ((i : ℕ) (item : LogItem) (change : KeptChange) (place : ℕ) → slice_get (kept_in self) i ≡ Some item → item.mark ≡ kept.Change change → change.pointer ≡ Blob place named → named ≡ pos place
    → IsSomeAnd found (λ told. (told.0 ≡ change.kind) × (told.1.first ≡ named) × (part told.1.start (told.1.start + told.1.len) self.bytes.items ≡ change.payload)))
    → IsSomeAnd found (Tells blob self.bytes.items (message_at (now effect_of_entry (state_of self)) pid))
finds-first self pid blob named same found h finds =
    let first = first-stands blob _ _ (kept_in self) (first-held self pid blob h) in
    some-weaker found _ _ (λ told both. (both.0 ∙ first.8, both.1 ∙ same, both.2 ∙ first.9)) (finds first.0 first.1 first.2 first.3 first.4 first.5 (first.6 ∙ ap (λ (b : ℤ). Blob first.3 b) (sym same)) (same ∙ first.7))

-- the message of a kind and a payload
pub message-is : (m : Message) (kind : MessageKind) (payload : List ℕ) → kind ≡ m.kind → payload ≡ m.payload → message kind payload ≡ m
message-is m kind payload k p = ap (λ (x : MessageKind). message x payload) k ∙ ap (λ (x : List ℕ). message m.kind x) p

-- the name of a blob is read back as it was written
pub named-read : (blob : ℤ) → mag blob < 2 ^ 63 → to_z w64 (of_z w64 blob) ≡ blob
named-read blob small = to_z-of_z {w = w64} {z = blob} (sfits_lit (T_from_true (ltb (mag blob) (2 ^ 63)) (lt-ltb (mag blob) (2 ^ 63) small)))
