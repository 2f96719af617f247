-- The messages of pages, and where a log keeps them.
use Rattle.std.specs.Prelude.{ℕ, ◌+◌, ℤ, List, length, map}
use Rattle.sled_base.specs.Kinds.{log_kind_of}
use Rattle.sled_base.specs.declared.kinds.LogKind.{LogKind}
use Rattle.sled_base.specs.declared.kinds.MessageKind.{MessageKind}
use Rattle.sled_base.specs.declared.kinds.MessageKind.TheVariants as kinds
use Rattle.sled_base.specs.declared.types.DiskPtr.{DiskPtr}
use Rattle.sled_base.specs.declared.types.DiskPtr.TheVariants.{Inline, Blob}
use Rattle.sled_log.specs.Limits.{head_size}
use Rattle.std.proofs.Common.{ℕ, List, map}
use Rattle.sled_log.specs.Events.{Event, seen_events}

-- the kind of a message, and the bytes of its payload
pub record Message : Type 0 where
  pub kind : MessageKind
  pub payload : List ℕ

abbrev pub message : MessageKind → List ℕ → Message
message kind payload = record { kind = kind; payload = payload }

-- where a message is stored, and how much of the log it takes there
pub record Place : Type 0 where
  pub lsn : ℤ
  pub pointer : DiskPtr
  pub log_size : ℕ

-- a message that a log stores at a place
pub record Entry : Type 0 where
  pub message : Message
  pub place : Place

-- a page as a log stores it, and without its places
abbrev pub Chain : Type 0
Chain = List Entry

abbrev pub Messages : Type 0
Messages = List Message

abbrev pub message_in : Entry → Message
message_in entry = entry.message

abbrev pub messages_of : Chain → Messages
messages_of chain = map message_in chain

-- what a message does to its page
abbrev pub effect_of : Message → LogKind
effect_of message = log_kind_of message.kind

abbrev pub effect_of_entry : Entry → LogKind
effect_of_entry entry = effect_of entry.message

-- how much of a log a message takes: a head and its payload
abbrev pub message_size : Message → ℕ
message_size message = head_size + length message.payload

-- the kind under which a payload of a kind is stored as a blob, if there is one
abbrev pub blob_kind : MessageKind → MessageKind
blob_kind kinds.InlineMeta = kinds.BlobMeta
blob_kind kinds.InlineNode = kinds.BlobNode
blob_kind kinds.InlineLink = kinds.BlobLink
blob_kind kind = kind

-- the kind that a reader of an entry gets
abbrev pub kind_at : DiskPtr → MessageKind → MessageKind
kind_at (Inline place) kind = kind
kind_at (Blob place pointer) kind = blob_kind kind

-- a message at the place that a call returns: its LSN, the pointer to it, and its log size
abbrev pub placed_entry : Message → ℤ × DiskPtr × ℕ → Entry
placed_entry message said = record { message = message; place = record { lsn = said.0; pointer = said.1; log_size = said.2 } }

-- the events without their places
abbrev pub unplaced_events : List (Event Entry) → List (Event Message)
unplaced_events events = seen_events message_in events
