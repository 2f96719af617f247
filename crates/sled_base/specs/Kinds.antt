-- The kinds of messages, their bytes, and what a message does to its page.
use Rattle.std.specs.Prelude.{◌≡◌, ℕ, List, [], ◌∷◌, get_or, refl}
use Rattle.sled_base.specs.declared.kinds.MessageKind.{MessageKind}
use Rattle.sled_base.specs.declared.kinds.MessageKind.TheVariants.{Corrupted, Canceled, Cap, BatchManifest, Free, Counter, InlineMeta, BlobMeta, InlineNode, BlobNode, InlineLink, BlobLink}
use Rattle.sled_base.specs.declared.kinds.LogKind.{LogKind}
use Rattle.sled_base.specs.declared.kinds.LogKind.TheVariants as effects

-- the kinds, in the order of their bytes
abbrev pub kinds : List MessageKind
kinds = Corrupted ∷ Canceled ∷ Cap ∷ BatchManifest ∷ Free ∷ Counter ∷ InlineMeta ∷ BlobMeta ∷ InlineNode ∷ BlobNode ∷ InlineLink ∷ BlobLink ∷ []

-- the kind of a byte: every other byte is Corrupted
abbrev pub kind_of : ℕ → MessageKind
kind_of byte = get_or kinds byte Corrupted

abbrev pub byte_of : MessageKind → ℕ
byte_of Corrupted = 0
byte_of Canceled = 1
byte_of Cap = 2
byte_of BatchManifest = 3
byte_of Free = 4
byte_of Counter = 5
byte_of InlineMeta = 6
byte_of BlobMeta = 7
byte_of InlineNode = 8
byte_of BlobNode = 9
byte_of InlineLink = 10
byte_of BlobLink = 11

-- the byte of a kind is read as this kind
pub kind_of_byte_of : (kind : MessageKind) → kind_of (byte_of kind) ≡ kind
kind_of_byte_of Corrupted = refl
kind_of_byte_of Canceled = refl
kind_of_byte_of Cap = refl
kind_of_byte_of BatchManifest = refl
kind_of_byte_of Free = refl
kind_of_byte_of Counter = refl
kind_of_byte_of InlineMeta = refl
kind_of_byte_of BlobMeta = refl
kind_of_byte_of InlineNode = refl
kind_of_byte_of BlobNode = refl
kind_of_byte_of InlineLink = refl
kind_of_byte_of BlobLink = refl

-- what a message of a kind does to its page
abbrev pub log_kind_of : MessageKind → LogKind
log_kind_of Corrupted = effects.Corrupted
log_kind_of Canceled = effects.Skip
log_kind_of Cap = effects.Skip
log_kind_of BatchManifest = effects.Skip
log_kind_of Free = effects.Free
log_kind_of Counter = effects.Replace
log_kind_of InlineMeta = effects.Replace
log_kind_of BlobMeta = effects.Replace
log_kind_of InlineNode = effects.Replace
log_kind_of BlobNode = effects.Replace
log_kind_of InlineLink = effects.Link
log_kind_of BlobLink = effects.Link
