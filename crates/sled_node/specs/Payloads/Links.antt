-- How links are encoded.
use Rattle.std.specs.Prelude.{◌≡◌, ℕ, ◌<◌, ◌^◌, List, [], ◌∷◌, ◌++◌, ◌⊎◌}
use Rattle.sled_node.specs.declared.node.link.Link.{Link}
use Rattle.sled_node.specs.declared.node.link.Link.TheVariants.{Set, Del, ParentMergeIntention, ParentMergeConfirm, ChildMergeCap}
use Rattle.sled_node.specs.Pairs.{IsWithinLimit}
use Rattle.sled_base.specs.Payloads.Reading.{ReadsPair, AsksPair}
use Rattle.sled_base.specs.Payloads.Numbers.{ReadsU64, written_u64}
use Rattle.sled_base.specs.Payloads.ByteStrings.{written_bytes}
use Rattle.sled_node.specs.Payloads.ShortStrings.{ReadsShort, AsksShort}

-- a tag, and the parts of that link
abbrev pub ReadsLink : List ℕ → Link → List ℕ → Type 0
ReadsLink input (Set key value) rest = (parts : List ℕ) × (input ≡ 0 ∷ parts) × ReadsPair ReadsShort ReadsShort parts (key, value) rest
ReadsLink input (Del key) rest = (parts : List ℕ) × (input ≡ 1 ∷ parts) × ReadsShort parts key rest
ReadsLink input (ParentMergeIntention page) rest = (parts : List ℕ) × (input ≡ 2 ∷ parts) × ReadsU64 parts page rest
ReadsLink input ParentMergeConfirm rest = input ≡ 3 ∷ rest
ReadsLink input ChildMergeCap rest = input ≡ 4 ∷ rest

-- memory is asked for if a key or a value is read that is too long to be stored inline
abbrev pub AsksLink : List ℕ → Type 0
AsksLink input = (parts : List ℕ) × (((input ≡ 0 ∷ parts) × AsksPair AsksShort ReadsShort AsksShort parts) ⊎ ((input ≡ 1 ∷ parts) × AsksShort parts))

abbrev pub written_link : Link → List ℕ
written_link (Set key value) = 0 ∷ written_bytes key ++ written_bytes value
written_link (Del key) = 1 ∷ written_bytes key
written_link (ParentMergeIntention page) = 2 ∷ written_u64 page
written_link ParentMergeConfirm = 3 ∷ []
written_link ChildMergeCap = 4 ∷ []

-- the byte strings are within the limit
abbrev pub CanWriteLink : Link → Type 0
CanWriteLink (Set key value) = IsWithinLimit key × IsWithinLimit value
CanWriteLink (Del key) = IsWithinLimit key
CanWriteLink (ParentMergeIntention page) = page < 2 ^ 64
CanWriteLink ParentMergeConfirm = Unit {0}
CanWriteLink ChildMergeCap = Unit {0}
