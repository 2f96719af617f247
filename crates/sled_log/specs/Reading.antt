-- Which change of a page a message is: the one that its payload reads, and that is written as it.
use Rattle.std.specs.Prelude.{◌≡◌, ◌<◌, ◌≤◌, ℕ, false, List, [], ◌∷◌, length, slice_get, Some, ◌^◌, ⊤}
use Rattle.std.specs.List.{AllZip}
use Rattle.sled_base.specs.Payloads.Numbers.{ReadsU64, written_u64}
use Rattle.sled_base.specs.declared.kinds.MessageKind.{MessageKind}
use Rattle.sled_base.specs.declared.kinds.LogKind.TheVariants.{Replace}
use Rattle.sled_base.specs.declared.kinds.MessageKind.TheVariants as kinds
use Rattle.sled_node.specs.Links.{Accepts, applied}
use Rattle.sled_node.specs.Node.{WholeNode, IsWellFormed}
use Rattle.sled_node.specs.Payloads.Links.{ReadsLink, written_link, CanWriteLink}
use Rattle.sled_node.specs.Payloads.Nodes.{ReadsNode, written_node}
use Rattle.sled_node.specs.Payloads.Roots.{ReadsRoots, written_roots}
use Rattle.sled_node.specs.declared.node.link.Link.{Link as NodeLink}
use Rattle.sled_log.specs.Chains.{is_empty}
use Rattle.sled_log.specs.Contents.{contents_from, contents_after, Content, Free, Counter, Roots, Node, Damaged, Update, Put, Link}
use Rattle.sled_log.specs.Events.{Event, Change, Pin, Seal, Cancel}
use Rattle.sled_log.specs.Messages.{Message, Messages, effect_of, message}
use Rattle.sled_log.specs.LogState.{CrashKeeps}
use Rattle.sled_node.specs.Meta.{IsRootMap}

-- A payload of that kind decodes to the update, and ends where the update does.
abbrev pub Decodes : MessageKind → List ℕ → Update → Type 0
Decodes kinds.Free payload (Put Free) = payload ≡ []
Decodes kinds.Counter payload (Put (Counter n)) = ReadsU64 payload n []
Decodes kinds.InlineMeta payload (Put (Roots roots)) = ReadsRoots payload roots []
Decodes kinds.BlobMeta payload (Put (Roots roots)) = ReadsRoots payload roots []
Decodes kinds.InlineNode payload (Put (Node node)) = ReadsNode payload node []
Decodes kinds.BlobNode payload (Put (Node node)) = ReadsNode payload node []
Decodes kinds.InlineLink payload (Link link) = ReadsLink payload link []
Decodes kinds.BlobLink payload (Link link) = ReadsLink payload link []
-- no other kind encodes an update
Decodes kind payload update = ⊥

abbrev pub IsUpdate : Message → Update → Type 0
IsUpdate message update = Decodes message.kind message.payload update

-- A message counts as the update that it decodes to. If it puts a content and decodes to none, it leaves its page damaged.
abbrev pub CountsAs : Message → Update → Type 0
CountsAs message (Put Free) = IsUpdate message (Put Free)
CountsAs message (Put (Counter n)) = IsUpdate message (Put (Counter n))
CountsAs message (Put (Roots roots)) = IsUpdate message (Put (Roots roots))
CountsAs message (Put (Node node)) = IsUpdate message (Put (Node node))
CountsAs message (Put Damaged) = (effect_of message ≡ Replace) × ((content : Content) → ¬ IsUpdate message (Put content))
CountsAs message (Link link) = IsUpdate message (Link link)

-- the event that a message is
abbrev pub IsEvent : Event Message → Event Update → Type 0
IsEvent (Change id message) (Change other update) = (id ≡ other) × CountsAs message update
IsEvent Pin Pin = Unit {0}
IsEvent Seal Seal = Unit {0}
IsEvent Cancel Cancel = Unit {0}
IsEvent event other = ⊥

-- The messages after the first one of a page change what it held to this: each is a link, and the node at that point accepts it.
abbrev pub LeadTo : Content → Messages → Content → Type 0
LeadTo before [] after = before ≡ after
LeadTo before (message ∷ messages) after =
    (node : WholeNode) × (link : NodeLink) × (before ≡ Node node) × IsUpdate message (Link link) × Accepts node link × LeadTo (Node (applied link node)) messages after

-- The messages of a page make this content: the first one puts a content there, and links follow.
abbrev pub Makes : Messages → Content → Type 0
Makes [] content = ⊥
Makes (message ∷ messages) content = (first : Content) × IsUpdate message (Put first) × LeadTo first messages content

-- The page holds the content that its messages make. It is damaged if they make none and do not leave it free.
abbrev pub Holds : Messages → Content → Type 0
Holds messages Damaged = (is_empty effect_of messages ≡ false) × ((content : Content) → ¬ Makes messages content)
Holds messages Free = Makes messages Free
Holds messages (Counter n) = Makes messages (Counter n)
Holds messages (Roots roots) = Makes messages (Roots roots)
Holds messages (Node node) = Makes messages (Node node)

-- pages of these messages hold these contents
abbrev pub Hold : List Messages → List Content → Type 0
Hold = AllZip Holds

-- The change may be made to pages that hold these contents. A content may be put on a page that exists, or on the next new one
-- unless the content is `Free`. `Damaged` may be put only on a page that is damaged. A link must be accepted by the page's node.
abbrev pub MayChange : List Content → ℕ → Update → Type 0
MayChange contents id (Put Free) = id < length contents
MayChange contents id (Put (Counter n)) = id ≤ length contents
MayChange contents id (Put (Roots roots)) = id ≤ length contents
MayChange contents id (Put (Node node)) = id ≤ length contents
MayChange contents id (Put Damaged) = slice_get contents id ≡ Some Damaged
MayChange contents id (Link link) = (node : WholeNode) × (slice_get contents id ≡ Some (Node node)) × Accepts node link

abbrev pub MayCome : List Content → Event Update → Type 0
MayCome contents (Change id update) = MayChange contents id update
MayCome contents Pin = Unit {0}
MayCome contents Seal = Unit {0}
MayCome contents Cancel = Unit {0}

-- The messages are these changes, and each change may be made to what the pages hold at that point.
abbrev pub AreEvents : List Content → List (Event Message) → List (Event Update) → Type 0
AreEvents contents [] [] = Unit {0}
AreEvents contents (message ∷ messages) (event ∷ events) = IsEvent message event × MayCome contents event × AreEvents (contents_from contents event) messages events
AreEvents contents [] (event ∷ events) = ⊥
AreEvents contents (message ∷ messages) [] = ⊥

-- a crash state, if these contents were durable, these events were pending, and those had begun to be added
abbrev pub AreLeft : List Content → List (Event Update) → List (Event Update) → List Messages → Type 0
AreLeft stable pending begun pages = CrashKeeps contents_after stable pending begun (Hold pages)

abbrev pub message_of : Update → Message
message_of (Put Free) = message kinds.Free []
message_of (Put (Counter n)) = message kinds.Counter (written_u64 n)
message_of (Put (Roots roots)) = message kinds.InlineMeta (written_roots roots)
message_of (Put (Node node)) = message kinds.InlineNode (written_node node)
message_of (Put Damaged) = message kinds.Corrupted []
message_of (Link link) = message kinds.InlineLink (written_link link)

-- the limits of what can be encoded
abbrev pub CanWrite : Update → Type 0
CanWrite (Put Free) = ⊤
CanWrite (Put (Counter n)) = n < 2 ^ 64
CanWrite (Put (Roots roots)) = IsRootMap roots
CanWrite (Put (Node node)) = IsWellFormed node
CanWrite (Put Damaged) = ⊥
CanWrite (Link link) = CanWriteLink link
