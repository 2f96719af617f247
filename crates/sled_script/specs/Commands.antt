-- What a line of the script asks for: a call, opening a tree, or a mark of a batch.
use Rattle.std.specs.Prelude.{◌≡◌, ◌<◌, ◌≤◌, ◌^◌, Bool, true, List, [], ◌∷◌, length, map, codes, ℕ, Option, None, Some, ⊤}
use Rattle.std.specs.Fmt.{decimal}
use Rattle.std.specs.List.{join_with_byte}
use Rattle.sled_base.specs.Order.{Bytes}
use Rattle.sled_node.specs.Node.{Value, WholeNode, leaf_of}
use Rattle.sled_node.specs.Pairs.{IsWithinLimit, HasPairs}
use Rattle.sled_node.specs.declared.node.link.Link.TheVariants.{Set, Del, ParentMergeIntention, ParentMergeConfirm, ChildMergeCap}
use Rattle.sled_pagecache.specs.State.{Token, pid_of, stamp_of}
use Rattle.sled_pagecache.specs.declared.pagecache.handles.call.Call.{Call}
use Rattle.sled_pagecache.specs.declared.pagecache.handles.call.Call.TheVariants.{Allocate, Get, Link, Replace, Free, GetMeta, MetaPidForName, CasRoot, GetIdgen, GenerateId, Flush, SizeOnDisk, SpaceAmplification, TakeFuzzySnapshot, AttemptGc, Pin, Seal, Cancel}
use Rattle.sled_lines.specs.Words.{bytes_word, AreBytes}
use Rattle.sled_lines.specs.Settings.{longest_line}
use Rattle.sled_script.specs.Pairs.{pair_word, ArePairs}
use Rattle.sled_script.specs.declared.command.Mark.{Mark}
use Rattle.sled_script.specs.declared.command.Mark.TheVariants as mark

-- a leaf of these pairs over all keys: the keys are strictly ascending, and the limits of a node hold
pub record IsLeafOf (pairs : List (Bytes × Bytes)) (node : WholeNode) : Type 0 where
  pub bytes : ArePairs pairs
  pub fits : HasPairs IsWithinLimit pairs
  pub leaf : node ≡ leaf_of (map (λ pair. (pair.0, Value pair.1)) pairs)

-- a token whose parts are numbers of the script
abbrev pub IsToken : Token → Type 0
IsToken token = (pid_of token < 2 ^ 64) × (stamp_of token < 2 ^ 64)

-- a root page, or none, which is a dash
abbrev pub IsRootNumber : Option ℕ → Type 0
IsRootNumber None = ⊤
IsRootNumber (Some root) = root < 2 ^ 64

abbrev pub root_word : Option ℕ → Bytes
root_word None = codes "-"
root_word (Some root) = decimal root

-- the words ask for this call
abbrev pub Asks : List Bytes → Call → Type 0
Asks words (Allocate node) = (pairs : List (Bytes × Bytes)) × IsLeafOf pairs node × (words ≡ codes "alloc" ∷ map pair_word pairs)
Asks words (Get pid) = (pid < 2 ^ 64) × (words ≡ codes "get" ∷ decimal pid ∷ [])
Asks words (Link old (Set key value)) = IsToken old × AreBytes key × AreBytes value × (words ≡ codes "set" ∷ decimal (pid_of old) ∷ decimal (stamp_of old) ∷ bytes_word key ∷ bytes_word value ∷ [])
Asks words (Link old (Del key)) = IsToken old × AreBytes key × (words ≡ codes "del" ∷ decimal (pid_of old) ∷ decimal (stamp_of old) ∷ bytes_word key ∷ [])
Asks words (Link old (ParentMergeIntention page)) = ⊥
Asks words (Link old ParentMergeConfirm) = ⊥
Asks words (Link old ChildMergeCap) = ⊥
Asks words (Replace old node) = IsToken old × (pairs : List (Bytes × Bytes)) × IsLeafOf pairs node × (words ≡ codes "replace" ∷ decimal (pid_of old) ∷ decimal (stamp_of old) ∷ map pair_word pairs)
Asks words (Free old) = IsToken old × (words ≡ codes "free" ∷ decimal (pid_of old) ∷ decimal (stamp_of old) ∷ [])
Asks words GetMeta = ⊥
Asks words (MetaPidForName name) = AreBytes name × (words ≡ codes "root" ∷ bytes_word name ∷ [])
Asks words (CasRoot name old new) = AreBytes name × IsRootNumber old × IsRootNumber new × (words ≡ codes "cas" ∷ bytes_word name ∷ root_word old ∷ root_word new ∷ [])
Asks words GetIdgen = ⊥
Asks words Pin = ⊥
Asks words Seal = ⊥
Asks words Cancel = ⊥
Asks words GenerateId = words ≡ codes "id" ∷ []
Asks words Flush = words ≡ codes "flush" ∷ []
Asks words SizeOnDisk = words ≡ codes "size" ∷ []
Asks words SpaceAmplification = words ≡ codes "amp" ∷ []
Asks words AttemptGc = words ≡ codes "gc" ∷ []
Asks words TakeFuzzySnapshot = ⊥

-- the line has such words, with single spaces between them
abbrev pub Encodes : Bytes → Call → Type 0
Encodes line call = (length line ≤ longest_line) × ((words : List Bytes) × Asks words call × (line ≡ join_with_byte 32 words))

-- the line asks for the tree of this name
abbrev pub EncodesOpen : Bytes → Bytes → Type 0
EncodesOpen line name = (length line ≤ longest_line) × AreBytes name × (line ≡ join_with_byte 32 (codes "open" ∷ bytes_word name ∷ []))

-- the line that opens or closes a batch
abbrev pub mark_word : Mark → Bytes
mark_word mark.Pin = codes "pin"
mark_word mark.Seal = codes "seal"
mark_word mark.Cancel = codes "cancel"

-- what a line asks for: a call of the cache; the tree of this name, which several calls open; or a mark of a batch
pub data Command : Type 0 where
  ForCall : Call → Command
  ForTree : Bytes → Command
  ForMark : Mark → Command

-- the line is this command
abbrev pub IsCommand : Bytes → Command → Type 0
IsCommand line (ForCall call) = Encodes line call
IsCommand line (ForTree name) = EncodesOpen line name
IsCommand line (ForMark mark) = line ≡ mark_word mark

-- A batch that isn't open can't be closed.
abbrev pub MayMark : Bool → Mark → Type 0
MayMark is_open mark.Pin = ⊤
MayMark is_open mark.Seal = is_open ≡ true
MayMark is_open mark.Cancel = is_open ≡ true

-- the command may be asked for, given whether a batch is open
abbrev pub MayAsk : Bool → Command → Type 0
MayAsk is_open (ForMark mark) = MayMark is_open mark
MayAsk is_open asked = ⊤
