-- The reply to an answer.
use Rattle.std.specs.Prelude.{ℕ, [], ◌∷◌, ◌++◌, None, Some, Result, Ok, Err, codes, flat_map, if◌then◌else◌, true, false}
use Rattle.std.specs.Fmt.{decimal}
use Rattle.sled_base.specs.Order.{Bytes}
use Rattle.sled_base.specs.declared.types.Error.{Error}
use Rattle.sled_base.specs.declared.types.Error.TheVariants.{CollectionNotFound}
use Rattle.sled_node.specs.Node.{Item, Value, Child, WholeNode}
use Rattle.sled_pagecache.specs.State.{stamp_of}
use Rattle.sled_pagecache.specs.Step.{Swapped}
use Rattle.sled_pagecache.specs.declared.pagecache.handles.call.Answer.{Answer}
use Rattle.sled_pagecache.specs.declared.pagecache.handles.call.Answer.TheVariants.{Allocated, Got, Linked, Replaced, Freed, GotMeta, FoundRoot, RootSwapped, GotIdgen, Generated, Flushed, Sized, Amplified, TookSnapshot, AttemptedGc, Pinned, Sealed, Cancelled}
use Rattle.sled_lines.specs.Errors.{error_text}
use Rattle.sled_lines.specs.Words.{bytes_word}

abbrev pub item_word : Item → Bytes
item_word (Value value) = bytes_word value
item_word (Child page) = decimal page

-- a space, the whole key, an equals sign, and the value or the page
abbrev pub entry_text : Bytes × Item → Bytes
entry_text pair = 32 ∷ bytes_word pair.0 ++ codes "=" ++ item_word pair.1

-- the kind of a node, its stamp, and its pairs
abbrev pub node_text : ℕ → WholeNode → Bytes
node_text stamp node = (if node.is_index then codes "index " else codes "leaf ") ++ decimal stamp ++ flat_map entry_text node.pairs

-- a batch was opened or closed
abbrev pub reply_of_mark : Result (Unit {0}) Error → Bytes
reply_of_mark (Ok done) = codes "ok"
reply_of_mark (Err e) = error_text e

-- the stamp of the swapped page, or the present one
abbrev pub reply_of_swap : {R : Type 0} → Swapped R → Bytes
reply_of_swap (Ok (Ok made)) = codes "ok " ++ decimal (stamp_of made)
reply_of_swap (Ok (Err None)) = codes "gone"
reply_of_swap (Ok (Err (Some back))) = codes "stale " ++ decimal (stamp_of back.0)
reply_of_swap (Err e) = error_text e

abbrev pub reply_of : Answer → Bytes
reply_of (Allocated (Ok made)) = codes "page " ++ decimal made.0 ++ codes " " ++ decimal (stamp_of made.1)
reply_of (Allocated (Err e)) = error_text e
reply_of (Got (Ok None)) = codes "none"
reply_of (Got (Ok (Some found))) = node_text (stamp_of found.0) found.1
reply_of (Got (Err e)) = error_text e
reply_of (Linked answer) = reply_of_swap answer
reply_of (Replaced answer) = reply_of_swap answer
reply_of (Freed answer) = reply_of_swap answer
-- no line asks for the map of named roots, for the counter of ids, or for a snapshot
reply_of (GotMeta answer) = []
reply_of (GotIdgen answer) = []
reply_of (TookSnapshot answer) = []
reply_of (Pinned answer) = reply_of_mark answer
reply_of (Sealed answer) = reply_of_mark answer
reply_of (Cancelled answer) = reply_of_mark answer
reply_of (FoundRoot (Ok root)) = codes "page " ++ decimal root
reply_of (FoundRoot (Err (CollectionNotFound name))) = codes "none"
reply_of (FoundRoot (Err e)) = error_text e
reply_of (RootSwapped (Ok (Ok done))) = codes "ok"
reply_of (RootSwapped (Ok (Err None))) = codes "is -"
reply_of (RootSwapped (Ok (Err (Some root)))) = codes "is " ++ decimal root
reply_of (RootSwapped (Err e)) = error_text e
reply_of (Generated (Ok id)) = codes "id " ++ decimal id
reply_of (Generated (Err e)) = error_text e
reply_of (Flushed (Ok written)) = codes "flushed " ++ decimal written
reply_of (Flushed (Err e)) = error_text e
reply_of (Sized (Ok bytes)) = codes "size " ++ decimal bytes
reply_of (Sized (Err e)) = error_text e
reply_of (Amplified (Ok sizes)) = codes "amp " ++ decimal sizes.0 ++ codes " " ++ decimal sizes.1
reply_of (Amplified (Err e)) = error_text e
-- was a page due to be moved?
reply_of (AttemptedGc (Ok true)) = codes "moved"
reply_of (AttemptedGc (Ok false)) = codes "idle"
reply_of (AttemptedGc (Err e)) = error_text e

-- the reply to the opening of a tree
abbrev pub reply_of_tree : Result ℕ Error → Bytes
reply_of_tree (Ok root) = codes "page " ++ decimal root
reply_of_tree (Err e) = error_text e
