-- How an entry stores a call and its answer: what follows from the call is not stored again in the answer.
use Rattle.std.specs.Prelude.{ℕ, ◌+◌, List, [], ◌∷◌, Option, Some, None, Result, Ok, Err}
use Rattle.std.specs.Global.{Box}
use Rattle.sled_base.specs.Errors.{error_of}
use Rattle.sled_base.specs.Order.{Bytes}
use Rattle.sled_base.specs.declared.types.Error.{Error}
use Rattle.sled_base.specs.declared.types.Error.TheVariants.{CollectionNotFound}
use Rattle.sled_base.specs.declared.types.Refusal.{Refusal}
use Rattle.sled_node.specs.Node.{WholeNode}
use Rattle.sled_pagecache.specs.State.{Token, token}
use Rattle.sled_pagecache.specs.declared.pagecache.handles.call.Answer.TheVariants.{Allocated, Got, Linked, Replaced, Freed, FoundRoot, RootSwapped, Generated, Flushed}
use Rattle.sled_pagecache.specs.declared.pagecache.handles.call.Call.TheVariants as call
use Rattle.sled_shared.specs.Calls.{Entry, Found, entry, Asked, OpenTree, Batch, GetAll, Answered, Opened, Batched, GotAll}
use Rattle.sled_shared.specs.declared.calls.Swap.{Swap}
use Rattle.sled_shared.specs.declared.calls.Swap.TheVariants as swap
use Rattle.sled_shared.specs.declared.calls.SwapAnswer.{SwapAnswer}
use Rattle.sled_shared.specs.declared.calls.SwapAnswer.TheVariants as swapped
use Rattle.sled_shared.specs.declared.entry.Called.{Called}
use Rattle.sled_shared.specs.declared.entry.Called.TheVariants as called
use Rattle.sled_shared.specs.declared.entry.Ending.{Ending}
use Rattle.sled_shared.specs.declared.entry.Ending.TheVariants.{Made, Gone, Stale}

abbrev pub Kept : Type 0 → Type 0
Kept T = Result T (Box Refusal)

-- the answer that is stored in this form
abbrev pub answer_kept : {T : Type 0} → Kept T → Result T Error
answer_kept (Ok value) = Ok value
answer_kept (Err refusal) = Err (error_of refusal.value)

-- the answer of a swap, which returns the change that was passed in, or nothing
abbrev pub ended : {R : Type 0} → Token → R → Ending → Result Token (Option (Token × R))
ended old change Made = Ok (token old.pid (old.stamp + 1))
ended old change Gone = Err None
ended old change (Stale stamp) = Err (Some (token old.pid stamp, change))

abbrev pub swap_kept : {R : Type 0} → Token → R → Kept Ending → Result (Result Token (Option (Token × R))) Error
swap_kept old change (Ok ending) = Ok (ended old change ending)
swap_kept old change (Err refusal) = Err (error_of refusal.value)

-- a page's token and node
abbrev pub node_kept : ℕ → Kept (Option (ℕ × Box WholeNode)) → Result (Option (Token × WholeNode)) Error
node_kept pid (Ok None) = Ok None
node_kept pid (Ok (Some (stamp, node))) = Ok (Some (token pid stamp, node.value))
node_kept pid (Err refusal) = Err (error_of refusal.value)

-- the root of a name
abbrev pub root_kept : Bytes → Kept (Option ℕ) → Result ℕ Error
root_kept name (Ok (Some root)) = Ok root
root_kept name (Ok None) = Err (CollectionNotFound name)
root_kept name (Err refusal) = Err (error_of refusal.value)

-- the answers of the swaps that were made
abbrev pub swap_ended : Swap → Ending → SwapAnswer
swap_ended (swap.Link old link) ending = swapped.Link (ended old link ending)
swap_ended (swap.Replace old node) ending = swapped.Replace (ended old node ending)
swap_ended (swap.Free old) ending = swapped.Free (ended old tt ending)

abbrev pub swaps_ended : List Swap → List Ending → List SwapAnswer
swaps_ended (one ∷ swaps) (ending ∷ endings) = swap_ended one ending ∷ swaps_ended swaps endings
swaps_ended swaps endings = []

-- the answer of a batch of them
abbrev pub batch_kept : List Swap → List Ending → Kept (Unit {0}) → Result (List SwapAnswer) (Error × List SwapAnswer)
batch_kept swaps endings (Ok done) = Ok (swaps_ended swaps endings)
batch_kept swaps endings (Err refusal) = Err (error_of refusal.value, swaps_ended swaps endings)

-- what was found of a page
abbrev pub found_kept : ℕ → Option (ℕ × Box WholeNode) → Found
found_kept pid None = None
found_kept pid (Some (stamp, node)) = Some (token pid stamp, node.value)

-- what was found of the pages that were read
abbrev pub all_found : List ℕ → List (Option (ℕ × Box WholeNode)) → List Found
all_found (pid ∷ pages) (one ∷ found) = found_kept pid one ∷ all_found pages found
all_found pages found = []

-- the answer of reads of them
abbrev pub reads_kept : List ℕ → List (Option (ℕ × Box WholeNode)) → Kept (Unit {0}) → Result (List Found) (Error × List Found)
reads_kept pages found (Ok done) = Ok (all_found pages found)
reads_kept pages found (Err refusal) = Err (error_of refusal.value, all_found pages found)

abbrev pub entry_of : Called → Entry
entry_of (called.Allocate node kept) = entry (Asked (call.Allocate node.value)) (Answered (Allocated (answer_kept kept)))
entry_of (called.Get pid kept) = entry (Asked (call.Get pid)) (Answered (Got (node_kept pid kept)))
entry_of (called.Link change kept) = entry (Asked (call.Link change.value.0 change.value.1)) (Answered (Linked (swap_kept change.value.0 change.value.1 kept)))
entry_of (called.Replace change kept) = entry (Asked (call.Replace change.value.0 change.value.1)) (Answered (Replaced (swap_kept change.value.0 change.value.1 kept)))
entry_of (called.Free old kept) = entry (Asked (call.Free old)) (Answered (Freed (swap_kept old tt kept)))
entry_of (called.GenerateId kept) = entry (Asked call.GenerateId) (Answered (Generated (answer_kept kept)))
entry_of (called.Flush kept) = entry (Asked call.Flush) (Answered (Flushed (answer_kept kept)))
entry_of (called.OpenTree name kept) = entry (OpenTree name.value) (Opened (answer_kept kept))
entry_of (called.CasRoot asked kept) = entry (Asked (call.CasRoot asked.value.name asked.value.old asked.value.new)) (Answered (RootSwapped (answer_kept kept)))
entry_of (called.MetaPidForName name kept) = entry (Asked (call.MetaPidForName name.value)) (Answered (FoundRoot (root_kept name.value kept)))
entry_of (called.Batch asked kept) = entry (Batch asked.value.swaps.items) (Batched (batch_kept asked.value.swaps.items asked.value.endings.items kept))
entry_of (called.GetAll asked kept) = entry (GetAll asked.value.pages.items) (GotAll (reads_kept asked.value.pages.items asked.value.found.items kept))
