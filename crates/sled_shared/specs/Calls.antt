-- What is entered for a call, and which calls of the page cache in a row an entry is, each with its answer.
use Rattle.std.specs.Prelude.{◌≡◌, ◌⊎◌, ℕ, List, [], ◌∷◌, ◌++◌, Option, Result, Ok, Err, ⊤}
use Rattle.std.specs.Global.{Vec}
use Rattle.sled_base.specs.Errors.{error_of}
use Rattle.sled_base.specs.Order.{Bytes}
use Rattle.sled_base.specs.declared.types.Error.{Error}
use Rattle.sled_base.specs.declared.types.Refusal.{Refusal}
use Rattle.sled_node.specs.Node.{WholeNode}
use Rattle.sled_pagecache.specs.Batches.{with_pin}
use Rattle.sled_pagecache.specs.State.{Token}
use Rattle.sled_pagecache.specs.Trees.{MadeCalls, AreCallsOf}
use Rattle.sled_pagecache.specs.declared.pagecache.handles.call.Answer.{Answer}
use Rattle.sled_pagecache.specs.declared.pagecache.handles.call.Answer.TheVariants.{Allocated, Got, Linked, Replaced, Freed, FoundRoot, RootSwapped, Generated, Flushed, Pinned, Sealed, Cancelled}
use Rattle.sled_pagecache.specs.declared.pagecache.handles.call.Call.{Call}
use Rattle.sled_pagecache.specs.declared.pagecache.handles.call.Call.TheVariants as call
use Rattle.sled_shared.specs.declared.calls.Swap.{Swap}
use Rattle.sled_shared.specs.declared.calls.Swap.TheVariants as swap
use Rattle.sled_shared.specs.declared.calls.SwapAnswer.{SwapAnswer}
use Rattle.sled_shared.specs.declared.calls.SwapAnswer.TheVariants as swapped

-- the request: a call of the page cache, or several of them in a row
pub data Request : Type 0 where
  Asked : Call → Request
  OpenTree : Bytes → Request
  Batch : List Swap → Request
  GetAll : List ℕ → Request

-- what a read finds: a page's token and node, or that it is absent or free
abbrev pub Found : Type 0
Found = Option (Token × WholeNode)

-- The answer. A batch that failed has the answers before the error, and so have reads.
pub data Reply : Type 0 where
  Answered : Answer → Reply
  Opened : Result ℕ Error → Reply
  Batched : Result (List SwapAnswer) (Error × List SwapAnswer) → Reply
  GotAll : Result (List Found) (Error × List Found) → Reply

pub record Entry : Type 0 where
  pub call : Request
  pub answer : Reply

abbrev pub entry : Request → Reply → Entry
entry call answer = record { call = call; answer = answer }

-- the answer is this error; for a batch, before any of its swaps, and for reads, before anything that was found
abbrev pub IsRefusal : Reply → Error → Type 0
IsRefusal (Answered (Allocated result)) e = result ≡ Err e
IsRefusal (Answered (Got result)) e = result ≡ Err e
IsRefusal (Answered (Linked result)) e = result ≡ Err e
IsRefusal (Answered (Replaced result)) e = result ≡ Err e
IsRefusal (Answered (Freed result)) e = result ≡ Err e
IsRefusal (Answered (FoundRoot result)) e = result ≡ Err e
IsRefusal (Answered (RootSwapped result)) e = result ≡ Err e
IsRefusal (Answered (Generated result)) e = result ≡ Err e
IsRefusal (Answered (Flushed result)) e = result ≡ Err e
IsRefusal (Opened result) e = result ≡ Err e
IsRefusal (Batched result) e = result ≡ Err (e, [])
IsRefusal (GotAll result) e = result ≡ Err (e, [])
-- no request has another answer
IsRefusal answer e = ⊥

-- the call of the cache that a swap of a batch is, and its answer
abbrev pub call_of : Swap → Call
call_of (swap.Link old link) = call.Link old link
call_of (swap.Replace old node) = call.Replace old node
call_of (swap.Free old) = call.Free old

abbrev pub answer_of : SwapAnswer → Answer
answer_of (swapped.Link answer) = Linked (Ok answer)
answer_of (swapped.Replace answer) = Replaced (Ok answer)
answer_of (swapped.Free answer) = Freed (Ok answer)

-- the answer of a swap that is refused
abbrev pub refusal_of : Swap → Error → Answer
refusal_of (swap.Link old link) e = Linked (Err e)
refusal_of (swap.Replace old node) e = Replaced (Err e)
refusal_of (swap.Free old) e = Freed (Err e)

-- These calls were made for the swaps: for all of them, or for those up to the one that was refused.
abbrev pub AreSwaps : List Swap → Result (Unit {0}) Error → List SwapAnswer → MadeCalls → Type 0
AreSwaps [] (Ok done) [] calls = calls ≡ []
AreSwaps [] (Ok done) (answer ∷ answers) calls = ⊥
AreSwaps [] (Err e) answers calls = ⊥
AreSwaps (one ∷ swaps) (Ok done) [] calls = ⊥
AreSwaps (one ∷ swaps) (Err e) [] calls = calls ≡ (call_of one, refusal_of one e) ∷ []
AreSwaps (one ∷ swaps) done (answer ∷ answers) calls = (rest : MadeCalls) × (calls ≡ (call_of one, answer_of answer) ∷ rest) × AreSwaps swaps done answers rest

-- how swaps in a row ended
abbrev pub answered : Result (Unit {0}) Refusal → Result (Unit {0}) Error
answered (Ok done) = Ok done
answered (Err refusal) = Err (error_of refusal)

-- how a batch of them ended, with the answers of those that were made
abbrev pub with_answers : Result (Unit {0}) Error → List SwapAnswer → Result (List SwapAnswer) (Error × List SwapAnswer)
with_answers (Ok done) answers = Ok answers
with_answers (Err e) answers = Err (e, answers)

-- the answer of a batch, with a list for its vector
abbrev pub batched : Result (Vec SwapAnswer) (Error × Vec SwapAnswer) → Result (List SwapAnswer) (Error × List SwapAnswer)
batched (Ok answers) = Ok answers.items
batched (Err (e, answers)) = Err (e, answers.items)

-- The batch is opened, the swaps are made, and the batch is sealed. If a swap is refused, the batch is cancelled, with any answer of that call.
abbrev pub IsBatch : List Swap → Result (List SwapAnswer) (Error × List SwapAnswer) → MadeCalls → Type 0
IsBatch swaps (Ok answers) calls = (inner : MadeCalls) × AreSwaps swaps (Ok tt) answers inner × (calls ≡ with_pin (inner ++ (call.Seal, Sealed (Ok tt)) ∷ []))
IsBatch swaps (Err (e, answers)) calls =
    ((answers ≡ []) × (calls ≡ (call.Pin, Pinned (Err e)) ∷ []))
    ⊎ ((inner : MadeCalls) × AreSwaps swaps (Ok tt) answers inner × (calls ≡ with_pin (inner ++ (call.Seal, Sealed (Err e)) ∷ [])))
    ⊎ ((inner : MadeCalls) × (closed : Result (Unit {0}) Error) × AreSwaps swaps (Err e) answers inner × (calls ≡ with_pin (inner ++ (call.Cancel, Cancelled closed) ∷ [])))

-- the answer of several reads, with a list for its vector
abbrev pub got_all : Result (Vec Found) (Error × Vec Found) → Result (List Found) (Error × List Found)
got_all (Ok found) = Ok found.items
got_all (Err (e, found)) = Err (e, found.items)

-- These calls are reads of the pages, in their order: of all of them, each with what it found, or of those up to the one whose read failed.
abbrev pub AreReads : List ℕ → Result (Unit {0}) Error → List Found → MadeCalls → Type 0
AreReads [] (Ok done) [] calls = calls ≡ []
AreReads (pid ∷ pages) (Err e) [] calls = calls ≡ (call.Get pid, Got (Err e)) ∷ []
AreReads (pid ∷ pages) ended (found ∷ more) calls = (rest : MadeCalls) × (calls ≡ (call.Get pid, Got (Ok found)) ∷ rest) × AreReads pages ended more rest
AreReads pages ended found calls = ⊥

-- Nothing else is called. An error is that of the page behind those of which something was found.
abbrev pub IsReading : List ℕ → Result (List Found) (Error × List Found) → MadeCalls → Type 0
IsReading pages (Ok found) calls = AreReads pages (Ok tt) found calls
IsReading pages (Err (e, found)) calls = AreReads pages (Err e) found calls

-- an entry is these calls
abbrev pub IsEntry : Request → Reply → MadeCalls → Type 0
IsEntry (Asked asked) (Answered answer) calls = calls ≡ (asked, answer) ∷ []
IsEntry (OpenTree name) (Opened result) calls = AreCallsOf ⊤ name result calls
IsEntry (Batch swaps) (Batched result) calls = IsBatch swaps result calls
IsEntry (GetAll pages) (GotAll result) calls = IsReading pages result calls
-- no request gets another answer
IsEntry asked answer calls = ⊥
