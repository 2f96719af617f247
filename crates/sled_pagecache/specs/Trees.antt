-- Opening a tree by its name: which calls of the cache that makes, and what stays if one of them fails.
use Rattle.std.specs.Prelude.{◌≡◌, ◌⊎◌, ◌||◌, ℕ, true, false, List, [], ◌∷◌, Option, Some, None, Result, Ok, Err, IsOk, IsErrOf}
use Rattle.sled_base.specs.Order.{Bytes}
use Rattle.sled_base.specs.declared.types.Bug.TheVariants.{MissingMeta}
use Rattle.sled_base.specs.declared.types.Device.TheVariants.{Write}
use Rattle.sled_base.specs.declared.types.Error.{Error}
use Rattle.sled_base.specs.declared.types.Error.TheVariants.{Unsupported, ReportableBug, Io, OutOfMemory}
use Rattle.sled_base.specs.declared.types.Why.TheVariants.{TooManyNames, NameTooLong}
use Rattle.sled_log.specs.declared.log.Log.{Ghosts}
use Rattle.sled_node.specs.Children.{index_of}
use Rattle.sled_node.specs.Meta.{Roots, root_of, IsTooLong, LacksRoom, CanChange}
use Rattle.sled_node.specs.Node.{Child, WholeNode, empty_leaf}
use Rattle.sled_pagecache.specs.Answers.{is_write_fault, stamps_with, stamps_after_root_swap}
use Rattle.sled_pagecache.specs.Cache.{Cache, Represents, IsResident}
use Rattle.sled_pagecache.specs.Limits.{meta_pid}
use Rattle.sled_pagecache.specs.Logged.{Logged}
use Rattle.sled_pagecache.specs.Memory.{AccessesPage, KeepsMemory, EvictsAtMost, LeavesNodes}
use Rattle.sled_pagecache.specs.Rows.{AreMade, StepInRow}
use Rattle.sled_pagecache.specs.State.{State, Token}
use Rattle.sled_pagecache.specs.Step.{RootSwap}
use Rattle.sled_pagecache.specs.declared.pagecache.handles.call.Answer.{Answer}
use Rattle.sled_pagecache.specs.declared.pagecache.handles.call.Answer.TheVariants.{Allocated, GotMeta, RootSwapped}
use Rattle.sled_pagecache.specs.declared.pagecache.handles.call.Call.{Call}
use Rattle.sled_pagecache.specs.declared.pagecache.handles.call.Call.TheVariants.{Allocate, GetMeta, CasRoot}

-- calls that were made, each with its answer
abbrev pub MadeCalls : Type 0
MadeCalls = List (Call × Answer)

-- an index over all keys, which leads each to the one page
abbrev pub index_over : ℕ → WholeNode
index_over leaf = index_of (([], Child leaf) ∷ [])

-- ---- Looking up the named roots, which comes first.

-- the root that the name has; or why it can't be given one; or that it can
abbrev pub TellsTree : Bytes → Roots → Option ℕ → Result (Option ℕ) Error → Type 0
TellsTree name roots (Some root) found = found ≡ Ok (Some root)
TellsTree name roots None found =
    (IsTooLong name (Some 0) × (found ≡ Err (Unsupported NameTooLong)))
    ⊎ (LacksRoom name (Some 0) roots × (found ≡ Err (Unsupported TooManyNames)))
    ⊎ (CanChange name (Some 0) roots × (found ≡ Ok None))

abbrev pub FindsTree : Bytes → Result (Token × Roots) Error → Result (Option ℕ) Error → Type 0
FindsTree name (Ok told) found = TellsTree name told.1 (root_of name told.1) found
FindsTree name (Err e) found = found ≡ Err e

-- ---- The calls after it, each with its answer, up to the first that fails. If the cache is in a state, the swap of the root doesn't find
-- another one, since the name had none.

module _ (found_another : Type 0) (name : Bytes) (result : Result ℕ Error) where
  abbrev pub EndsSwap : ℕ → RootSwap → Type 0
  EndsSwap root (Ok (Ok done)) = result ≡ Ok root
  EndsSwap root (Ok (Err another)) = found_another × (result ≡ Err (ReportableBug MissingMeta))
  EndsSwap root (Err e) = result ≡ Err e

  -- The name is given its root. If that fails, the leaf and the index stay.
  abbrev pub NamesRoot : ℕ → MadeCalls → Type 0
  NamesRoot root calls = (answer : RootSwap) × (calls ≡ (CasRoot name None (Some root), RootSwapped answer) ∷ []) × EndsSwap root answer

  abbrev pub GoesOnOver : Result (ℕ × Token) Error → MadeCalls → Type 0
  GoesOnOver (Ok made) calls = NamesRoot made.0 calls
  GoesOnOver (Err e) calls = (calls ≡ []) × (result ≡ Err e)

  -- An index is put over the leaf. If it is refused, or if there is no memory for it, the leaf stays.
  abbrev pub PutsIndex : ℕ → MadeCalls → Type 0
  PutsIndex leaf calls =
      ((calls ≡ []) × (result ≡ Err OutOfMemory))
      ⊎ ((answer : Result (ℕ × Token) Error) × (others : MadeCalls) × (calls ≡ (Allocate (index_over leaf), Allocated answer) ∷ others) × GoesOnOver answer others)

  abbrev pub GoesOnWith : Result (ℕ × Token) Error → MadeCalls → Type 0
  GoesOnWith (Ok made) calls = PutsIndex made.0 calls
  GoesOnWith (Err e) calls = (calls ≡ []) × (result ≡ Err e)

  -- An empty leaf is put on a page. If it is refused, nothing stays.
  abbrev pub MakesTree : MadeCalls → Type 0
  MakesTree calls = (answer : Result (ℕ × Token) Error) × (others : MadeCalls) × (calls ≡ (Allocate empty_leaf, Allocated answer) ∷ others) × GoesOnWith answer others

  -- For a name that has a root, that is returned. A name that can't be given one is refused.
  abbrev pub OpensTree : Result (Option ℕ) Error → MadeCalls → Type 0
  OpensTree (Ok (Some root)) calls = (calls ≡ []) × (result ≡ Ok root)
  OpensTree (Ok None) calls = MakesTree calls
  OpensTree (Err e) calls = (calls ≡ []) × (result ≡ Err e)

  -- all of them, with the lookup
  abbrev pub AreCallsOf : MadeCalls → Type 0
  AreCallsOf calls =
      (look : Result (Token × Roots) Error) × (found : Result (Option ℕ) Error) × (others : MadeCalls) × (calls ≡ (GetMeta, GotMeta look) ∷ others) × FindsTree name look found × OpensTree found others

-- ---- What is known over any log.

-- the stamps after an answer of these calls, and after several
abbrev pub stamps_after : List ℕ → Answer → List ℕ
stamps_after stamps (Allocated (Ok made)) = stamps_with stamps made.1
stamps_after stamps (RootSwapped (Ok swapped)) = stamps_after_root_swap stamps swapped
stamps_after stamps other = stamps

abbrev pub stamps_then : List ℕ → MadeCalls → List ℕ
stamps_then stamps [] = stamps
stamps_then stamps (made ∷ calls) = stamps_then (stamps_after stamps made.1) calls

module _ {L : Type 0} (g : Ghosts L) where
  -- What such a call does in memory: it accesses its page, or it fails.
  abbrev pub Touches : Cache L → Answer → Cache L → Type 0
  Touches old (Allocated (Ok made)) new = AccessesPage old made.0 new × IsResident new made.0
  Touches old (Allocated (Err e)) new = LeavesNodes g.tells old new e
  Touches old (RootSwapped (Ok (Ok done))) new = AccessesPage old meta_pid new
  Touches old (RootSwapped (Ok (Err another))) new = KeepsMemory old new
  Touches old (RootSwapped (Err e)) new = EvictsAtMost old meta_pid new g.tells e
  Touches old answer new = ⊥

  -- what several calls do, one after another
  abbrev pub AreTouched : Cache L → MadeCalls → Cache L → Type 0
  AreTouched old [] new = new ≡ old
  AreTouched old (made ∷ calls) new = (mid : Cache L) × Touches old made.1 mid × AreTouched mid calls new

  -- the cache is in some state
  abbrev pub IsKnown : Cache L → Type 0
  IsKnown cache = (held : Logged) × (s : State) × Represents g cache held s

  -- The named roots are looked up. If the name has no root, the calls that make a tree follow. If it has one, or can't be given one,
  -- nothing changes, and neither memory nor the log is used.
  pub record IsTreeOpened (old : Cache L) (name : Bytes) (result : Result ℕ Error) (new : Cache L) : Type 0 where
    pub look : Result (Token × Roots) Error
    pub always : old.fault ≡ false → IsOk look
    pub found : Result (Option ℕ) Error
    pub finds : FindsTree name look found
    pub calls : MadeCalls
    pub are : OpensTree (¬ IsKnown old) name result found calls
    pub made : AreMade g old ((GetMeta, GotMeta look) ∷ calls) new
    pub row : StepInRow g old ((GetMeta, GotMeta look) ∷ calls) new
    pub stamps : new.stamps ≡ stamps_then old.stamps calls
    pub touched : AreTouched old calls new
    pub same : calls ≡ [] → new ≡ old

-- A batch stays open or closed. A write error is sticky: after an earlier one the call returns it, and nothing changes.
pub record KeepsFault {L T : Type 0} (old new : Cache L) (result : Result T Error) : Type 0 where
  pub batch : new.batch ≡ old.batch
  pub fault : new.fault ≡ (old.fault || is_write_fault result)
  pub stuck : old.fault ≡ true → IsErrOf result (Io Write) × (new ≡ old)
