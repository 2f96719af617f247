-- The page cache as an abstract machine: what a call may return in a state, which state it leaves, and what it begins to write.
use Rattle.std.specs.Prelude.{ℕ, nat_lt, if◌then◌else◌, ◌≡◌, ◌==◌, ◌||◌, ◌+◌, ◌-◌, ◌*◌, ◌/◌, ◌^◌, ◌⊎◌, Bool, false, true, List, [], ◌∷◌, ◌++◌, length, Option, Some, None, Result, Ok, Err, MatchBool, MatchOption, IsOkAnd, ◌≢◌}
use Rattle.sled_log.specs.Contents.{Update, Link, Put, Node, Content, Free, Counter, Roots, Damaged}
use Rattle.sled_node.specs.Node.{WholeNode}
use Rattle.sled_node.specs.declared.node.link.Link.{Link as NodeLink}
use Rattle.sled_pagecache.specs.Limits.{most_messages, meta_pid, counter_pid, batch_manifest_pid, most_pages}
use Rattle.sled_base.specs.declared.types.Bug.TheVariants.{LinkRefused}
use Rattle.sled_base.specs.declared.types.Device.TheVariants.{Read, Write}
use Rattle.sled_base.specs.declared.types.Error.{Error}
use Rattle.sled_base.specs.declared.types.Error.TheVariants.{Unsupported, ReportableBug, Io, Corruption, OutOfMemory, CollectionNotFound}
use Rattle.sled_base.specs.declared.types.Why.TheVariants.{ReservedId, PagesUsedUp, IdsUsedUp, StampUsedUp, BatchOpen, LogFull, TooManyNames, NameTooLong}
use Rattle.sled_base.specs.Order.{Bytes}
use Rattle.sled_base.specs.declared.types.page_state.PageState.{PageState}
use Rattle.sled_base.specs.declared.types.page_state.PageState.TheVariants as said
use Rattle.std.specs.List.{AllZip}
use Rattle.sled_node.specs.Links.{Accepts, applied}
use Rattle.sled_node.specs.Meta as meta
use Rattle.sled_node.specs.Meta.{IsTooLong, LacksRoom, CanChange}
use Rattle.sled_pagecache.specs.declared.pagecache.handles.snapshot.Snapshot.{Snapshot}
use Rattle.sled_pagecache.specs.declared.pagecache.handles.call.Answer.{Answer}
use Rattle.sled_pagecache.specs.declared.pagecache.handles.call.Answer.TheVariants.{Allocated, Got, Linked, Replaced, Freed, GotMeta, GotIdgen, Generated, Flushed, Sized, Amplified, TookSnapshot, FoundRoot, RootSwapped, Pinned, Sealed, Cancelled, AttemptedGc}
use Rattle.sled_pagecache.specs.declared.pagecache.handles.call.Call.{Call}
use Rattle.sled_pagecache.specs.declared.pagecache.handles.call.Call.TheVariants.{Allocate, Get, Link, Replace, GetMeta, GetIdgen, GenerateId, Flush, SizeOnDisk, SpaceAmplification, TakeFuzzySnapshot, MetaPidForName, CasRoot, AttemptGc}
use Rattle.sled_pagecache.specs.declared.pagecache.handles.call.Call.TheVariants as call
use Rattle.sled_log.specs.Events.{Event, Change, Pin, Seal, Cancel}
use Rattle.sled_pagecache.specs.Sizes.{HasDamaged, logical_size}
use Rattle.sled_pagecache.specs.State.{StampedPage, page, State, contents_of, page_at, with_page, is_free, greatest_free, Token, token}

-- What a call leaves: the state, and the changes that it has begun to write.
pub record Outcome : Type 0 where
  pub state : State
  pub changes : List (Event Update)

abbrev pub outcome : State → List (Event Update) → Outcome
outcome state changes = record { state = state; changes = changes }

-- nothing changes, and nothing is written
abbrev pub no_change : State → Outcome
no_change s = outcome s []

-- the ids of the pages that are the cache's own
abbrev pub is_reserved : ℕ → Bool
is_reserved pid = (pid == meta_pid) || (pid == counter_pid) || (pid == batch_manifest_pid)

-- the answer is this error, and nothing changes
abbrev pub IsRefused : {T : Type 0} → State → Result T Error → Outcome → Error → Type 0
IsRefused s answer out e = (answer ≡ Err e) × (out ≡ no_change s)

-- ---- What a call tests, in the order of the tests, before it continues.

-- an earlier write error is returned
abbrev pub UnlessFaulty : {T : Type 0} → State → Result T Error → Outcome → Type 0 → Type 0
UnlessFaulty s answer out goes_on = MatchBool s.fault (IsRefused s answer out (Io Write)) goes_on

-- a reserved id is refused
abbrev pub UnlessReserved : {T : Type 0} → State → ℕ → Result T Error → Outcome → Type 0 → Type 0
UnlessReserved s pid answer out goes_on = MatchBool (is_reserved pid) (IsRefused s answer out (Unsupported ReservedId)) goes_on

-- a stamp that must increase is below the greatest
abbrev pub UnlessLastStamp : {T : Type 0} → State → ℕ → Result T Error → Outcome → Type 0 → Type 0
UnlessLastStamp s stamp answer out goes_on = MatchBool (stamp == 2 ^ 64 - 1) (IsRefused s answer out (Unsupported StampUsedUp)) goes_on

-- An allocation or a read failed, and the state stays; or a write failed, which is sticky. Nothing is written.
abbrev pub IsHindered : State → Error → Outcome → Type 0
IsHindered s OutOfMemory out = out ≡ no_change s
IsHindered s (Io Read) out = out ≡ no_change s
IsHindered s (Io Write) out = out ≡ outcome (record s { fault = true }) []
IsHindered s e out = ⊥

-- something is read, and nothing changes
abbrev pub Reads : {T : Type 0} → State → Result T Error → Outcome → (T → Type 0) → Type 0
Reads s (Ok value) out read = (out ≡ no_change s) × read value
Reads s (Err e) out read = IsHindered s e out

-- the page is damaged, or of a kind that can't be at its id
abbrev pub IsCorruption : {T : Type 0} → State → Result T Error → Outcome → Type 0
IsCorruption s (Err (Corruption pointer)) out = out ≡ no_change s
IsCorruption s answer out = Reads s answer out (λ _. ⊥)

-- ---- get: the node and the token of a page, or none if the page is absent or free

abbrev pub FindsContent : State → ℕ → ℕ → Content → Result (Option (Token × WholeNode)) Error → Outcome → Type 0
FindsContent s pid stamp Free answer out = (answer ≡ Ok None) × (out ≡ no_change s)
FindsContent s pid stamp (Node node) answer out = Reads s answer out (λ found. found ≡ Some (token pid stamp, node))
FindsContent s pid stamp (Counter n) answer out = IsCorruption s answer out
FindsContent s pid stamp (Roots roots) answer out = IsCorruption s answer out
FindsContent s pid stamp Damaged answer out = IsCorruption s answer out

abbrev pub Finds : State → ℕ → Option StampedPage → Result (Option (Token × WholeNode)) Error → Outcome → Type 0
Finds s pid None answer out = (answer ≡ Ok None) × (out ≡ no_change s)
Finds s pid (Some found) answer out = FindsContent s pid found.stamp found.content answer out

abbrev pub Gets : State → ℕ → Result (Option (Token × WholeNode)) Error → Outcome → Type 0
Gets s pid answer out = UnlessFaulty s answer out (UnlessReserved s pid answer out (Finds s pid (page_at s pid) answer out))

-- ---- the map of named roots, which page 0 holds

abbrev pub AreRoots : Content → (meta.Roots → Type 0) → Type 0
AreRoots (Roots roots) holds = holds roots
AreRoots other holds = ⊥

abbrev pub HoldsRoots : Option StampedPage → (ℕ → meta.Roots → Type 0) → Type 0
HoldsRoots None holds = ⊥
HoldsRoots (Some found) holds = AreRoots found.content (λ roots. holds found.stamp roots)

abbrev pub GetsMeta : State → Result (Token × meta.Roots) Error → Outcome → Type 0
GetsMeta s answer out = UnlessFaulty s answer out (HoldsRoots (page_at s meta_pid) (λ stamp roots. (answer ≡ Ok (token meta_pid stamp, roots)) × (out ≡ no_change s)))

-- the error holds a copy of the name
abbrev pub TellsRoot : Bytes → Option ℕ → Result ℕ Error → Type 0
TellsRoot name None answer = (answer ≡ Err (CollectionNotFound name)) ⊎ (answer ≡ Err OutOfMemory)
TellsRoot name (Some root) answer = answer ≡ Ok root

abbrev pub FindsRoot : State → Bytes → Result ℕ Error → Outcome → Type 0
FindsRoot s name answer out = UnlessFaulty s answer out (HoldsRoots (page_at s meta_pid) (λ stamp roots. TellsRoot name (meta.root_of name roots) answer × (out ≡ no_change s)))

-- what a swap of a root returns: if the name has another root, that root
abbrev pub RootSwap : Type 0
RootSwap = Result (Result (Unit {0}) (Option ℕ)) Error

-- ---- the counter of generated ids, which page 1 holds

abbrev pub IsCounterAnd : Content → (ℕ → Type 0) → Type 0
IsCounterAnd (Counter n) holds = holds n
IsCounterAnd other holds = ⊥

abbrev pub HoldsCounter : Option StampedPage → (ℕ → ℕ → Type 0) → Type 0
HoldsCounter None holds = ⊥
HoldsCounter (Some found) holds = IsCounterAnd found.content (λ n. holds found.stamp n)

abbrev pub GetsIdgen : State → Result (Token × ℕ) Error → Outcome → Type 0
GetsIdgen s answer out = UnlessFaulty s answer out (HoldsCounter (page_at s counter_pid) (λ stamp n. (answer ≡ Ok (token counter_pid stamp, n)) × (out ≡ no_change s)))

-- the first number of the interval that a number is in
abbrev pub interval_start : ℕ → ℕ → ℕ
interval_start interval n = n / interval * interval

-- the next id is used
abbrev pub with_next_id : State → State
with_next_id s = record s { next = s.next + 1 }

-- ---- flush and size: no page changes, and no change is written

abbrev pub Flushes : State → Result ℕ Error → Outcome → Type 0
Flushes s answer out = UnlessFaulty s answer out (MatchBool s.batch (IsRefused s answer out (Unsupported BatchOpen)) (FlushesLog answer))
  where
    FlushesLog : Result ℕ Error → Type 0
    FlushesLog (Ok written) = out ≡ no_change s
    FlushesLog (Err e) = (e ≡ Io Write) × (out ≡ outcome (record s { fault = true }) [])

abbrev pub Sizes : State → Result ℕ Error → Outcome → Type 0
Sizes s answer out = UnlessFaulty s answer out (IsOkAnd answer (λ size. out ≡ no_change s))

-- ---- space_amplification: the size of the log, of which the machine knows nothing, and what the pages take. A damaged page isn't skipped.

abbrev pub Measures : ℕ → State → Result (ℕ × ℕ) Error → Outcome → Type 0
Measures segment_size s (Err (Corruption pointer)) out = HasDamaged (contents_of s) × (out ≡ no_change s)
Measures segment_size s answer out = Reads s answer out (λ sizes. (¬ HasDamaged (contents_of s)) × (sizes.1 ≡ logical_size segment_size (contents_of s)))

abbrev pub Amplifies : ℕ → State → Result (ℕ × ℕ) Error → Outcome → Type 0
Amplifies segment_size s answer out = UnlessFaulty s answer out (Measures segment_size s answer out)

-- ---- take_fuzzy_snapshot: which pages are free; of places the machine knows nothing

abbrev pub SaysPage : StampedPage → PageState → Type 0
SaysPage p (said.Present base frags) = is_free p.content ≡ false
SaysPage p (said.Free lsn pointer) = is_free p.content ≡ true

abbrev pub Snaps : State → Result Snapshot Error → Outcome → Type 0
Snaps s answer out = UnlessFaulty s answer out (SaysPages answer × (out ≡ no_change s))
  where
    SaysPages : Result Snapshot Error → Type 0
    SaysPages (Ok snapshot) = AllZip SaysPage s.pages snapshot.pt.items
    SaysPages (Err e) = e ≡ OutOfMemory

-- ---- seal and cancel: the open batch is closed, whatever happens

abbrev pub with_batch_closed : State → State
with_batch_closed s = record s { batch = false }

-- After an earlier write error nothing is written. Otherwise the mark is; if that fails, it may have been written.
abbrev pub Closes : Event Update → State → Result (Unit {0}) Error → Outcome → Type 0
Closes mark s answer out = (s.batch ≡ true) × MatchBool s.fault ((answer ≡ Err (Io Write)) × (out ≡ no_change (with_batch_closed s))) (WritesMark answer)
  where
    WritesMark : Result (Unit {0}) Error → Type 0
    WritesMark (Ok done) = out ≡ outcome (with_batch_closed s) (mark ∷ [])
    WritesMark (Err e) = (e ≡ Io Write) × (out ≡ outcome (record (with_batch_closed s) { fault = true }) (mark ∷ []))

-- ---- a swap: a page that exists, and is at the stamp of the token, is changed

abbrev pub Swapped : Type 0 → Type 0
Swapped Rejected = Result (Result Token (Option (Token × Rejected))) Error

-- the page is absent or free
abbrev pub IsGone : {R : Type 0} → State → Swapped R → Outcome → Type 0
IsGone s answer out = (answer ≡ Ok (Err None)) × (out ≡ no_change s)

-- at another stamp the current token is returned, with the rejected change
abbrev pub UnlessStale : {R : Type 0} → State → Token → R → ℕ → Swapped R → Outcome → Type 0 → Type 0
UnlessStale s old rejected stamp answer out goes_on =
    MatchBool (stamp == old.stamp) goes_on ((answer ≡ Ok (Err (Some (token old.pid stamp, rejected)))) × (out ≡ no_change s))

abbrev pub SwapsPage : {R : Type 0} → State → Token → R → Option StampedPage → Swapped R → Outcome → (Content → Type 0) → Type 0
SwapsPage s old rejected None answer out goes_on = IsGone s answer out
SwapsPage s old rejected (Some found) answer out goes_on =
    MatchBool (is_free found.content) (IsGone s answer out) (UnlessStale s old rejected found.stamp answer out (goes_on found.content))

abbrev pub Swaps : {R : Type 0} → State → Token → R → Swapped R → Outcome → (Content → Type 0) → Type 0
Swaps s old rejected answer out goes_on = UnlessFaulty s answer out (UnlessReserved s old.pid answer out (SwapsPage s old rejected (page_at s old.pid) answer out goes_on))

-- What is written if a link made this node of a page: the link, or the node if the page already has as many messages as it may have.
abbrev pub link_update : ℕ → NodeLink → WholeNode → Update
link_update messages link after = if nat_lt messages most_messages then Link link else Put (Node after)

-- ---- a change that is written

module _ (full : Type 0) where
  -- The log has no room for the change, or the call is hindered. If a write failed, the change may have been written.
  abbrev pub FailsWhereFull : State → Event Update → Error → Outcome → Type 0
  FailsWhereFull s change (Unsupported LogFull) out = full × (out ≡ no_change s)
  FailsWhereFull s change (Io Write) out = out ≡ outcome (record s { fault = true }) (change ∷ [])
  FailsWhereFull s change e out = IsHindered s e out

  -- the change is written, and `work` defines the rest
  abbrev pub DoesUnlessFull : {T : Type 0} → State → Event Update → Result T Error → Outcome → (T → State → Type 0) → Type 0
  DoesUnlessFull s change (Ok value) out work = (out.changes ≡ change ∷ []) × work value out.state
  DoesUnlessFull s change (Err e) out work = FailsWhereFull s change e out

-- ---- What the machine knows of its log: how many messages make each page, and for which changes there is no room.
module _ (messages : ℕ → ℕ) (no_room : Event Update → Type 0) where
  abbrev pub Fails : State → Event Update → Error → Outcome → Type 0
  Fails s change e out = FailsWhereFull (no_room change) s change e out

  abbrev pub Does : {T : Type 0} → State → Event Update → Result T Error → Outcome → (T → State → Type 0) → Type 0
  Does s change answer out work = DoesUnlessFull (no_room change) s change answer out work

  -- ---- allocate: the free page with the greatest id at its next stamp, or else a new page at stamp 1

  abbrev pub AddsPage : State → WholeNode → Result (ℕ × Token) Error → Outcome → Type 0
  AddsPage s node answer out =
      MatchBool (length s.pages == most_pages)
      (IsRefused s answer out (Unsupported PagesUsedUp))
      (Does s (Change (length s.pages) (Put (Node node))) answer out (λ made t. (made.0 ≡ length s.pages) × (made.1 ≡ token (length s.pages) 1) × (t ≡ record s { pages = s.pages ++ page 1 (Node node) ∷ [] })))

  abbrev pub ReusesPage : State → WholeNode → Token → Result (ℕ × Token) Error → Outcome → Type 0
  ReusesPage s node free answer out =
      UnlessLastStamp s free.stamp answer out
      (Does s (Change free.pid (Put (Node node))) answer out (λ made t. (made.0 ≡ free.pid) × (made.1 ≡ token free.pid (free.stamp + 1)) × (t ≡ with_page s free.pid (page (free.stamp + 1) (Node node)))))

  abbrev pub Allocates : State → WholeNode → Result (ℕ × Token) Error → Outcome → Type 0
  Allocates s node answer out = UnlessFaulty s answer out (MatchOption (greatest_free 0 s.pages) (AddsPage s node answer out) (λ free. ReusesPage s node free answer out))

  -- ---- link and replace: the page has another content at its next stamp

  abbrev pub SwapsContent : {R : Type 0} → State → Token → Update → Content → Swapped R → Outcome → Type 0
  SwapsContent s old update content answer out =
      UnlessLastStamp s old.stamp answer out
      (Does s (Change old.pid update) answer out (λ swapped t. (swapped ≡ Ok (token old.pid (old.stamp + 1))) × (t ≡ with_page s old.pid (page (old.stamp + 1) content))))

  -- a link that the node accepts is applied
  abbrev pub LinksNode : State → Token → NodeLink → WholeNode → Swapped NodeLink → Outcome → Type 0
  LinksNode s old link node answer out =
      -- the page is read first, if it isn't in memory
      Reads s answer out (λ _. ⊥)
      ⊎ ((¬ Accepts node link) × IsRefused s answer out (ReportableBug LinkRefused))
      ⊎ (Accepts node link × SwapsContent s old (link_update (messages old.pid) link (applied link node)) (Node (applied link node)) answer out)

  abbrev pub LinksContent : State → Token → NodeLink → Swapped NodeLink → Outcome → Content → Type 0
  LinksContent s old link answer out (Node node) = LinksNode s old link node answer out
  LinksContent s old link answer out Free = IsCorruption s answer out
  LinksContent s old link answer out (Counter n) = IsCorruption s answer out
  LinksContent s old link answer out (Roots roots) = IsCorruption s answer out
  LinksContent s old link answer out Damaged = IsCorruption s answer out

  abbrev pub Links : State → Token → NodeLink → Swapped NodeLink → Outcome → Type 0
  Links s old link answer out = Swaps s old link answer out (LinksContent s old link answer out)

  -- the page holds the node in place of what it held
  abbrev pub Replaces : State → Token → WholeNode → Swapped WholeNode → Outcome → Type 0
  Replaces s old node answer out = Swaps s old node answer out (λ content. SwapsContent s old (Put (Node node)) (Node node) answer out)

  -- the page is free, at its next stamp
  abbrev pub Frees : State → Token → Swapped (Unit {0}) → Outcome → Type 0
  Frees s old answer out = Swaps s old tt answer out (λ content. SwapsContent s old (Put Free) Free answer out)

  -- ---- a swap of a named root: the map has that one name at another root, or without it

  abbrev pub PutsRoots : State → ℕ → meta.Roots → RootSwap → Outcome → Type 0
  PutsRoots s stamp roots answer out =
      UnlessLastStamp s stamp answer out
      (Does s (Change meta_pid (Put (Roots roots))) answer out (λ swapped t. (swapped ≡ Ok tt) × (t ≡ with_page s meta_pid (page (stamp + 1) (Roots roots)))))

  -- a name that gets a root must be short enough, and there must be room for it
  abbrev pub SetsRoot : State → ℕ → Bytes → Option ℕ → meta.Roots → RootSwap → Outcome → Type 0
  SetsRoot s stamp name new roots answer out =
      (IsTooLong name new × IsRefused s answer out (Unsupported NameTooLong))
      ⊎ (LacksRoom name new roots × IsRefused s answer out (Unsupported TooManyNames))
      ⊎ (CanChange name new roots × PutsRoots s stamp (meta.changed_roots name new roots) answer out)

  abbrev pub SwapsRoot : State → Bytes → Option ℕ → Option ℕ → RootSwap → Outcome → Type 0
  SwapsRoot s name old new answer out =
      UnlessFaulty s answer out
      (HoldsRoots (page_at s meta_pid) (λ stamp roots.
      ((meta.root_of name roots ≢ old) × (answer ≡ Ok (Err (meta.root_of name roots))) × (out ≡ no_change s))
      ⊎ ((meta.root_of name roots ≡ old) × SetsRoot s stamp name new roots answer out)))

  -- ---- generate_id_inner: the next id. One in a later interval than the counter first makes the start of its interval the counter.

  abbrev pub PutsCounter : State → ℕ → ℕ → Result ℕ Error → Outcome → Type 0
  PutsCounter s stamp start answer out =
      MatchBool s.batch (IsRefused s answer out (Unsupported BatchOpen))
      (UnlessLastStamp s stamp answer out
      (Does s (Change counter_pid (Put (Counter start))) answer out (λ id t. (id ≡ s.next) × (t ≡ with_next_id (with_page s counter_pid (page (stamp + 1) (Counter start)))))))

  abbrev pub Generates : ℕ → State → Result ℕ Error → Outcome → Type 0
  Generates interval s answer out =
      UnlessFaulty s answer out
      (MatchBool (nat_lt (2 ^ 64 - 1) s.next) (IsRefused s answer out (Unsupported IdsUsedUp))
      (HoldsCounter (page_at s counter_pid) (λ stamp n.
      MatchBool (nat_lt (interval_start interval n) (interval_start interval s.next))
      (PutsCounter s stamp (interval_start interval s.next) answer out)
      ((answer ≡ Ok s.next) × (out ≡ no_change (with_next_id s))))))

  -- ---- pin: a batch is opened, unless one is open

  abbrev pub Pins : State → Result (Unit {0}) Error → Outcome → Type 0
  Pins s answer out =
      UnlessFaulty s answer out
      (MatchBool s.batch (IsRefused s answer out (Unsupported BatchOpen))
      (Does s Pin answer out (λ done t. t ≡ record s { batch = true })))

-- ---- attempt_gc: the page that is due is moved: its content is written again, and its stamp stays

-- What is due to be moved in a log: nothing; a message that no longer belongs to its page; or this page.
pub data Due : Type 0 where
  Nothing : Due
  Outdated : Due
  Page : (pid : ℕ) → Due

-- What the machine knows of a log that asks for moves: which move is due, and for which content of a page there is no room again.
module _ {L : Type 0} (due : L → Due) (no_room_again : L → ℕ → Content → Type 0) where
  module _ (log : L) (s : State) (pid : ℕ) where
    -- The page may be read first.
    abbrev pub WritesAgain : Content → Result Bool Error → Outcome → Type 0
    WritesAgain content answer out =
        Reads s answer out (λ _. ⊥)
        ⊎ DoesUnlessFull (no_room_again log pid content) s (Change pid (Put content)) answer out (λ moved t. (moved ≡ true) × (t ≡ s))

    -- A damaged page is reported if it is read, and otherwise written again as it is.
    abbrev pub MovesContent : Content → Result Bool Error → Outcome → Type 0
    MovesContent Damaged answer out = IsCorruption s answer out ⊎ WritesAgain Damaged answer out
    MovesContent content answer out = WritesAgain content answer out

    abbrev pub MovesPage : Option StampedPage → Result Bool Error → Outcome → Type 0
    MovesPage None answer out = ⊥
    MovesPage (Some found) answer out = MovesContent found.content answer out

  abbrev pub Moves : L → State → Due → Result Bool Error → Outcome → Type 0
  Moves log s Nothing answer out = (answer ≡ Ok false) × (out ≡ no_change s)
  Moves log s Outdated answer out = (answer ≡ Ok true) × (out ≡ no_change s)
  Moves log s (Page pid) answer out = MovesPage log s pid (page_at s pid) answer out

  abbrev pub Tidies : L → State → Result Bool Error → Outcome → Type 0
  Tidies log s answer out = UnlessFaulty s answer out (Moves log s (due log) answer out)

  -- After a swap that wrote a whole node, the page that is then due is moved. The move never changes the swap's answer.
  module _ (Behind : List (Event Update) → L → Type 0) where
    pub record TidiesBehind (swap out : Outcome) : Type 0 where
      pub mid : L
      pub behind : Behind swap.changes mid
      pub answer : Result Bool Error
      pub move : Outcome
      pub tidies : Tidies mid swap.state answer move
      pub is : out ≡ outcome move.state (swap.changes ++ move.changes)

    abbrev pub TidiesIfSwapped : {R : Type 0} → Swapped R → Outcome → Outcome → Type 0
    TidiesIfSwapped (Ok (Ok made)) swap out = TidiesBehind swap out
    TidiesIfSwapped answer swap out = out ≡ swap

  -- ---- From s, the cache may give this answer to the call, and leave this outcome: an act for each call, and what is added to a swap. The
  -- interval is the length of an interval of generated ids, and the segment size is that of the log.
  module _ (messages : ℕ → ℕ) (no_room : Event Update → Type 0) (interval segment_size : ℕ) (log : L) where
    abbrev pub Act : State → Call → Answer → Outcome → Type 0
    Act s (Allocate node) (Allocated answer) out = Allocates messages no_room s node answer out
    Act s (Get pid) (Got answer) out = Gets s pid answer out
    Act s (Link old link) (Linked answer) out = Links messages no_room s old link answer out
    Act s (Replace old node) (Replaced answer) out = Replaces messages no_room s old node answer out
    Act s (call.Free old) (Freed answer) out = Frees messages no_room s old answer out
    Act s GetMeta (GotMeta answer) out = GetsMeta s answer out
    Act s (MetaPidForName name) (FoundRoot answer) out = FindsRoot s name answer out
    Act s (CasRoot name old new) (RootSwapped answer) out = SwapsRoot messages no_room s name old new answer out
    Act s GetIdgen (GotIdgen answer) out = GetsIdgen s answer out
    Act s GenerateId (Generated answer) out = Generates messages no_room interval s answer out
    Act s Flush (Flushed answer) out = Flushes s answer out
    Act s SizeOnDisk (Sized answer) out = Sizes s answer out
    Act s SpaceAmplification (Amplified answer) out = Amplifies segment_size s answer out
    Act s TakeFuzzySnapshot (TookSnapshot answer) out = Snaps s answer out
    Act s call.Pin (Pinned answer) out = Pins messages no_room s answer out
    Act s call.Seal (Sealed answer) out = Closes Seal s answer out
    Act s call.Cancel (Cancelled answer) out = Closes Cancel s answer out
    Act s AttemptGc (AttemptedGc answer) out = Tidies log s answer out
    -- a call gets no answer of another call
    Act s asked answer out = ⊥

    module _ (Behind : List (Event Update) → L → Type 0) where
      abbrev pub Step : State → Call → Answer → Outcome → Type 0
      Step s (Replace old node) (Replaced answer) out = (swap : Outcome) × Act s (Replace old node) (Replaced answer) swap × TidiesIfSwapped Behind answer swap out
      -- a link joins the messages of its page, or it writes a whole node
      Step s (Link old link) (Linked answer) out =
          (swap : Outcome) × Act s (Link old link) (Linked answer) swap × MatchBool (nat_lt (messages old.pid) most_messages) (out ≡ swap) (TidiesIfSwapped Behind answer swap out)
      Step s asked answer out = Act s asked answer out
