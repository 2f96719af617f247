-- The book of a round, and what makes it legal.
use Rattle.std.specs.Prelude.{◌≡◌, ℕ, ◌+◌, ◌≤◌, false, ◌∷◌, [], List, ◌++◌, Ok, map, flat_map, ⊤}
use Rattle.sled_log.specs.Contents.{Content, Update}
use Rattle.sled_log.specs.Events.{Event}
use Rattle.sled_pagecache.specs.Shapes.{Shape, shape_of}
use Rattle.sled_pagecache.specs.State.{State}
use Rattle.sled_pagecache.specs.Step.{Due, Outcome, Step}
use Rattle.sled_pagecache.specs.Trees.{MadeCalls}
use Rattle.sled_pagecache.specs.declared.pagecache.handles.call.Answer.{Answer}
use Rattle.sled_pagecache.specs.declared.pagecache.handles.call.Answer.TheVariants.{Generated}
use Rattle.sled_pagecache.specs.declared.pagecache.handles.call.Call.{Call}
use Rattle.sled_shared.specs.Calls.{Answered, Entry, IsEntry, Reply}

-- the number of calls in the books before it, the cache's shape at its beginning, and the calls with their answers
pub record Book : Type 0 where
  pub earlier : ℕ
  pub opening : Shape
  pub entries : List Entry

abbrev pub book : ℕ → Shape → List Entry → Book
book earlier opening entries = record { earlier = earlier; opening = opening; entries = entries }

-- The entries are these calls, in order.
abbrev pub AreEntries : List Entry → MadeCalls → Type 0
AreEntries [] calls = calls ≡ []
AreEntries (e ∷ entries) calls = (first rest : MadeCalls) × IsEntry e.call e.answer first × (calls ≡ first ++ rest) × AreEntries entries rest

-- the log may have any room
abbrev pub any_room : Event Update → Type 0
any_room change = ⊤

abbrev pub any_room_again : Due → ℕ → Content → Type 0
any_room_again due pid content = ⊤

-- anything may be due after what was written
abbrev pub any_behind : List (Event Update) → Due → Type 0
any_behind changes due = ⊤

-- In state `s`, a cache over some log, in which something may be due, with segments of some size, may give this answer to the call, and then be in
-- state `t`.
abbrev pub StepsTo : ℕ → State → Call → Answer → State → Type 0
StepsTo interval s call answer t =
    (messages : ℕ → ℕ) × (segment_size : ℕ) × (due : Due) × (out : Outcome) × Step (λ due. due) any_room_again messages any_room interval segment_size due any_behind s call answer out × (t ≡ out.state)

-- the same for calls in a row
abbrev pub RunsCalls : ℕ → State → MadeCalls → State → Type 0
RunsCalls interval first [] last = last ≡ first
RunsCalls interval first (made ∷ calls) last = (mid : State) × StepsTo interval first made.0 made.1 mid × RunsCalls interval mid calls last

-- the same for entries in a row
abbrev pub Runs : ℕ → State → List Entry → State → Type 0
Runs interval first [] last = last ≡ first
Runs interval first (e ∷ entries) last =
    (calls : MadeCalls) × (mid : State) × IsEntry e.call e.answer calls × RunsCalls interval first calls mid × Runs interval mid entries last

-- There is a state of the book's opening shape, with no batch open, from which a cache with this interval of ids may give the book's answers in
-- order, and the replay ends in state `last`.
abbrev pub ReplaysTo : ℕ → Book → State → Type 0
ReplaysTo interval b last = (first : State) × (shape_of first ≡ b.opening) × (first.batch ≡ false) × Runs interval first b.entries last

abbrev pub IsLegal : Book → Type 0
IsLegal b = (interval : ℕ) × (last : State) × ReplaysTo interval b last

-- the ids that an entry gives
abbrev pub ids_given : Reply → List ℕ
ids_given (Answered (Generated (Ok id))) = id ∷ []
ids_given answer = []

abbrev pub ids_of : Book → List ℕ
ids_of b = flat_map (λ e. ids_given e.answer) b.entries

-- ascending numbers, none below `low`, and all below `high`
abbrev pub RisesWithin : ℕ → List ℕ → ℕ → Type 0
RisesWithin low [] high = low ≤ high
RisesWithin low (id ∷ ids) high = (low ≤ id) × RisesWithin (id + 1) ids high

-- The shape is that of a state. After a write error, nothing is said of the contents of the pages.
pub record IsShapeOf (s : State) (shape : Shape) : Type 0 where
  pub stamps : map (λ page. page.stamp) shape.pages ≡ map (λ page. page.stamp) s.pages
  pub next : shape.next ≡ s.next
  pub fault : shape.fault ≡ s.fault
  pub is : s.fault ≡ false → shape_of s ≡ shape

-- the first of these books, if there is one, opens in the shape of a state
abbrev pub OpensAs : State → List Book → Type 0
OpensAs s [] = ⊤
OpensAs s (b ∷ books) = IsShapeOf s b.opening

-- The books of one opening: each is legal, and the next one opens in the shape in which the one before it ended.
abbrev pub AreRounds : ℕ → List Book → Type 0
AreRounds interval [] = ⊤
AreRounds interval (b ∷ books) = (last : State) × ReplaysTo interval b last × OpensAs last books × AreRounds interval books
