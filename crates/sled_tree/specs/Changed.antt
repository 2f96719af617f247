-- What reading does, and what one change of a page does.
use Rattle.std.specs.Prelude.{◌≡◌, ◌⊎◌, ◌≤◌, ℕ, true, List, [], ◌∷◌, length, Some, Result, Ok, Err, IfOk, slice_get, ⊤}
use Rattle.sled_log.specs.Contents.{Content, Free, Update, contents_from}
use Rattle.sled_pagecache.specs.Step.{Swapped}
use Rattle.sled_log.specs.Events.{Event}
use Rattle.sled_pagecache.specs.State.{State, contents_of}

-- The call writes nothing and changes no page. The pages and the answer meet the condition.
pub record Reads {T E : Type 0} (result : Result T E) (Is : List Content → T → Type 0) (s : State) (events : List (Event Update)) (t : State) : Type 0 where
  pub none : events ≡ []
  pub same : contents_of t ≡ contents_of s
  pub stuck : s.fault ≡ true → t ≡ s
  pub is : IfOk result (λ answer. (t ≡ s) × Is (contents_of s) answer)

-- each of these events leaves the pages as they are
abbrev pub LeaveSame : List Content → List (Event Update) → Type 0
LeaveSame pages [] = ⊤
LeaveSame pages (event ∷ events) = (contents_from pages event ≡ pages) × LeaveSame pages events

-- No page changes, not after any of the events either. After a write error nothing is written.
pub record LeavesPages (s : State) (events : List (Event Update)) (t : State) : Type 0 where
  pub same : contents_of t ≡ contents_of s
  pub leave : LeaveSame (contents_of s) events
  pub stuck : s.fault ≡ true → (events ≡ []) × (t.fault ≡ true)

-- the first of these events makes the changed pages, and the events after it leave these as they are
abbrev pub Makes : List Content → List Content → List (Event Update) → Type 0
Makes pages changed [] = ⊥
Makes pages changed (event ∷ events) = (contents_from pages event ≡ changed) × LeaveSame changed events

-- The change is made.
abbrev pub Made : State → List Content → List (Event Update) → State → Type 0
Made s changed events t = Makes (contents_of s) changed events × (contents_of t ≡ changed)

-- No page changes. Either nothing was written, or the change was, and a write failed; this error is sticky.
abbrev pub Unmade : State → List Content → List (Event Update) → State → Type 0
Unmade s changed events t = (contents_of t ≡ contents_of s) × ((events ≡ []) ⊎ (Makes (contents_of s) changed events × (t.fault ≡ true)))

abbrev pub Ends : {T E : Type 0} → Result T E → State → List Content → List (Event Update) → State → Type 0
Ends (Ok answer) s changed events t = Made s changed events t
Ends (Err e) s changed events t = Unmade s changed events t

-- the same for a swap, which may also fail and return the current token, or none
abbrev pub EndsSwap : {R : Type 0} → Swapped R → State → List Content → List (Event Update) → State → Type 0
EndsSwap (Ok (Ok made)) s changed events t = Made s changed events t
EndsSwap (Ok (Err back)) s changed events t = (contents_of t ≡ contents_of s) × (events ≡ [])
EndsSwap (Err e) s changed events t = Unmade s changed events t

-- a page that is free, or the next new one
pub record Adds (pages : List Content) (pid : ℕ) : Type 0 where
  pub free : (content : Content) → slice_get pages pid ≡ Some content → content ≡ Free
  pub place : pid ≤ length pages
