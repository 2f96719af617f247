-- A page cache with the book of its calls, and what a call does to them.
use Rattle.std.specs.Prelude.{◌≡◌, ◌==◌, ℕ, ◌+◌, ◌-◌, ◌^◌, ◌<◌, ◌∷◌, [], ◌++◌, ◌||◌, ◌⊎◌, Bool, false, List, All, MatchBool, length, map, nat_le}
use Rattle.sled_base.specs.declared.types.Error.TheVariants.{Unsupported, OutOfMemory}
use Rattle.sled_base.specs.declared.types.Why.TheVariants.{BookFull}
use Rattle.sled_log.specs.declared.log.Log.{Ghosts}
use Rattle.sled_pagecache.specs.Cache.{Cache, Represents}
use Rattle.sled_pagecache.specs.Logged.{Logged}
use Rattle.sled_pagecache.specs.Rows.{AreMade, StepInRow}
use Rattle.sled_pagecache.specs.Shapes.{Shows}
use Rattle.sled_pagecache.specs.State.{State}
use Rattle.sled_pagecache.specs.Trees.{IsKnown, MadeCalls}
use Rattle.sled_shared.specs.Book.{Book, book, AreEntries, IsShapeOf, ReplaysTo}
use Rattle.sled_shared.specs.Calls.{Entry, IsEntry, IsRefusal, Reply, Request, entry}
use Rattle.sled_shared.specs.History.{HasAll, Line, Writes, written_by}

-- the value of the locked object in contracts: the cache, the book, its limit, and the numbers of shares given out and left
pub record Held (L : Type 0) : Type 0 where
  pub cache : Cache L
  pub book : Book
  pub limit : ℕ
  pub given : ℕ
  pub left : ℕ

abbrev pub held : {L : Type 0} → Cache L → Book → ℕ → ℕ → ℕ → Held L
held cache b limit given left = record { cache = cache; book = b; limit = limit; given = given; left = left }

-- an entry of the history, and the number of the share that made the call
abbrev pub Told : Type 0
Told = Line Entry

-- The value of a share in contracts: its number, and what it has seen of the one history of all shares.
pub record Share : Type 0 where
  pub number : ℕ
  pub seen : List Told

abbrev pub share : ℕ → List Told → Share
share number seen = record { number = number; seen = seen }

-- The value in contracts of a ledger and a history that no cache uses yet: the ledger's name and parts, and the history's name.
pub record Blank : Type 0 where
  pub name : ℕ
  pub parts : ℕ
  pub history : ℕ

abbrev pub blank : ℕ → ℕ → ℕ → Blank
blank name parts history = record { name = name; parts = parts; history = history }

-- the number of calls of the share that were entered
abbrev pub count_of : Share → ℕ
count_of s = length (written_by s.number s.seen)

-- The call was entered for the share with this answer. It is the last entry that the share has seen, after all that it had seen before and what
-- others did since then, and it is the share's only new call.
abbrev pub HasTold : Share → Entry → Share → Type 0
HasTold s e t = (t.number ≡ s.number) × Writes s.number s.seen e t.seen

-- The history has the entries of the earlier books, and then these.
pub record IsHistoryOf (log : List Told) (earlier : ℕ) (entries : List Entry) : Type 0 where
  pub before : List Entry
  pub many : length before ≡ earlier
  pub all : map (λ line. line.1) log ≡ before ++ entries

-- The history has the name that its shares know, and these entries.
pub record IsKept (known name : ℕ) (log : List Told) (earlier : ℕ) (entries : List Entry) : Type 0 where
  pub named : name ≡ known
  pub of : IsHistoryOf log earlier entries

-- There is one history that ends with the book's entries. Each of the shares has seen a prefix of it, with all calls that the share made.
abbrev pub AreOfBook : List Share → Book → Type 0
AreOfBook shares b = (log : List Told) × IsHistoryOf log b.earlier b.entries × All (λ s. HasAll s.number s.seen log) shares

-- the number of calls that were entered since the opening
abbrev pub calls_of : Book → ℕ
calls_of b = b.earlier + length b.entries

module _ {L : Type 0} (g : Ghosts L) (known : Type 0) where
  -- The book is one of this cache: its calls were made one after another, on a cache that had its opening shape, and they left this cache.
  pub record IsBookOf (b : Book) (cache : Cache L) : Type 0 where
    pub opened : Cache L
    pub shows : Shows g opened b.opening
    pub closed : opened.batch ≡ false
    pub state : known → g.tells → IsKnown g opened
    pub calls : MadeCalls
    pub are : AreEntries b.entries calls
    pub made : AreMade g opened calls cache

  -- The invariant of the type. The ledger's total is the number of calls, and the shares that were given out have all of it, with one part each.
  pub record IsSound (h : Held L) (total parts amount all : ℕ) : Type 0 where
    pub of : IsBookOf h.book h.cache
    pub closed : h.cache.batch ≡ false
    pub counted : total ≡ calls_of h.book
    pub fits : calls_of h.book < 2 ^ 64
    pub left : parts ≡ h.left
    pub idle : amount ≡ 0
    pub some : 0 < h.left
    pub whole : h.left + h.given ≡ all
    pub bounded : all < 2 ^ 64

-- The book is legal, by a replay that ends in a state that the cache has.
abbrev pub ReplaysIn : {L : Type 0} → Ghosts L → Book → Cache L → Type 0
ReplaysIn g b cache = (at : Logged) × (last : State) × Represents g cache at last × ReplaysTo cache.config.idgen_persist_interval b last

-- The same, and the next book opens in the shape of that state.
abbrev pub EndsBefore : {L : Type 0} → Ghosts L → Book → Cache L → Book → Type 0
EndsBefore g b cache next = (at : Logged) × (last : State) × Represents g cache at last × ReplaysTo cache.config.idgen_persist_interval b last × IsShapeOf last next.opening

-- the book has no room for a call: it is at its limit, or the number of calls would be above the greatest u64
abbrev pub is_full : {L : Type 0} → Held L → Bool
is_full h = nat_le h.limit (length h.book.entries) || (calls_of h.book == 2 ^ 64 - 1)

-- the book with one entry more
abbrev pub with_entry : Book → Request → Reply → Book
with_entry b call answer = book b.earlier b.opening (b.entries ++ entry call answer ∷ [])

module _ {L : Type 0} (g : Ghosts L) where
  -- The call is one entry of the book, and counts in the caller's share. It makes calls of the cache, one after another. These are steps from any
  -- state that the cache may have, and a crash at any moment of them leaves a prefix of what they write. Nothing else changes.
  pub record IsEntered (old : Held L) (mine : Share) (call : Request) (answer : Reply) (new : Held L) (mine' : Share) : Type 0 where
    pub calls : MadeCalls
    pub are : IsEntry call answer calls
    pub made : AreMade g old.cache calls new.cache
    pub row : StepInRow g old.cache calls new.cache
    pub entered : new.book ≡ with_entry old.book call answer
    pub told : HasTold mine (entry call answer) mine'
    pub rest : (new.limit ≡ old.limit) × (new.given ≡ old.given) × (new.left ≡ old.left)

  -- The call is left out: nothing changes, and it is refused.
  abbrev pub IsLeftOut : Held L → Share → Type 0 → Held L → Share → Type 0
  IsLeftOut old mine refused new mine' = (new ≡ old) × (mine' ≡ mine) × refused

  -- If the book is full, the call is left out. Otherwise it is entered, unless there is no memory for the entry.
  abbrev pub Serves : Held L → Share → Request → Reply → Held L → Share → Type 0
  Serves old mine call answer new mine' =
      MatchBool (is_full old)
      (IsLeftOut old mine (IsRefusal answer (Unsupported BookFull)) new mine')
      (IsEntered old mine call answer new mine' ⊎ IsLeftOut old mine (IsRefusal answer OutOfMemory) new mine')

-- A new round: the book opens with the cache's shape, after the calls of the books before it.
pub record IsNewRound {L : Type 0} (g : Ghosts L) (earlier : ℕ) (cache : Cache L) (b : Book) : Type 0 where
  pub behind : b.earlier ≡ earlier
  pub shows : Shows g cache b.opening
  pub none : b.entries ≡ []

-- What a caller of the shared cache knows of its call: it was entered for its share with the answer that the caller got. Only if the answer is
-- `BookFull` or `OutOfMemory`, it may have been left out.
abbrev pub Tells : Share → Request → Reply → Share → Type 0
Tells mine call answer mine' = HasTold mine (entry call answer) mine' ⊎ ((mine' ≡ mine) × (IsRefusal answer (Unsupported BookFull) ⊎ IsRefusal answer OutOfMemory))
