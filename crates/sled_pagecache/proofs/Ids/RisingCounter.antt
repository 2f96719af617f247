-- The counter of generated ids, through changes of pages: what opens behind them begins no lower than before.
use Rattle.sled_pagecache.proofs.Names.{slice_get_within, set-at, AllByRecursion, Content, Counter, Event, List, Put, Update, [], arith, changes_of_start, contents_after, contents_from, drop-nil, first_id, length, refl, slice_get, take, take-append-drop, ℕ, ⊤, ◌*◌, ◌++◌, ◌+◌, ◌<◌, ◌∷◌, ◌≡◌, ◌≤◌, Some, Change, drop, Messages, contents_after-append, SparesCounter, interval_start, more-at, other-at}
use Rattle.sled_pagecache.specs.Logged.{Adds, IsLeft, Logged, now, AreOwn, IsCounter}

-- page 1 holds this counter
abbrev pub CountsTo : List Content → ℕ → Type 0
CountsTo contents n = slice_get contents 1 ≡ Some (Counter n)

-- what opens behind each of these changes begins no lower than what opens before it
abbrev pub Rises : List Content → List (Event Update) → Type 0
Rises contents [] = ⊤
Rises contents (change ∷ changes) = ((interval : ℕ) → first_id interval contents ≤ first_id interval (contents_from contents change)) × Rises (contents_from contents change) changes

pub rises-both : (contents : List Content) (first others : List (Event Update)) → Rises contents first → Rises (contents_after contents first) others → Rises contents (first ++ others)
rises-both contents [] others one two = two
rises-both contents (change ∷ first) others one two = (one.0, rises-both (contents_from contents change) first others one.1 two)

pub rises-parts : (contents : List Content) (first others : List (Event Update)) → Rises contents (first ++ others) → Rises contents first × Rises (contents_after contents first) others
rises-parts contents [] others all = (tt, all)
rises-parts contents (change ∷ first) others all = let (one, two) = rises-parts (contents_from contents change) first others all.1 in ((all.0, one), two)

pub rises-over : (contents : List Content) (changes : List (Event Update)) → Rises contents changes → (interval : ℕ) → first_id interval contents ≤ first_id interval (contents_after contents changes)
rises-over contents [] rises interval = omega arith
rises-over contents (change ∷ changes) rises interval = omega (arith, rises.0 interval, rises-over (contents_from contents change) changes rises.1 interval)

pub first-at : (interval : ℕ) (contents : List Content) (n : ℕ) → CountsTo contents n → first_id interval contents ≡ n + 2 * interval
first-at interval contents n at = grind arith

-- ---- changes of other pages

-- or that put the counter again
abbrev pub Again : ℕ → Update → Type 0
Again n update = update ≡ Put (Counter n)

abbrev pub Spare : ℕ → List (Event Update) → Type 0
Spare n changes = AllByRecursion (SparesCounter (Again n)) changes

spared-one : (contents : List Content) (change : Event Update) (n : ℕ) → SparesCounter (Again n) change → CountsTo contents n → CountsTo (contents_from contents change) n
spared-one contents change n other at = grind (arith, more-at {A = Content}, other-at {A = Content}, set-at {A = Content})

pub spared-counts : (contents : List Content) (changes : List (Event Update)) (n : ℕ) → Spare n changes → CountsTo contents n → CountsTo (contents_after contents changes) n
spared-counts contents [] n others at = at
spared-counts contents (change ∷ changes) n others at = spared-counts (contents_from contents change) changes n others.1 (spared-one contents change n others.0 at)

pub spared-rises : (contents : List Content) (changes : List (Event Update)) (n : ℕ) → Spare n changes → CountsTo contents n → Rises contents changes
spared-rises contents [] n others at = tt
spared-rises contents (change ∷ changes) n others at =
    let then = spared-one contents change n others.0 at in
    (λ interval. omega (arith, first-at interval contents n at, first-at interval (contents_from contents change) n then), spared-rises (contents_from contents change) changes n others.1 then)

-- ---- a counter is put there

pub put-counts : (contents : List Content) (old new : ℕ) → CountsTo contents old → CountsTo (contents_from contents (Change 1 (Put (Counter new)))) new
put-counts contents old new at = grind (arith, slice_get_within contents 1 (Counter old) at, set-at contents 1 (Counter old) (Counter new) at)

pub put-rises : (contents : List Content) (old new : ℕ) → CountsTo contents old → old ≤ new → Rises contents (Change 1 (Put (Counter new)) ∷ [])
put-rises contents old new h1 h2 = grind arith

-- the start of a later interval isn't below a number of an earlier one
pub start-above : (interval counter next : ℕ) → interval_start interval counter < interval_start interval next → counter ≤ interval_start interval next
start-above interval counter next h1 = grind arith

-- ---- the changes of an opening

pub start-rises : (contents : List Content) → Rises contents (changes_of_start contents)
start-rises [] = (λ interval. omega arith, (λ interval. omega arith, tt))
start-rises (x ∷ []) = (λ interval. omega arith, tt)
start-rises (x ∷ y ∷ contents) = rw (drop-nil {A = Event Update} (length contents)) tt

is-counter : (y : Content) → IsCounter y → (n : ℕ) × (Some y ≡ Some (Counter n))
is-counter (Counter n) is = (n, refl)
is-counter y is = absurd is

pub start-counts : (contents : List Content) → AreOwn contents → (n : ℕ) × CountsTo (contents_after contents (changes_of_start contents)) n
start-counts [] own = (0, refl)
start-counts (x ∷ []) own = (0, refl)
start-counts (x ∷ y ∷ contents) own = rw (drop-nil {A = Event Update} (length contents)) (is-counter y (own 1))

-- ---- what a log holds, and what a crash leaves of it

-- with an interval of at least that, what opens over such pages begins at a bound or above
abbrev pub BeginsAbove : ℕ → ℕ → List Content → Type 0
BeginsAbove least bound contents = (interval : ℕ) → least ≤ interval → bound ≤ first_id interval contents

-- so does what opens over such a log, however many of its pending changes have come
pub record IsSafe (least bound : ℕ) (held : Logged) : Type 0 where
  pub rises : Rises held.stable held.pending
  pub above : BeginsAbove least bound held.stable

pub now-added : (held new : Logged) (changes : List (Event Update)) → Adds held changes new → now new ≡ contents_after (now held) changes
now-added held new changes added =
    let all = held.pending ++ changes in
    rw (added.stable, added.pending, ← contents_after-append held.stable (take added.cut all) (drop added.cut all), take-append-drop added.cut all) (contents_after-append held.stable held.pending changes)

module _ (least bound : ℕ) (held : Logged) (safe : IsSafe least bound held) (changes : List (Event Update)) (rises : Rises (now held) changes) where
  rises-cut : (cut : ℕ) → (let part = take cut (held.pending ++ changes) in Rises held.stable part × Rises (contents_after held.stable part) (drop cut (held.pending ++ changes)))
  rises-cut cut =
      rises-parts held.stable (take cut (held.pending ++ changes)) (drop cut (held.pending ++ changes)) (rw take-append-drop (rises-both held.stable held.pending changes safe.rises rises))

  above-cut : (cut : ℕ) → BeginsAbove least bound (contents_after held.stable (take cut (held.pending ++ changes)))
  above-cut cut interval wide = omega (arith, safe.above interval wide, rises-over held.stable (take cut (held.pending ++ changes)) (rises-cut cut).0 interval)

  pub safe-added : (new : Logged) → Adds held changes new → IsSafe least bound new
  safe-added new added = record { rises = rw (added.stable, added.pending) (rises-cut added.cut).1; above = rw added.stable (above-cut added.cut) }

-- so does what opens over a crash state
pub safe-crash : (least bound : ℕ) (held : Logged) → IsSafe least bound held → (changes : List (Event Update)) → Rises (now held) changes
    → (pages : List Messages) → (left : IsLeft held changes pages) → BeginsAbove least bound (contents_after held.stable (take left.cut (held.pending ++ left.came)))
safe-crash least bound held safe changes rises pages left =
    above-cut least bound held safe left.came (rises-parts (now held) left.came left.beginning.0 (rw left.beginning.1 rises)).0 left.cut
