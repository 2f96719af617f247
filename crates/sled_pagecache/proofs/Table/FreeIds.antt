-- The ids of the free pages, where one is put in and taken out again.
use Rattle.sled_pagecache.proofs.Names.{◌≡◌, ◌≢◌, ◌≤◌, ◌<◌, ◌+◌, ℕ, zero, suc, Bool, true, false, cond, List, [], ◌∷◌, ◌++◌, Some, slice_get, slice_set, arith, none-some, same_Some, AllByRecursion, refl, is_free, free_ids, Page, insert_key, nat_cmp}
use Rattle.std.specs.BTreeMap.{is_at}
use Rattle.std.specs.Set.{remove_key}

-- ---- lists of ids

weaker : (P Q : ℕ → Type 0) → ((id : ℕ) → P id → Q id) → (ids : List ℕ) → AllByRecursion P ids → AllByRecursion Q ids
weaker P Q into [] all = tt
weaker P Q into (id ∷ ids) all = (into id all.0, weaker P Q into ids all.1)

-- an id is one of them if its page is free
each : (P : ℕ → Type 0) (free : Bool) (n : ℕ) (ids : List ℕ) → (free ≡ true → P n) → AllByRecursion P ids → AllByRecursion P (cond free (n ∷ ids) ids)
each P free n ids here all = grind arith

-- an id that is put among others and taken out leaves them
pub back : (pid : ℕ) (ids : List ℕ) → AllByRecursion (λ id. id ≢ pid) ids → remove_key (is_at (nat_cmp pid)) (insert_key nat_cmp ids pid) ≡ ids
back pid [] lacks = grind arith
back pid (id ∷ ids) lacks = let rest = back pid ids lacks.1 in grind arith

-- one that is greater than all stands behind them
pub behind : (pid : ℕ) (ids : List ℕ) → AllByRecursion (λ id. id < pid) ids → insert_key nat_cmp ids pid ≡ ids ++ pid ∷ []
behind pid [] less = refl
behind pid (id ∷ ids) less = let rest = behind pid ids less.1 in grind arith

pub later : (pid : ℕ) (ids : List ℕ) → AllByRecursion (λ id. id < pid) ids → AllByRecursion (λ id. id < pid + 1) ids
later pid = weaker (λ id. id < pid) (λ id. id < pid + 1) (λ id less. omega (arith, less))

-- ---- the ids of pages of which the first has the id n

all-from : (n m : ℕ) (pages : List Page) → n ≤ m → AllByRecursion (λ id. n ≤ id) (free_ids m pages)
all-from n m [] le = tt
all-from n m (p ∷ pages) le = each (λ id. n ≤ id) (is_free p.kept) m (free_ids (m + 1) pages) (λ _. le) (all-from n (m + 1) pages (omega (arith, le)))

first : (n : ℕ) (ids : List ℕ) → AllByRecursion (λ id. n + 1 ≤ id) ids → insert_key nat_cmp ids n ≡ n ∷ ids
first n [] past = refl
first n (id ∷ ids) past = grind arith

-- the id of a page that isn't free is none of them
lacks-full : (n : ℕ) (pages : List Page) (place pid : ℕ) (q : Page) → pid ≡ n + place → slice_get pages place ≡ Some q → is_free q.kept ≡ false → AllByRecursion (λ id. id ≢ pid) (free_ids n pages)
lacks-full n [] place pid q is at full = tt
lacks-full n (p ∷ pages) zero pid q is at full =
    rw (same_Some p q at, full) (weaker (λ id. n + 1 ≤ id) (λ id. id ≢ pid) (λ id le same. omega (arith, is, le, same)) (free_ids (n + 1) pages) (all-from (n + 1) (n + 1) pages (omega arith)))
lacks-full n (p ∷ pages) (suc place) pid q is at full =
    each (λ id. id ≢ pid) (is_free p.kept) n (free_ids (n + 1) pages) (λ _ same. omega (arith, is, same)) (lacks-full (n + 1) pages place pid q (omega (arith, is)) at full)

-- where it is freed, it is put among them
freed-ids : (n : ℕ) (pages : List Page) (place pid : ℕ) (q page : Page) → pid ≡ n + place → slice_get pages place ≡ Some q → is_free q.kept ≡ false → is_free page.kept ≡ true
    → insert_key nat_cmp (free_ids n pages) pid ≡ free_ids n (slice_set pages place page)
freed-ids n [] place pid q page is at full free = absurd (none-some q at)
freed-ids n (p ∷ pages) zero pid q page is at full free =
    let same : pid ≡ n = omega (arith, is) in
    rw (same_Some p q at, full, free, same) (first n (free_ids (n + 1) pages) (all-from (n + 1) (n + 1) pages (omega arith)))
freed-ids n (p ∷ pages) (suc place) pid q page is at full free = let rest = freed-ids (n + 1) pages place pid q page (omega (arith, is)) at full free in grind arith

-- the same of all pages
pub lacks-at : (pages : List Page) (ids : List ℕ) (pid : ℕ) (q : Page) → ids ≡ free_ids 0 pages → slice_get pages pid ≡ Some q → is_free q.kept ≡ false → AllByRecursion (λ id. id ≢ pid) ids
lacks-at pages ids pid q is at full = rw is (lacks-full 0 pages pid pid q (omega arith) at full)

pub freed-at : (pages : List Page) (ids : List ℕ) (pid : ℕ) (q page : Page) → ids ≡ free_ids 0 pages → slice_get pages pid ≡ Some q → is_free q.kept ≡ false → is_free page.kept ≡ true
    → insert_key nat_cmp ids pid ≡ free_ids 0 (slice_set pages pid page)
freed-at pages ids pid q page is at full free = rw is (freed-ids 0 pages pid pid q page (omega arith) at full free)
