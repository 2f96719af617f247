-- What the table and the state of a cache hold at an id.
use Rattle.sled_base.proofs.LinkedLists.Linking.{get_set_other, get_set_there}
use Rattle.sled_log.specs.Chains.{is_empty}
use Rattle.sled_log.specs.Contents.{Content}
use Rattle.sled_log.specs.Inside.HoldingLaws.{holds-after}
use Rattle.sled_log.specs.LogState.{LogState, now, unplaced_state}
use Rattle.sled_log.specs.Messages.{Chain, Entry, Messages, effect_of_entry, messages_of}
use Rattle.sled_log.specs.Reading.{Hold, Holds}
use Rattle.sled_log.specs.Inside.UnplacedLaws.{now-unplaced}
use Rattle.sled_pagecache.specs.Logged.{IsLogged, Logged}
use Rattle.sled_pagecache.specs.Inside.PageEntry.{IsKept}
use Rattle.sled_pagecache.specs.Logged.{IsUsers}
use Rattle.sled_pagecache.specs.State.{StampedPage}
use Rattle.sled_pagecache.specs.Step.{is_reserved}
use Rattle.sled_pagecache.specs.declared.pagecache.table.page_entry.Page.{Page as KeptPage}
use Rattle.std.proofs.Common.{List, None, Some, [], ap, arith, false, length, map, refl, slice_get, slice_index_or, slice_set, subst, suc, sym, zero, ℕ, ◌++◌, ◌+◌, ◌<◌, ◌∙◌, ◌∷◌, ◌≡◌, ◌≢◌, ◌≤◌}
use Rattle.std.proofs.Math.ListN.{get_or-map}
use Rattle.std.proofs.lemmas.Bool.{false≢true}
use Rattle.std.proofs.lemmas.List.{set-get_or, length_push}
use Rattle.std.proofs.lemmas.Option.{get_or_from_slice_get, slice_get-map, slice_get_cases, slice_get_past, slice_get_within}
use Rattle.std.specs.List.{AllByRecursion, AllZip}
use Rattle.std.specs.Option.{option_map}
use Rattle.sled_pagecache.proofs.Table.ByIds.{all-by-id, at-id, past-two, zip-second}
use Rattle.sled_pagecache.specs.Logged.{now as held_now}
use Rattle.sled_pagecache.specs.Logged.{AreOwn}
use Rattle.sled_pagecache.specs.Inside.Invariant as table

-- ---- lists

pub map-at : {A B : Type 0} (f : A → B) (xs : List A) (i : ℕ) (x : A) → slice_get xs i ≡ Some x → slice_get (map f xs) i ≡ Some (f x)
map-at f xs i x at = slice_get-map f xs i ∙ ap (option_map f) at

pub set-at : {A : Type 0} (xs : List A) (i : ℕ) (x y : A) → slice_get xs i ≡ Some x → slice_get (slice_set xs i y) i ≡ Some y
set-at xs i x y at = get_set_there xs i y (slice_get_within xs i x at)

pub other-at : {A : Type 0} (xs : List A) (i j : ℕ) (y : A) → j ≢ i → slice_get (slice_set xs i y) j ≡ slice_get xs j
other-at xs i j y apart = get_set_other xs i j y (λ same. apart (sym same))

-- before others, and behind them
pub at-left : {X : Type 0} (xs ys : List X) (i : ℕ) → i < length xs → slice_get (xs ++ ys) i ≡ slice_get xs i
at-left [] ys i within = absurd (omega arith)
at-left (x ∷ xs) ys zero within = refl
at-left (x ∷ xs) ys (suc i) within = at-left xs ys i (omega arith)

pub at-right : {X : Type 0} (xs ys : List X) (i k : ℕ) → k ≡ length xs + i → slice_get (xs ++ ys) k ≡ slice_get ys i
at-right [] ys i k is = ap (slice_get ys) (let e : k ≡ i = omega arith in e)
at-right (x ∷ xs) ys i zero is = absurd (omega arith)
at-right (x ∷ xs) ys i (suc k) is = at-right xs ys i k (omega arith)

pub more-at : {A : Type 0} (xs ys : List A) (i : ℕ) (x : A) → slice_get xs i ≡ Some x → slice_get (xs ++ ys) i ≡ Some x
more-at xs ys i x at = at-left xs ys i (slice_get_within xs i x at) ∙ at

pub other-before : {A : Type 0} (xs : List A) (y : A) (j : ℕ) → j ≢ length xs → slice_get (xs ++ y ∷ []) j ≡ slice_get xs j
other-before xs y j apart = grind (arith, at-left, slice_get_past, length_push)

pub last-at : {A : Type 0} (xs : List A) (y : A) → slice_get (xs ++ y ∷ []) (length xs) ≡ Some y
last-at xs y = at-right xs (y ∷ []) 0 (length xs) (omega arith)

pub past-end : {A : Type 0} (xs : List A) (i : ℕ) → slice_get xs i ≡ None → length xs ≤ i
past-end xs i none = grind (arith, slice_get_cases)

-- what is put back leaves the list
pub put-back : {A : Type 0} (xs : List A) (i : ℕ) (x : A) → slice_get xs i ≡ Some x → slice_set xs i x ≡ xs
put-back xs i x at = ap (λ y. slice_set xs i y) (sym (get_or_from_slice_get xs i x x at)) ∙ set-get_or xs i x

pub all-at : {A : Type 0} (P : A → Type 0) (xs : List A) (i : ℕ) (x : A) → AllByRecursion P xs → slice_get xs i ≡ Some x → P x
all-at P xs i x all at = at-id (λ _. P) xs i x (all-by-id P xs all) at

-- ---- ids

-- a page that isn't reserved comes behind the cache's own
pub behind-own : (pid : ℕ) → is_reserved pid ≡ false → 2 ≤ pid
behind-own pid free = grind arith

-- ---- the table

pub kept-at : (chains : List Chain) (pages : List KeptPage) (pid : ℕ) (q : KeptPage) → AllZip IsKept chains pages → slice_get pages pid ≡ Some q → IsKept (slice_index_or chains pid []) q
kept-at chains pages pid q kept at = zip-second IsKept chains pages pid q [] kept at

pub own-at : (pages : List KeptPage) (pid : ℕ) (q : KeptPage) → table.AreOwn pages → 2 ≤ pid → slice_get pages pid ≡ Some q → table.IsFreeOrNode q.kept
own-at pages pid q own from at = grind (arith, at-id, past-two)

-- ---- the state

pub content-own : (contents : List Content) (pid : ℕ) (content : Content) → AreOwn contents → 2 ≤ pid → slice_get contents pid ≡ Some content → IsUsers content
content-own contents pid content own from at = grind (arith, at-id, past-two)

-- what the log holds now makes the contents of the state
pub holds_now : (state : LogState Entry) (held : Logged) → IsLogged (unplaced_state state) held → Hold (map messages_of (now effect_of_entry state)) (held_now held)
holds_now state held logged =
    subst (λ (l : List (List _)). Hold l (held_now held)) (sym (now-unplaced state))
    (holds-after (unplaced_state state).stable held.stable (unplaced_state state).pending held.pending logged.stable logged.pending)

-- a page of the state holds what its chain makes, or is damaged
pub holds-at : (pages : List StampedPage) (chains : List Chain) (pid : ℕ) (p : StampedPage) → Hold (map messages_of chains) (map (λ (p : StampedPage). p.content) pages)
    → slice_get pages pid ≡ Some p → Holds (messages_of (slice_index_or chains pid [])) p.content
holds-at pages chains pid p hold at =
    subst (λ (t : Messages). Holds t p.content) (get_or-map messages_of chains pid [])
    (zip-second Holds (map messages_of chains) (map (λ (p : StampedPage). p.content) pages) pid p.content [] hold (map-at (λ (p : StampedPage). p.content) pages pid p at))

-- the page stands where its chain isn't empty
pub stands-full : (pages : List StampedPage) (chains : List Chain) (pid : ℕ) → Hold (map messages_of chains) (map (λ (p : StampedPage). p.content) pages)
    → is_empty effect_of_entry (slice_index_or chains pid []) ≡ false → (p : StampedPage) × (slice_get pages pid ≡ Some p)
stands-full [] [] pid hold full = absurd (false≢true (sym full))
stands-full [] (chain ∷ chains) pid hold full = absurd hold
stands-full (p ∷ pages) [] pid hold full = absurd hold
stands-full (p ∷ pages) (chain ∷ chains) zero hold full = (p, refl)
stands-full (p ∷ pages) (chain ∷ chains) (suc pid) hold full = stands-full pages chains pid hold.1 full
