-- The changes of a batch, one by one.
use Rattle.std.proofs.Common.{◌≡◌, ℕ, ◌≤◌, ◌<◌, List, [], ◌∷◌, ◌++◌, arith, length, drop, get_or, drop-cons, refl, ap, sym, ◌∙◌}
use Rattle.std.specs.Prelude.{Option, Some, None}
use Rattle.std.specs.List.{AllByRecursion}
use Rattle.sled_disk.specs.declared.recovery.head.Head.{Head}
use Rattle.sled_disk.specs.Format.{◌>>=◌}
use Rattle.sled_disk.specs.RecoveredHeads.{AreHeadsBy}
use Rattle.sled_disk.specs.Reading.{step_head}
use Rattle.sled_disk.specs.StepLaws.{changing}
use Rattle.sled_disk.specs.BatchChanges.{taken_by, IsChanging, IsWaiting}
use Rattle.sled_disk.proofs.Chains.ChainHeads.{heads-taken}

-- the first of them
pub taken-first : (chains : List (List Head)) (page : ℕ) (head : Head) (rest : List (ℕ × Head)) → IsChanging (page, head) → taken_by chains ((page, head) ∷ rest) ≡ (step_head chains page head >>= λ t. taken_by t rest)
taken-first chains page head rest is = ap (λ (x : Option (List (List Head))). x >>= λ t. taken_by t rest) (sym ((changing head.kind is).stands chains page head refl))

pub taken-on : (chains after : List (List Head)) (page : ℕ) (head : Head) (rest : List (ℕ × Head)) → IsChanging (page, head) → step_head chains page head ≡ Some after → taken_by after rest ≡ taken_by chains ((page, head) ∷ rest)
taken-on chains after page head rest is made = sym (taken-first chains page head rest is ∙ ap (λ (x : Option (List (List Head))). x >>= λ t. taken_by t rest) made)

pub taken-none : (chains : List (List Head)) (page : ℕ) (head : Head) (rest : List (ℕ × Head)) → IsChanging (page, head) → step_head chains page head ≡ None → taken_by chains ((page, head) ∷ rest) ≡ None
taken-none chains page head rest is none = taken-first chains page head rest is ∙ ap (λ (x : Option (List (List Head))). x >>= λ t. taken_by t rest) none

-- all that wait are changes
pub are-changing : (end : ℕ) (changes : List (ℕ × Head)) → AllByRecursion (IsWaiting end) changes → AllByRecursion IsChanging changes
are-changing end [] all = tt
are-changing end (change ∷ changes) all = (all.0.0, are-changing end changes all.1)

-- the front of a queue, and those behind it
pub front-is : (changes : List (ℕ × Head)) (first : ℕ × Head) (page : ℕ) (head : Head) → 0 < length changes → first ≡ get_or changes 0 first → first.0 ≡ page → first.1 ≡ head → changes ≡ (page, head) ∷ drop 1 changes
front-is changes first page head some at page_is head_is =
    drop-cons changes 0 first some
    ∙ ap (λ (x : ℕ × Head). x ∷ drop 1 changes) (sym at)
    ∙ ap (λ n. (n, first.1) ∷ drop 1 changes) page_is
    ∙ ap (λ (h : Head). (page, h) ∷ drop 1 changes) head_is

-- the heads with one that was taken
pub heads-on : (end : ℕ) (chains after : List (List Head)) (page : ℕ) (head : Head) (rest : List (ℕ × Head)) → AllByRecursion (IsWaiting end) ((page, head) ∷ rest) → step_head chains page head ≡ Some after → AllByRecursion (AreHeadsBy end) chains → AllByRecursion (AreHeadsBy end) after
heads-on end chains after page head rest all made h = heads-taken end chains after page head made all.0.1 h

pub waiting-later : (end later : ℕ) (changes : List (ℕ × Head)) → end ≤ later → AllByRecursion (IsWaiting end) changes → AllByRecursion (IsWaiting later) changes
waiting-later end later [] le all = tt
waiting-later end later (change ∷ changes) le all = let first = all.0.1 in ((all.0.0, omega (arith, first, le)), waiting-later end later changes le all.1)

-- one more
pub waiting-more : (end : ℕ) (changes : List (ℕ × Head)) (change : ℕ × Head) → AllByRecursion (IsWaiting end) changes → IsWaiting end change → AllByRecursion (IsWaiting end) (changes ++ change ∷ [])
waiting-more end [] change all is = (is, tt)
waiting-more end (first ∷ changes) change all is = (all.0, waiting-more end changes change all.1 is)
