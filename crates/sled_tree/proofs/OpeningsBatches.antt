-- A batch of deeds survives whole or not at all.
use Rattle.std.proofs.Common.{◌≡◌, ◌⊎◌, inl, inr, ◌<◌, ◌≤◌, ◌+◌, ◌-◌, ℕ, zero, suc, true, false, List, [], ◌∷◌, ◌++◌, length, length-append, take, drop, refl, sym, ◌∙◌, ap, subst, arith}
use Rattle.std.specs.List.{AllByRecursion}
use Rattle.std.proofs.lemmas.Bool.{cases_lt, false≢true}
use Rattle.std.proofs.lemmas.List.{append_assoc, take-append-le}
use Rattle.std.proofs.Math.Seq.{take-append-add, drop-append-add}
use Rattle.sled_log.specs.Contents.{Content, Update}
use Rattle.sled_log.specs.Events.{Event, Change, Pin, Seal, Cancel, IsFair, open_after, is_open, is_cancelled}
use Rattle.sled_log.specs.Inside.Laws.{open_after-append}
use Rattle.sled_search.specs.Calls.{Call as Done, changes_of}
use Rattle.sled_tree.specs.Named.{Named}
use Rattle.sled_tree.specs.Prefixes.{History, Survives, IsNoMark}

-- ---- changes without marks

open-still : (us : List (Event Update)) (k : ℕ) → AllByRecursion IsNoMark us → open_after true (take k us) ≡ true
open-still us zero none = refl
open-still [] (suc k) none = refl
open-still (Change id said ∷ us) (suc k) none = open-still us k none.1
open-still (Pin ∷ us) (suc k) none = absurd none.0
open-still (Seal ∷ us) (suc k) none = absurd none.0
open-still (Cancel ∷ us) (suc k) none = absurd none.0

sealed-behind : (us vs : List (Event Update)) (k : ℕ) → AllByRecursion IsNoMark us → k ≤ length us → is_cancelled (drop k (us ++ Seal ∷ vs)) ≡ false
sealed-behind [] vs zero none le = refl
sealed-behind [] vs (suc k) none le = absurd (omega arith)
sealed-behind (Change id said ∷ us) vs zero none le = sealed-behind us vs zero none.1 (omega arith)
sealed-behind (Change id said ∷ us) vs (suc k) none le = sealed-behind us vs k none.1 (omega arith)
sealed-behind (Pin ∷ us) vs k none le = absurd none.0
sealed-behind (Seal ∷ us) vs k none le = absurd none.0
sealed-behind (Cancel ∷ us) vs k none le = absurd none.0

-- no fair cut is inside
module _ (us vs behind : List (Event Update)) (none : AllByRecursion IsNoMark vs) where
  abbrev all : List (Event Update)
  all = us ++ Pin ∷ (vs ++ Seal ∷ behind)

  not-inside : (k : ℕ) → k ≤ length vs → IsFair all (length us + suc k) → ⊥
  not-inside k le fair = false≢true (sym (sealed-behind vs behind k none le) ∙ (sym (ap is_cancelled rest) ∙ fair.no_part (ap is_open first ∙ opened)))
    where
      first : take (length us + suc k) all ≡ us ++ Pin ∷ take k vs
      first = take-append-add us (Pin ∷ (vs ++ Seal ∷ behind)) (suc k) ∙ ap (λ (es : List (Event Update)). us ++ Pin ∷ es) (take-append-le k vs (Seal ∷ behind) le)

      rest : drop (length us + suc k) all ≡ drop k (vs ++ Seal ∷ behind)
      rest = drop-append-add us (Pin ∷ (vs ++ Seal ∷ behind)) (suc k)

      opened : is_open (us ++ Pin ∷ take k vs) ≡ true
      opened = open_after-append false us (Pin ∷ take k vs) ∙ open-still vs k none

  outside : (cut : ℕ) → IsFair all cut → (cut ≤ length us) ⊎ (length us + length vs + 2 ≤ cut)
  outside cut fair = by (cases_lt (length us) cut)
    where
      within : length us < cut → (length vs < cut - length us - 1) ⊎ (cut - length us - 1 ≤ length vs) → (cut ≤ length us) ⊎ (length us + length vs + 2 ≤ cut)
      within more (inl far) = inr (omega arith)
      within more (inr near) =
          let same : length us + suc (cut - length us - 1) ≡ cut = omega arith in
          absurd (not-inside (cut - length us - 1) near (subst (IsFair all) (sym same) fair))

      by : (length us < cut) ⊎ (cut ≤ length us) → (cut ≤ length us) ⊎ (length us + length vs + 2 ≤ cut)
      by (inl more) = within more (cases_lt (length vs) (cut - length us - 1))
      by (inr few) = inl few

-- ---- the deeds

changes-append : (xs ys : List (Done Named)) → changes_of (xs ++ ys) ≡ changes_of xs ++ changes_of ys
changes-append [] ys = refl
changes-append (x ∷ xs) ys = ap (λ (es : List (Event Update)). x.0 ++ es) (changes-append xs ys) ∙ sym (append_assoc x.0 (changes_of xs) (changes_of ys))

module _ (before batch behind : List (Done Named)) (opened sealed : Named) where
  abbrev pub deeds : List (Done Named)
  deeds = before ++ (Pin ∷ [], opened) ∷ (batch ++ (Seal ∷ [], sealed) ∷ behind)

  changes-are : changes_of deeds ≡ changes_of before ++ Pin ∷ (changes_of batch ++ Seal ∷ changes_of behind)
  changes-are = changes-append before _ ∙ ap (λ (es : List (Event Update)). changes_of before ++ Pin ∷ es) (changes-append batch ((Seal ∷ [], sealed) ∷ behind))

  -- up to the opening, and up to the sealing
  to-opening : take (length before + 1) deeds ≡ before ++ (Pin ∷ [], opened) ∷ []
  to-opening = take-append-add before _ 1

  to-sealing : take (length before + suc (length batch + 1)) deeds ≡ before ++ (Pin ∷ [], opened) ∷ (batch ++ (Seal ∷ [], sealed) ∷ [])
  to-sealing = take-append-add before _ (suc (length batch + 1)) ∙ ap (λ (xs : List (Done Named)). before ++ (Pin ∷ [], opened) ∷ xs) (take-append-add batch ((Seal ∷ [], sealed) ∷ behind) 1)

  long-opening : length (changes_of (before ++ (Pin ∷ [], opened) ∷ [])) ≡ length (changes_of before) + 1
  long-opening = ap length (changes-append before ((Pin ∷ [], opened) ∷ [])) ∙ length-append (changes_of before) (Pin ∷ [])

  long-sealing : length (changes_of (before ++ (Pin ∷ [], opened) ∷ (batch ++ (Seal ∷ [], sealed) ∷ []))) ≡ length (changes_of before) + (length (changes_of batch) + 2)
  long-sealing =
      let rest = ap length (changes-append batch ((Seal ∷ [], sealed) ∷ [])) ∙ length-append (changes_of batch) (Seal ∷ []) in
      ap length (changes-append before ((Pin ∷ [], opened) ∷ (batch ++ (Seal ∷ [], sealed) ∷ []))) ∙ length-append (changes_of before) (Pin ∷ changes_of (batch ++ (Seal ∷ [], sealed) ∷ [])) ∙ omega (arith, rest)

  long-deeds : length deeds ≡ length before + (length batch + 2) + length behind
  long-deeds =
      let one = length-append before ((Pin ∷ [], opened) ∷ (batch ++ (Seal ∷ [], sealed) ∷ behind)) in
      let two = length-append batch ((Seal ∷ [], sealed) ∷ behind) in
      omega (arith, one, two)

  pub whole-or-not : (h : History) → h.done ≡ deeds → AllByRecursion IsNoMark (changes_of batch) → (pages : List Content) (w : Named) (survives : Survives h pages w)
      → (survives.prefix.count ≤ length before + 1) ⊎ (length before + length batch + 2 ≤ survives.prefix.count)
  whole-or-not h are none pages w survives = by (outside (changes_of before) (changes_of batch) (changes_of behind) none survives.cut (subst (λ (es : List (Event Update)). IsFair es survives.cut) (ap changes_of are ∙ changes-are) survives.fair))
    where
      long : length h.done ≡ length before + (length batch + 2) + length behind
      long = ap length are ∙ long-deeds

      first : length (changes_of (take (length before + 1) h.done)) ≡ length (changes_of before) + 1
      first = ap (λ (xs : List (Done Named)). length (changes_of (take (length before + 1) xs))) are ∙ ap (λ (xs : List (Done Named)). length (changes_of xs)) to-opening ∙ long-opening

      all : length (changes_of (take (length before + suc (length batch + 1)) h.done)) ≡ length (changes_of before) + (length (changes_of batch) + 2)
      all = ap (λ (xs : List (Done Named)). length (changes_of (take (length before + suc (length batch + 1)) xs))) are ∙ ap (λ (xs : List (Done Named)). length (changes_of xs)) to-sealing ∙ long-sealing

      by : (survives.cut ≤ length (changes_of before)) ⊎ (length (changes_of before) + length (changes_of batch) + 2 ≤ survives.cut) → (survives.prefix.count ≤ length before + 1) ⊎ (length before + length batch + 2 ≤ survives.prefix.count)
      by (inl few) = inl (survives.prefix.begun (length before + 1) (let l = long in omega arith) (let l = first in omega arith))
      by (inr more) = inr (let least = survives.prefix.whole (length before + suc (length batch + 1)) (let l = long in omega arith) (let l = all in omega arith) in omega arith)
