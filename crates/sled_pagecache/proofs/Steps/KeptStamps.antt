-- What a call keeps, by what it appended to its log.
use Rattle.sled_pagecache.proofs.Names.{◌≡◌, ◌<◌, ℕ, true, false, List, [], ◌∷◌, ◌++◌, length, Some, Result, Ok, Err, slice_get, slice_set, refl, arith, eq-eqb, ne_eqb, length-map, map-append, map-set, slice_get_within, error_of, Write, Error, Refusal, Keeps, stamps_with, Cache, stamps_in, Token, token, Page, met_fault, map-at, set-at, last-at}
use Rattle.sled_base.specs.declared.types.Error.TheVariants as errors
use Rattle.sled_pagecache.specs.Answers.{is_write_fault}

pub fault-same : (T U : Type 0) (refusal : Refusal) → (let err : Result T Refusal = Err refusal in met_fault err) ≡ (let answer : Result U Error = Err (error_of refusal) in is_write_fault answer)
fault-same T U refusal = grind arith

module _ {L T : Type 0} (old new : Cache L) (stamps : T → List ℕ) where
  -- with a write fault kept
  pub keeps-stuck : old.fault ≡ true → new ≡ old → Keeps old new (Err (errors.Io Write)) stamps
  keeps-stuck kept same = rw same (record { batch = refl; fault = rw kept refl; stuck = λ _. (refl, refl); done = tt; refused = refl })

  -- refused by what a log, or the cache, answers
  pub keeps-err : (U : Type 0) (refusal : Refusal) → old.fault ≡ false → (let err : Result U Refusal = Err refusal in new.fault ≡ met_fault err) → new.stamps ≡ old.stamps → new.batch ≡ old.batch
      → Keeps old new (Err (error_of refusal)) stamps
  keeps-err U refusal ready fault same batch = grind (arith, fault-same U T refusal)

  -- done
  pub keeps-ok : (answer : T) → old.fault ≡ false → new.fault ≡ false → new.stamps ≡ stamps answer → new.batch ≡ old.batch → Keeps old new (Ok answer) stamps
  keeps-ok answer ready fault same batch = grind arith

-- ---- the stamps of an answered token

pub stamps-added : (table pages : List Page) (page : Page) (t : Token) → pages ≡ table ++ page ∷ [] → t ≡ token (length table) page.stamp
    → (stamps_in pages ≡ stamps_with (stamps_in table) t) × (slice_get (stamps_in pages) (length table) ≡ Some t.stamp)
stamps-added table pages page t is named =
    let long : length (stamps_in table) ≡ length table = length-map table (λ (p : Page). p.stamp) in
    let more : stamps_in (table ++ page ∷ []) ≡ stamps_in table ++ page.stamp ∷ [] = map-append (λ (p : Page). p.stamp) table (page ∷ []) in
    let last = last-at (stamps_in table) page.stamp in
    grind (arith, eq-eqb (length table) (length (stamps_in table)))

pub stamps-reused : (table : List Page) (pid : ℕ) (page q : Page) (t : Token) → slice_get table pid ≡ Some q → t ≡ token pid page.stamp
    → (stamps_in (slice_set table pid page) ≡ stamps_with (stamps_in table) t) × (slice_get (stamps_in (slice_set table pid page)) pid ≡ Some t.stamp)
stamps-reused table pid page q t at named =
    let within : pid < length table = slice_get_within table pid q at in
    let long : length (stamps_in table) ≡ length table = length-map table (λ (p : Page). p.stamp) in
    let changed = map-set (λ (p : Page). p.stamp) table pid page in
    let there = map-at (λ (p : Page). p.stamp) (slice_set table pid page) pid page (set-at table pid q page at) in
    grind (arith, ne_eqb pid (length (stamps_in table)))
