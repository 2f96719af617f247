-- What calls of the cache make of its history.
use Rattle.std.proofs.Common.{◌≡◌, ◌≤◌, ◌||◌, Bool, true, false, List, [], ◌++◌, length, refl, sym, ◌∙◌, ap, arith, length-append}
use Rattle.std.proofs.lemmas.Bool.{false≢true}
use Rattle.std.proofs.lemmas.List.{append-nil, append_assoc}
use Rattle.sled_log.specs.Contents.{Update}
use Rattle.sled_log.specs.Events.{Event}
use Rattle.sled_pagecache.specs.Prefixes.{History, with_made, with_begun, with_all_flushed}

-- Nothing has begun that isn't known to be made, unless a write fault is kept; and no more is flushed than was made.
pub record IsSound (h : History) (fault : Bool) : Type 0 where
  pub clear : fault ≡ false → h.begun ≡ []
  pub within : h.flushed ≤ length h.changes

-- what was made and has begun
abbrev pub all_of : History → List (Event Update)
all_of h = h.changes ++ h.begun

-- The changes came behind the others. What was flushed is, and where a flush was made, so is all that was there before.
pub record Went (h : History) (changes : List (Event Update)) (flush : Bool) (after : History) (fault : Bool) : Type 0 where
  pub pages : after.pages ≡ h.pages
  pub are : all_of after ≡ all_of h ++ changes
  pub sound : IsSound after fault
  pub more : h.flushed ≤ after.flushed
  pub all : flush ≡ true → length (all_of h) ≤ after.flushed

pub none-went : (h : History) (fault : Bool) → IsSound h fault → Went h [] false h fault
none-went h fault sound = record { pages = refl; are = sym (append-nil (all_of h)); sound = sound; more = omega arith; all = λ e. absurd (false≢true e) }

pub went-then : (h mid after : History) (first later : List (Event Update)) (a b : Bool) (fault fault_then : Bool) → Went h first a mid fault → Went mid later b after fault_then → Went h (first ++ later) (a || b) after fault_then
went-then h mid after first later a b fault fault_then one two = record {
  pages = two.pages ∙ one.pages;
  are = two.are ∙ ap (λ (es : List (Event Update)). es ++ later) one.are ∙ append_assoc (all_of h) first later;
  sound = two.sound;
  more = let x = one.more in let y = two.more in omega arith;
  all = either a b (λ e. let x = one.all e in let y = two.more in omega arith) (λ e. let x = two.all e in let sum = length-append (all_of h) first in let same = ap length one.are in omega arith);
}
  where
    either : (a b : Bool) → (a ≡ true → length (all_of h) ≤ after.flushed) → (b ≡ true → length (all_of h) ≤ after.flushed) → (a || b) ≡ true → length (all_of h) ≤ after.flushed
    either true b x y e = x refl
    either false b x y e = y e

-- these have begun
pub begun-went : (h : History) (changes : List (Event Update)) (fault : Bool) → IsSound h fault → Went h changes false (with_begun changes h) true
begun-went h changes fault sound = record {
  pages = refl;
  are = sym (append_assoc h.changes h.begun changes);
  sound = record { clear = λ e. absurd (false≢true (sym e)); within = sound.within };
  more = omega arith;
  all = λ e. absurd (false≢true e);
}

-- these were made
pub made-went : (h : History) (changes : List (Event Update)) → IsSound h false → Went h changes false (with_made changes h) false
made-went h changes sound =
    let none = sound.clear refl in
    let sum = length-append h.changes changes in
    record {
      pages = refl;
      are = ap (λ (es : List (Event Update)). (h.changes ++ changes) ++ es) none ∙ append-nil (h.changes ++ changes) ∙ sym (ap (λ (es : List (Event Update)). es ++ changes) (ap (λ (es : List (Event Update)). h.changes ++ es) none ∙ append-nil h.changes));
      sound = record { clear = λ _. none; within = let w = sound.within in omega arith };
      more = omega arith;
      all = λ e. absurd (false≢true e);
    }

-- and all is flushed
pub flushed-went : (h : History) (changes : List (Event Update)) → IsSound h false → Went h changes true (with_all_flushed (with_made changes h)) false
flushed-went h changes sound =
    let made = made-went h changes sound in
    let none = sound.clear refl in
    let sum = length-append h.changes changes in
    let less = length-append h.changes h.begun in
    let zero = ap length none in
    record {
      pages = refl;
      are = made.are;
      sound = record { clear = λ _. none; within = omega arith };
      more = let w = sound.within in omega arith;
      all = λ _. omega arith;
    }

pub went-less : (h after : History) (changes : List (Event Update)) (flush : Bool) (fault : Bool) → Went h changes true after fault → Went h changes flush after fault
went-less h after changes flush fault went = record { pages = went.pages; are = went.are; sound = went.sound; more = went.more; all = λ _. went.all refl }

pub went-any : (h after : History) (changes : List (Event Update)) (flush : Bool) (fault : Bool) → Went h changes flush after fault → Went h changes false after fault
went-any h after changes flush fault went = record { pages = went.pages; are = went.are; sound = went.sound; more = went.more; all = λ e. absurd (false≢true e) }
