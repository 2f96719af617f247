-- A history of maps beside that of the cache: what the deeds changed is what was made and has begun.
use Rattle.std.proofs.Common.{◌≡◌, ◌≤◌, Bool, true, false, cond, List, [], ◌∷◌, ◌++◌, length, take, refl, sym, ◌∙◌, ap, subst, arith, length-append}
use Rattle.std.proofs.lemmas.List.{append-nil, append_assoc, take-append-le, take_all}
use Rattle.sled_log.specs.Contents.{Content, Update, contents_after}
use Rattle.sled_log.specs.Events.{Event}
use Rattle.sled_log.specs.Inside.ReadingLaws.{contents_after-append}
use Rattle.sled_pagecache.specs.Prefixes as cache
use Rattle.sled_search.specs.Calls.{Call as Done, Becomes, AreCalls, changes_of, left_by}
use Rattle.sled_search.proofs.InARow.{rows-join}
use Rattle.sled_tree.specs.Named.{Named}
use Rattle.sled_tree.specs.Prefixes.{History, history_from, pages_by_now, named_by_now, AreSoFar}
use Rattle.sled_tree.proofs.OpeningsHistory.{IsSound, Went, all_of}

pub changes-then : (xs : List (Done Named)) (changes : List (Event Update)) (w : Named) → changes_of (xs ++ (changes, w) ∷ []) ≡ changes_of xs ++ changes
changes-then [] changes w = append-nil changes
changes-then (x ∷ xs) changes w = ap (λ (es : List (Event Update)). x.0 ++ es) (changes-then xs changes w) ∙ sym (append_assoc x.0 (changes_of xs) changes)

-- the pages behind calls in a row are what they are behind them
pub behind-calls : (pages : List Content) (w : Named) (xs : List (Done Named)) → AreCalls AreSoFar pages w xs → AreSoFar (contents_after pages (changes_of xs)) (left_by w xs)
behind-calls pages w [] are = are
behind-calls pages w (x ∷ xs) are = subst (λ (ps : List Content). AreSoFar ps (left_by x.1 xs)) (sym (contents_after-append pages x.0 (changes_of xs))) (behind-calls (contents_after pages x.0) x.1 xs are.1)

-- What was made and has begun in the cache, and the rest behind it, is what the deeds since the last crash change.
pub record Covers (c : cache.History) (h : History) (rest : List (Event Update)) : Type 0 where
  pub pages : c.pages ≡ h.pages
  pub changes : all_of c ++ rest ≡ changes_of h.done
  pub calls : AreCalls AreSoFar h.pages h.named h.done
  pub few : h.flushed ≤ length h.done
  pub flushed : length (changes_of (take h.flushed h.done)) ≤ c.flushed

-- there is no rest between two deeds, and this of a write fault is so
pub record Matches (c : cache.History) (h : History) (fault : Bool) : Type 0 where
  pub sound : IsSound c fault
  pub covers : Covers c h []

-- a deed more, which changed these
abbrev pub with_deed : List (Event Update) → Named → Bool → History → History
with_deed changes w flush h = record h { done = h.done ++ (changes, w) ∷ []; flushed = cond flush (length h.done) h.flushed }

-- the pages by now behind a deed more
pub now-then : (h : History) (changes : List (Event Update)) (w : Named) (flush : Bool) → pages_by_now (with_deed changes w flush h) ≡ contents_after (pages_by_now h) changes
now-then h changes w flush = ap (λ (es : List (Event Update)). contents_after h.pages es) (changes-then h.done changes w) ∙ contents_after-append h.pages (changes_of h.done) changes

-- and the maps
pub named-then : (w : Named) (xs : List (Done Named)) (changes : List (Event Update)) (new : Named) → left_by w (xs ++ (changes, new) ∷ []) ≡ new
named-then w [] changes new = refl
named-then w (x ∷ xs) changes new = named-then x.1 xs changes new

module _ (c : cache.History) (h : History) (covers : Covers c h []) where
  pub same-changes : all_of c ≡ changes_of h.done
  same-changes = sym (append-nil (all_of c)) ∙ covers.changes

  pub are-now : AreSoFar (pages_by_now h) (named_by_now h)
  are-now = behind-calls h.pages h.named h.done covers.calls

  -- where nothing has begun that isn't known to be made, the pages by now are those of the cache
  pub same-now : c.begun ≡ [] → cache.pages_by_now c ≡ pages_by_now h
  same-now none =
      let all : c.changes ≡ changes_of h.done = sym (append-nil c.changes) ∙ sym (ap (λ (es : List (Event Update)). c.changes ++ es) none) ∙ same-changes in
      ap (λ (ps : List Content). contents_after ps c.changes) covers.pages ∙ ap (λ (es : List (Event Update)). contents_after h.pages es) all

  -- one deed more, and how much of it came in the history of the cache
  module _ (came rest changes : List (Event Update)) (are : came ++ rest ≡ changes) (w : Named) (flush : Bool) (after : cache.History) (fault : Bool) (went : Went c came flush after fault) (becomes : Becomes AreSoFar (pages_by_now h) (named_by_now h) changes w) where
    longer : length h.done ≤ length (h.done ++ (changes, w) ∷ [])
    longer = let sum = length-append h.done ((changes, w) ∷ []) in omega arith

    fewer : (flush : Bool) → cond flush (length h.done) h.flushed ≤ length (h.done ++ (changes, w) ∷ [])
    fewer true = longer
    fewer false = let x = longer in let y = covers.few in omega arith

    still : (flush : Bool) → (flush ≡ true → length (all_of c) ≤ after.flushed) → length (changes_of (take (cond flush (length h.done) h.flushed) (h.done ++ (changes, w) ∷ []))) ≤ after.flushed
    still true all =
        let same : take (length h.done) (h.done ++ (changes, w) ∷ []) ≡ h.done = take-append-le (length h.done) h.done ((changes, w) ∷ []) (omega arith) ∙ take_all (length h.done) h.done (omega arith) in
        let those = ap (λ (xs : List (Done Named)). length (changes_of xs)) same in
        let some = all refl in
        let known = ap length same-changes in
        omega arith
    still false all =
        let those = ap (λ (xs : List (Done Named)). length (changes_of xs)) (take-append-le h.flushed h.done ((changes, w) ∷ []) covers.few) in
        let was = covers.flushed in
        let more = went.more in
        omega arith

    pub covers-more : Covers after (with_deed changes w flush h) rest
    covers-more = record {
      pages = went.pages ∙ covers.pages;
      changes =
          ap (λ (es : List (Event Update)). es ++ rest) (went.are ∙ ap (λ (es : List (Event Update)). es ++ came) same-changes)
          ∙ append_assoc (changes_of h.done) came rest ∙ ap (λ (es : List (Event Update)). changes_of h.done ++ es) are ∙ sym (changes-then h.done changes w);
      calls = rows-join AreSoFar h.done ((changes, w) ∷ []) h.pages h.named covers.calls (becomes, becomes.behind);
      few = fewer flush;
      flushed = still flush went.all;
    }

  -- all of it came
  pub matches-more : (changes : List (Event Update)) (w : Named) (flush : Bool) (after : cache.History) (fault : Bool) → Went c changes flush after fault → Becomes AreSoFar (pages_by_now h) (named_by_now h) changes w
      → Matches after (with_deed changes w flush h) fault
  matches-more changes w flush after fault went becomes = record { sound = went.sound; covers = covers-more changes [] changes (append-nil changes) w flush after fault went becomes }

-- nothing was done yet
pub matches-nothing : (pages : List Content) (w : Named) → AreSoFar pages w → Matches (cache.history_from pages) (history_from pages w) false
matches-nothing pages w are = record {
  sound = record { clear = λ _. refl; within = omega arith };
  covers = record { pages = refl; changes = refl; calls = are; few = omega arith; flushed = omega arith };
}
