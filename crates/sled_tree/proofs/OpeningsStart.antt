-- The missing system pages, which an opening makes, leave the maps.
use Rattle.std.proofs.Common.{◌⊎◌, inl, inr, ◌≤◌, ℕ, false, List, [], ◌∷◌, length, length-append, take, refl, sym, ◌∙◌, ap, subst, arith}
use Rattle.std.proofs.lemmas.List.{take-append-le, take_all}
use Rattle.std.proofs.Math.Seq.{drop-nil}
use Rattle.std.proofs.lemmas.Option.{slice_get_within}
use Rattle.sled_log.specs.Contents.{Content, Counter, Roots, Update, Put, contents_after}
use Rattle.sled_log.specs.Events.{Event, Change}
use Rattle.sled_log.specs.LogState.{IsPrefix}
use Rattle.sled_pagecache.specs.Opening.{changes_of_start}
use Rattle.sled_pagecache.specs.Prefixes as cache
use Rattle.sled_search.specs.Calls.{Becomes}
use Rattle.sled_search.proofs.InARow.{no-change, one-change, two-parts}
use Rattle.sled_search.proofs.Together.{none-there}
use Rattle.sled_search.proofs.Off.{all-off, no-node-off, one-changes}
use Rattle.sled_tree.specs.Named.{Named, AreNamed}
use Rattle.sled_tree.specs.Prefixes.{AreSoFar, nothing_named}
use Rattle.sled_tree.proofs.OpeningsHistory.{IsSound, Went, none-went, flushed-went, went-less}

-- the counter's page is put behind that of the names
counter-added : (page : Content) (w : Named) → AreNamed (page ∷ []) w → AreNamed (page ∷ Counter 0 ∷ []) w
counter-added page w are = record {
  names = are.names;
  trees =
      all-off (page ∷ []) (page ∷ Counter 0 ∷ []) w.maps 1 are.trees
      (no-node-off (page ∷ []) w.maps 1 are.trees (λ n at. let lt = slice_get_within (page ∷ []) 1 _ at in omega arith)) (one-changes (page ∷ []) 1 (Put (Counter 0)));
}

one-made : (page : Content) (w : Named) → AreSoFar (page ∷ []) w → Becomes AreSoFar (page ∷ []) w (Change 1 (Put (Counter 0)) ∷ []) w
one-made page w are = one-change AreSoFar (page ∷ []) w w (Change 1 (Put (Counter 0))) are (counter-added page w are)

pub start-made : (pages : List Content) (w : Named) → AreSoFar pages w → Becomes AreSoFar pages w (changes_of_start pages) w
start-made [] w none = subst (λ (v : Named). Becomes AreSoFar [] v (changes_of_start []) v) (sym none) both
  where
    named : AreNamed (Roots [] ∷ []) nothing_named
    named = record { names = refl; trees = none-there (Roots [] ∷ []) }

    both : Becomes AreSoFar [] nothing_named (changes_of_start []) nothing_named
    both =
        two-parts AreSoFar [] nothing_named nothing_named nothing_named (Change 0 (Put (Roots [])) ∷ []) (Change 1 (Put (Counter 0)) ∷ [])
        (one-change AreSoFar [] nothing_named nothing_named (Change 0 (Put (Roots []))) refl named) (one-made (Roots []) nothing_named named) (inl refl)
start-made (page ∷ []) w are = one-made page w are
start-made (page ∷ other ∷ pages) w are = subst (λ (es : List (Event Update)). Becomes AreSoFar (page ∷ other ∷ pages) w es w) (sym (drop-nil (length pages))) (no-change AreSoFar (page ∷ other ∷ pages) w are)

-- a prefix of what leaves the maps leaves them
pub part-made : (w : Named) (pages : List Content) (part all : List (Event Update)) → IsPrefix part all → Becomes AreSoFar pages w all w → Becomes AreSoFar pages w part w
part-made w pages part all (rest, is) becomes = record { before = becomes.before; each = λ n le. inl (are n le); behind = subst (λ (es : List (Event Update)). AreSoFar (contents_after pages es) w) (take_all (length part) part (omega arith)) (are (length part) (omega arith)) }
  where
    either : (ps : List Content) → AreSoFar ps w ⊎ AreSoFar ps w → AreSoFar ps w
    either ps (inl x) = x
    either ps (inr x) = x

    are : (n : ℕ) → n ≤ length part → AreSoFar (contents_after pages (take n part)) w
    are n le =
        let sum = length-append part rest in
        let long = ap length is in
        subst (λ (es : List (Event Update)). AreSoFar (contents_after pages es) w) (ap (λ (es : List (Event Update)). take n es) (sym is) ∙ take-append-le n part rest le)
        (either (contents_after pages (take n all)) (becomes.each n (omega arith)))

-- what comes of them in the history of the cache
pub start-went : (changes : List (Event Update)) (h : cache.History) → IsSound h false → Went h changes false (cache.history_after_start_with changes h) false
start-went [] h sound = none-went h false sound
start-went (change ∷ changes) h sound = went-less h (cache.with_all_flushed (cache.with_made (change ∷ changes) h)) (change ∷ changes) false false (flushed-went h (change ∷ changes) sound)
