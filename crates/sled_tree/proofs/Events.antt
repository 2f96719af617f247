-- What events make of the pages and of the maps.
use Rattle.std.proofs.Common.{◌≡◌, ◌⊎◌, ◌∙◌, inl, inr, Bool, true, false, List, [], ◌∷◌, ◌++◌, Result, Ok, Err, refl, sym, ap, subst}
use Rattle.std.proofs.lemmas.Bool.{false≢true}
use Rattle.std.proofs.lemmas.List.{append-nil}
use Rattle.sled_log.specs.Contents.{Content, Update, contents_after}
use Rattle.sled_log.specs.Events.{Event}
use Rattle.sled_log.specs.Inside.ReadingLaws.{contents_after-append}
use Rattle.sled_pagecache.specs.State.{State, contents_of}
use Rattle.sled_search.specs.Calls.{Becomes}
use Rattle.sled_search.proofs.InARow.{no-change, one-change, two-parts}
use Rattle.sled_tree.specs.Changed.{Ends, LeaveSame, LeavesPages, Made, Makes, Unmade}
use Rattle.sled_tree.specs.Maps.{Follows, Stays, StaysUnlessFaulty, Turns}
use Rattle.sled_tree.specs.Named.{Named, AreNamed}
use Rattle.sled_tree.proofs.Performing.{Quiet, Stuck}

pub known : (b : Bool) → (b ≡ true) ⊎ (b ≡ false)
known true = inl refl
known false = inr refl

-- ---- the pages behind events

leave-after : (pages : List Content) (events : List (Event Update)) → LeaveSame pages events → contents_after pages events ≡ pages
leave-after pages [] h = refl
leave-after pages (event ∷ events) h = ap (λ (ps : List Content). contents_after ps events) h.0 ∙ leave-after pages events h.1

makes-after : (pages changed : List Content) (events : List (Event Update)) → Makes pages changed events → contents_after pages events ≡ changed
makes-after pages changed [] h = absurd h
makes-after pages changed (event ∷ events) h = ap (λ (ps : List Content). contents_after ps events) h.0 ∙ leave-after changed events h.1

pub made-follows : (s t : State) (changed : List Content) (events : List (Event Update)) → Made s changed events t → contents_of t ≡ contents_after (contents_of s) events
made-follows s t changed events made = made.1 ∙ sym (makes-after (contents_of s) changed events made.0)

pub ends-follows : {T E : Type 0} (result : Result T E) (s t : State) (changed : List Content) (events : List (Event Update)) → Ends result s changed events t → t.fault ≡ false → contents_of t ≡ contents_after (contents_of s) events
ends-follows (Ok answer) s t changed events ends clear = made-follows s t changed events ends
ends-follows (Err e) s t changed events (same, inl none) clear = same ∙ ap (λ (es : List (Event Update)). contents_after (contents_of s) es) (sym none)
ends-follows (Err e) s t changed events (same, inr failed) clear = absurd (false≢true (sym clear ∙ failed.1))

-- nothing is written, and no page changes
pub quiet-follows : (s t : State) (events : List (Event Update)) → Quiet s events t → Follows s events t
quiet-follows s t events h = record { stuck = λ kept. (h.0, h.2 kept); pages = λ _. h.1 ∙ ap (λ (es : List (Event Update)). contents_after (contents_of s) es) (sym h.0) }

-- with a write fault kept between them, the later one does nothing
pub follows-then : (s mid t : State) (first later : List (Event Update)) → Follows s first mid → Follows mid later t → Follows s (first ++ later) t
follows-then s mid t first later a b = record {
  stuck = λ kept.
      let one = a.stuck kept in
      let two = b.stuck (subst (λ (u : State). u.fault ≡ true) (sym one.1) kept) in
      (ap (λ (es : List (Event Update)). es ++ later) one.0 ∙ two.0, two.1 ∙ one.1);
  pages = by (known mid.fault);
}
  where
    by : (mid.fault ≡ true) ⊎ (mid.fault ≡ false) → t.fault ≡ false → contents_of t ≡ contents_after (contents_of s) (first ++ later)
    by (inl kept) clear = absurd (false≢true (sym clear ∙ ap (λ (u : State). u.fault) (b.stuck kept).1 ∙ kept))
    by (inr none) clear = b.pages clear ∙ ap (λ (ps : List Content). contents_after ps later) (a.pages none) ∙ sym (contents_after-append (contents_of s) first later)

-- ---- the maps behind events

leave-stays : (w : Named) (pages : List Content) (events : List (Event Update)) → LeaveSame pages events → AreNamed pages w → Becomes AreNamed pages w events w
leave-stays w pages [] h are = no-change AreNamed pages w are
leave-stays w pages (event ∷ events) h are =
    two-parts AreNamed pages w w w (event ∷ []) events (one-change AreNamed pages w w event are (subst (λ (ps : List Content). AreNamed ps w) (sym h.0) are))
    (subst (λ (ps : List Content). Becomes AreNamed ps w events w) (sym h.0) (leave-stays w pages events h.1 are)) (inl refl)

-- one change, which makes other maps or the same
makes-becomes : (old new : Named) (pages changed : List Content) (events : List (Event Update)) → Makes pages changed events → AreNamed pages old → AreNamed changed new → Becomes AreNamed pages old events new
makes-becomes old new pages changed [] h was is = absurd h
makes-becomes old new pages changed (event ∷ events) h was is =
    two-parts AreNamed pages old new new (event ∷ []) events (one-change AreNamed pages old new event was (subst (λ (ps : List Content). AreNamed ps new) (sym h.0) is))
    (subst (λ (ps : List Content). Becomes AreNamed ps new events new) (sym h.0) (leave-stays new changed events h.1 is)) (inr refl)

-- ---- what one call leaves of them

becomes-none : (w : Named) (pages : List Content) (events : List (Event Update)) → events ≡ [] → AreNamed pages w → Becomes AreNamed pages w events w
becomes-none w pages events none are = subst (λ (es : List (Event Update)). Becomes AreNamed pages w es w) (sym none) (no-change AreNamed pages w are)

named-same : (w : Named) (s t : State) → contents_of t ≡ contents_of s → AreNamed (contents_of s) w → AreNamed (contents_of t) w
named-same w s t same are = subst (λ (ps : List Content). AreNamed ps w) (sym same) are

pub quiet-stays : (w : Named) (s t : State) (events : List (Event Update)) → Quiet s events t → AreNamed (contents_of s) w → Stays s w events t
quiet-stays w s t events h are = (becomes-none w (contents_of s) events h.0 are, named-same w s t h.1 are)

-- marks change no page
pub leaves-follow : (s t : State) (events : List (Event Update)) → Stuck s events t → LeavesPages s events t → Follows s events t
leaves-follow s t events stuck h = record { stuck = stuck; pages = λ _. h.same ∙ sym (leave-after (contents_of s) events h.leave) }

pub leaves-stay : (w : Named) (s t : State) (events : List (Event Update)) → LeavesPages s events t → AreNamed (contents_of s) w → Stays s w events t
leaves-stay w s t events h are = (leave-stays w (contents_of s) events h.leave are, named-same w s t h.same are)

-- a change that was made
pub made-turns : (old new : Named) (s t : State) (changed : List Content) (events : List (Event Update)) → Made s changed events t → AreNamed (contents_of s) old → AreNamed changed new → Turns s old events new t
made-turns old new s t changed events made was is = (makes-becomes old new (contents_of s) changed events made.0 was is, subst (λ (ps : List Content). AreNamed ps new) (sym made.1) is)

-- one that wasn't leaves the maps, unless its write failed
pub unmade-stays : (old new : Named) (s t : State) (changed : List Content) (events : List (Event Update)) → Unmade s changed events t → AreNamed (contents_of s) old → AreNamed changed new → StaysUnlessFaulty s old events new t
unmade-stays old new s t changed events (same, inl none) was is = (inl (becomes-none old (contents_of s) events none was), named-same old s t same was)
unmade-stays old new s t changed events (same, inr failed) was is = (inr (failed.1, makes-becomes old new (contents_of s) changed events failed.0 was is), named-same old s t same was)

-- ---- one after the other: behind a write fault nothing is done

module _ (w : Named) (s mid t : State) (first later : List (Event Update)) (before : Follows s first mid) (behind : Follows mid later t) (so_far : Stays s w first mid) where
  clear-then : (others : Named) → mid.fault ≡ false → Becomes AreNamed (contents_of mid) w later others → Becomes AreNamed (contents_of s) w (first ++ later) others
  clear-then others none more = two-parts AreNamed (contents_of s) w w others first later so_far.0 (subst (λ (ps : List Content). Becomes AreNamed ps w later others) (before.pages none) more) (inl refl)

  stuck-then : mid.fault ≡ true → Becomes AreNamed (contents_of s) w (first ++ later) w
  stuck-then kept = subst (λ (es : List (Event Update)). Becomes AreNamed (contents_of s) w es w) (sym (ap (λ (es : List (Event Update)). first ++ es) (behind.stuck kept).0 ∙ append-nil first)) so_far.0

  pub stays-then : Stays mid w later t → Stays s w (first ++ later) t
  stays-then more = (by (known mid.fault), more.1)
    where
      by : (mid.fault ≡ true) ⊎ (mid.fault ≡ false) → Becomes AreNamed (contents_of s) w (first ++ later) w
      by (inl kept) = stuck-then kept
      by (inr none) = clear-then w none more.0

  module _ (others : Named) where
    pub turns-then : (later ≡ [] → ⊥) → Turns mid w later others t → Turns s w (first ++ later) others t
    turns-then some more = (by (known mid.fault), more.1)
      where
        by : (mid.fault ≡ true) ⊎ (mid.fault ≡ false) → Becomes AreNamed (contents_of s) w (first ++ later) others
        by (inl kept) = absurd (some (behind.stuck kept).0)
        by (inr none) = clear-then others none more.0

    pub unless-then : StaysUnlessFaulty mid w later others t → StaysUnlessFaulty s w (first ++ later) others t
    unless-then more = (by (known mid.fault) more.0, more.1)
      where
        by : (mid.fault ≡ true) ⊎ (mid.fault ≡ false) → Becomes AreNamed (contents_of mid) w later w ⊎ ((t.fault ≡ true) × Becomes AreNamed (contents_of mid) w later others)
            → Becomes AreNamed (contents_of s) w (first ++ later) w ⊎ ((t.fault ≡ true) × Becomes AreNamed (contents_of s) w (first ++ later) others)
        by (inl kept) either = inl (stuck-then kept)
        by (inr none) (inl stays) = inl (clear-then w none stays)
        by (inr none) (inr turns) = inr (turns.0, clear-then others none turns.1)
