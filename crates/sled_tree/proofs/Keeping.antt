-- Steps that leave the maps.
use Rattle.std.proofs.Common.{◌≡◌, ◌⊎◌, ◌∙◌, inl, inr, true, List, ◌++◌, Result, Ok, Err, sym, ap, subst}
use Rattle.std.specs.Prelude.{⊤}
use Rattle.sled_log.specs.Contents.{Content, Update}
use Rattle.sled_log.specs.Events.{Event}
use Rattle.sled_log.specs.declared.log.Log.{Ghosts}
use Rattle.sled_pagecache.specs.Cache.{Cache}
use Rattle.sled_pagecache.specs.State.{State, contents_of}
use Rattle.sled_search.specs.Calls.{Becomes}
use Rattle.sled_tree.specs.Changed.{Ends, Made, Reads}
use Rattle.sled_tree.specs.Maps.{Keeps, Stays}
use Rattle.sled_tree.specs.Named.{Named, AreNamed}
use Rattle.sled_tree.specs.Performs.{Performs}
use Rattle.sled_tree.proofs.Events.{ends-follows, follows-then, made-follows, made-turns, quiet-follows, quiet-stays, stays-then, unmade-stays}
use Rattle.sled_tree.proofs.Performing.{Deed, Then, On, Quiet, Stuck, nothing, on-any, reads-quiet, then, weaker}

-- what is so of the pages, and of the maps that their trees are
abbrev pub Fact : Type 1
Fact = List Content → Named → Type 0

-- whichever they are
abbrev pub Any : Fact
Any pages w = ⊤

-- Maps of which the one is so stay, and then the other is so of them.
pub record Kept (If Last : Fact) (s : State) (events : List (Event Update)) (t : State) : Type 0 where
  pub keeps : Keeps If s events t
  pub leaves : (w : Named) → AreNamed (contents_of s) w → If (contents_of s) w → Last (contents_of t) w

-- ---- one change of a page

module _ (If : Fact) (s t : State) (changed : List Content) (events : List (Event Update)) (stuck : Stuck s events t) where
  pub change-keeps : {T E : Type 0} (result : Result T E) → Ends result s changed events t → ((w : Named) → AreNamed (contents_of s) w → If (contents_of s) w → AreNamed changed w) → Keeps If s events t
  change-keeps {T} {E} result ends into = record { follows = record { stuck = stuck; pages = ends-follows result s t changed events ends }; stays = λ w are so. by w are (into w are so) result ends }
    where
      either : (w : Named) → Becomes AreNamed (contents_of s) w events w ⊎ ((t.fault ≡ true) × Becomes AreNamed (contents_of s) w events w) → Becomes AreNamed (contents_of s) w events w
      either w (inl stays) = stays
      either w (inr failed) = failed.1

      by : (w : Named) → AreNamed (contents_of s) w → AreNamed changed w → (result : Result T E) → Ends result s changed events t → Stays s w events t
      by w are other (Ok answer) ends = made-turns w w s t changed events ends are other
      by w are other (Err e) ends = let it = unmade-stays w w s t changed events ends are other in (either w it.0, it.1)

  -- that was made
  pub made-kept : (Last : Fact) → Made s changed events t → ((w : Named) → AreNamed (contents_of s) w → If (contents_of s) w → AreNamed changed w × Last changed w) → Kept If Last s events t
  made-kept Last made into = record {
    keeps = record { follows = record { stuck = stuck; pages = λ clear. made-follows s t changed events made }; stays = λ w are so. made-turns w w s t changed events made are (into w are so).0 };
    leaves = λ w are so. subst (λ (ps : List Content). Last ps w) (sym made.1) (into w are so).1;
  }

pub quiet-keeps : (If : Fact) (s t : State) (events : List (Event Update)) → Quiet s events t → Keeps If s events t
quiet-keeps If s t events h = record { follows = quiet-follows s t events h; stays = λ w are so. quiet-stays w s t events h are }

-- ---- one step after the other

pub kept-keeps : (If Mid : Fact) (s mid t : State) (first later : List (Event Update)) → Kept If Mid s first mid → Keeps Mid mid later t → Keeps If s (first ++ later) t
kept-keeps If Mid s mid t first later a b = record {
  follows = follows-then s mid t first later a.keeps.follows b.follows;
  stays = λ w are so.
      let so_far = a.keeps.stays w are so in
      stays-then w s mid t first later a.keeps.follows b.follows so_far (b.stays w so_far.1 (a.leaves w are so));
}

kept-both : (If Mid Last : Fact) (s mid t : State) (first later : List (Event Update)) → Kept If Mid s first mid → Kept Mid Last mid later t → Kept If Last s (first ++ later) t
kept-both If Mid Last s mid t first later a b = record {
  keeps = kept-keeps If Mid s mid t first later a b.keeps;
  leaves = λ w are so. b.leaves w (a.keeps.stays w are so).1 (a.leaves w are so);
}

-- ---- the same of calls that were made

module _ {L : Type 0} (g : Ghosts L) where
  -- looks, and then a deed
  pub on-deed : {P : List Content → Type 0} {D E : Deed} {old mid new : Cache L} → ((s t : State) (events : List (Event Update)) → P (contents_of s) → D s events t → E s events t)
      → Performs g (On P) old mid → Performs g D mid new → Performs g E old new
  on-deed {P} {D} {E} {old} {mid} {new} step first later = weaker g (Then (On P) D) E old new by (then g (On P) D old mid new first later)
    where
      by : (s t : State) (events : List (Event Update)) → Then (On P) D s events t → E s events t
      by s t events (middle, before, behind, is, a, b) =
          subst (λ (es : List (Event Update)). E s es t) (sym (is ∙ ap (λ (es : List (Event Update)). es ++ behind) a.none))
          (step s t behind a.is (subst (λ (u : State). D u behind t) a.same b))

  pub kept-on : (If Last : Fact) (P : List Content → Type 0) (old new : Cache L) → ((pages : List Content) (w : Named) → P pages → If pages w → Last pages w) → Performs g (On P) old new → Performs g (Kept If Last) old new
  kept-on If Last P old new into h = weaker g (On P) (Kept If Last) old new by h
    where
      by : (s t : State) (events : List (Event Update)) → On P s events t → Kept If Last s events t
      by s t events on = record {
        keeps = quiet-keeps If s t events (on.none, ap contents_of on.same, λ _. on.same);
        leaves = λ w are so. subst (λ (u : State). Last (contents_of u) w) (sym on.same) (into (contents_of s) w on.is so);
      }

  pub kept-then : (If Mid Last : Fact) (D : Deed) (old mid new : Cache L) → ((s t : State) (events : List (Event Update)) → D s events t → Kept Mid Last s events t)
      → Performs g (Kept If Mid) old mid → Performs g D mid new → Performs g (Kept If Last) old new
  kept-then If Mid Last D old mid new step first later = weaker g (Then (Kept If Mid) D) (Kept If Last) old new by (then g (Kept If Mid) D old mid new first later)
    where
      by : (s t : State) (events : List (Event Update)) → Then (Kept If Mid) D s events t → Kept If Last s events t
      by s t events (middle, before, behind, is, a, b) = subst (λ (es : List (Event Update)). Kept If Last s es t) (sym is) (kept-both If Mid Last s middle t before behind a (step middle t behind b))

  pub kept-last : (If Mid : Fact) (D : Deed) (old mid new : Cache L) → ((s t : State) (events : List (Event Update)) → D s events t → Keeps Mid s events t)
      → Performs g (Kept If Mid) old mid → Performs g D mid new → Performs g (Keeps If) old new
  kept-last If Mid D old mid new step first later = weaker g (Then (Kept If Mid) D) (Keeps If) old new by (then g (Kept If Mid) D old mid new first later)
    where
      by : (s t : State) (events : List (Event Update)) → Then (Kept If Mid) D s events t → Keeps If s events t
      by s t events (middle, before, behind, is, a, b) = subst (λ (es : List (Event Update)). Keeps If s es t) (sym is) (kept-keeps If Mid s middle t before behind a (step middle t behind b))

  pub kept-end : {If Last : Fact} {old new : Cache L} → Performs g (Kept If Last) old new → Performs g (Keeps If) old new
  kept-end {If} {Last} {old} {new} h = weaker g (Kept If Last) (Keeps If) old new (λ s t events is. is.keeps) h

  pub keeps-quiet : (If : Fact) (old new : Cache L) → Performs g Quiet old new → Performs g (Keeps If) old new
  keeps-quiet If old new h = weaker g Quiet (Keeps If) old new (λ s t events is. quiet-keeps If s t events is) h

  -- looks alone
  pub reads-keep : {T E : Type 0} {Is : List Content → T → Type 0} {result : Result T E} {If : Fact} {old new : Cache L} → Performs g (Reads result Is) old new → Performs g (Keeps If) old new
  reads-keep {Is = Is} {result} {If} {old} {new} h = keeps-quiet If old new (reads-quiet g Is result old new h)

  -- no call at all
  pub still-keeps : {If : Fact} {c : Cache L} → Performs g (Keeps If) c c
  still-keeps {If} {c} = keeps-quiet If c c (on-any g (λ _. ⊤) c c (nothing g c))

  -- of fewer maps
  pub keeps-fewer : (If Fewer : Fact) (old new : Cache L) → ((pages : List Content) (w : Named) → Fewer pages w → If pages w) → Performs g (Keeps If) old new → Performs g (Keeps Fewer) old new
  keeps-fewer If Fewer old new into h = weaker g (Keeps If) (Keeps Fewer) old new (λ s t events is. record { follows = is.follows; stays = λ w are so. is.stays w are (into (contents_of s) w so) }) h

  -- of maps alone, whatever the pages are
  pub keeps-and : {If : Named → Type 0} {old mid new : Cache L} → Performs g (Keeps (λ _ w. If w)) old mid → Performs g (Keeps (λ _ w. If w)) mid new → Performs g (Keeps (λ _ w. If w)) old new
  keeps-and {If} {old} {mid} {new} first later = kept-last (λ _ w. If w) (λ _ w. If w) (Keeps (λ _ w. If w)) old mid new (λ s t events keeps. keeps)
      (weaker g (Keeps (λ _ w. If w)) (Kept (λ _ w. If w) (λ _ w. If w)) old mid (λ s t events keeps. record { keeps = keeps; leaves = λ w are so. so }) first) later
