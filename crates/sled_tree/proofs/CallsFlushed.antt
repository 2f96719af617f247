-- What was so of the names and maps when they were flushed is so when the next opening begins.
use Rattle.std.proofs.Common.{◌≡◌, ◌≤◌, ◌+◌, ◌-◌, ℕ, zero, suc, Bool, true, false, List, [], ◌∷◌, ◌++◌, length, take, Result, refl, sym, ◌∙◌, ap, subst, arith}
use Rattle.std.specs.Prelude.{⊤}
use Rattle.std.proofs.lemmas.List.{append_assoc}
use Rattle.std.proofs.Math.Seq.{take-append-add}
use Rattle.sled_log.specs.Contents.{Content, Update}
use Rattle.sled_log.specs.Events.{Event}
use Rattle.sled_pagecache.specs.State.{State}
use Rattle.sled_search.specs.Calls.{Call as Done, left_by}
use Rattle.sled_tree.specs.Calls.{MapCall, Flushed, Needs, Does, deed}
use Rattle.sled_tree.specs.Named.{Named}
use Rattle.sled_tree.specs.Openings.{Deed, Ending, Crashed, CrashedIn, CrashedRewriting, HandedOn, Rewritten}
use Rattle.sled_tree.specs.Prefixes.{History, Crashes, Makes, ShowEnd, Survives, flushes, history_after, history_from, named_by_now, with_done}
use Rattle.sled_tree.specs.declared.error.TreeError.{TreeError}

left-append : (w : Named) (xs ys : List (Done Named)) → left_by w (xs ++ ys) ≡ left_by (left_by w xs) ys
left-append w [] ys = refl
left-append w (x ∷ xs) ys = left-append x.1 xs ys

module _ (Has : Named → Type 0) where
  abbrev pub AllHave : List (Done Named) → Type 0
  AllHave [] = ⊤
  AllHave (x ∷ xs) = Has x.1 × AllHave xs

  left-has : (k : ℕ) (w : Named) (xs : List (Done Named)) → Has w → AllHave xs → Has (left_by w (take k xs))
  left-has zero w xs has all = has
  left-has (suc k) w [] has all = has
  left-has (suc k) w (x ∷ xs) has all = left-has k x.1 xs all.0 all.1

  -- Since the first of the deeds, all of which are flushed, the value is there.
  pub record IsThere (h : History) : Type 0 where
    pub first : List (Done Named)
    pub more : List (Done Named)
    pub are : h.done ≡ first ++ more
    pub flushed : length first ≤ h.flushed
    pub has : Has (left_by h.named first)
    pub all : AllHave more

  survives-has : (h : History) (there : IsThere h) (pages : List Content) (w : Named) → Survives h pages w → Has w
  survives-has h there pages w survives =
      let few = there.flushed in
      let holds = survives.holds in
      let sum : length there.first + (survives.prefix.count - length there.first) ≡ survives.prefix.count = omega arith in
      let part = ap (λ (xs : List (Done Named)). take survives.prefix.count xs) there.are ∙ ap (λ k. take k (there.first ++ there.more)) (sym sum) ∙ take-append-add there.first there.more (survives.prefix.count - length there.first) in
      let named = ap (λ (xs : List (Done Named)). left_by h.named xs) part ∙ left-append h.named there.first (take (survives.prefix.count - length there.first) there.more) in
      subst Has (sym (survives.named_are ∙ named)) (left-has (survives.prefix.count - length there.first) (left_by h.named there.first) there.more there.has there.all)

  crashed-has : (h after : History) → IsThere h → Crashes h after → Has (named_by_now after)
  crashed-has h after there (pages, w, survives, is) = subst (λ (a : History). Has (named_by_now a)) (sym is) (survives-has h there pages w survives)

  all-append : (xs ys : List (Done Named)) → AllHave xs → AllHave ys → AllHave (xs ++ ys)
  all-append [] ys some more = more
  all-append (x ∷ xs) ys some more = (some.0, all-append xs ys some.1 more)

  one-more : (h : History) (changes : List (Event Update)) (w : Named) → IsThere h → Has w → IsThere (with_done changes w h)
  one-more h changes w there has = record {
    first = there.first;
    more = there.more ++ (changes, w) ∷ [];
    are = ap (λ (xs : List (Done Named)). xs ++ (changes, w) ∷ []) there.are ∙ append_assoc there.first there.more ((changes, w) ∷ []);
    flushed = there.flushed;
    has = there.has;
    all = all-append there.more ((changes, w) ∷ []) there.all (has, tt);
  }

  -- The call inside which a crash came has what it needs, and leaves what is so.
  abbrev pub IsInside : Named → Ending MapCall → Type 0
  IsInside w (CrashedIn deed) = Needs deed.what w × ((before fault : Bool) (new : Named) → Makes Does before deed.what fault w new → Has new)
  IsInside w ending = ⊤

  -- however the opening ends, it is so when the next begins
  pub ended-has : (t : State) (h : History) (ending : Ending MapCall) (Then : History → Type 0) → IsThere h → Has (named_by_now h) → IsInside (named_by_now h) ending → ShowEnd Needs Does t h ending Then → (after : History) × Has (named_by_now after) × Then after
  ended-has t h Crashed Then there has inside (after, crash, so) = (after, crashed-has h after there crash, so)
  ended-has t h (CrashedIn deed) Then there has (needs, leaves) show =
      let (changes, fault, w, makes, after, crash, so) = show needs in
      (after, crashed-has (with_done changes w h) after (one-more h changes w there (leaves t.fault fault w makes)) crash, so)
  ended-has t h CrashedRewriting Then there has inside (after, crash, so) = (after, crashed-has h after there crash, so)
  ended-has t h HandedOn Then there has inside (free, so) = (h, has, so)
  ended-has t h Rewritten Then there has inside (free, so) = (history_from _ (named_by_now h), has, so)

  -- behind a flush that made no other maps, what was so before it is flushed
  pub flushed-there : (h : History) (one : Deed MapCall) (changes : List (Event Update)) (w : Named) → flushes one.calls ≡ true → Has (named_by_now h) → Has w → IsThere (history_after one changes w h)
  flushed-there h one changes w flush has then = record {
    first = h.done;
    more = (changes, w) ∷ [];
    are = refl;
    flushed = rw flush (omega arith);
    has = has;
    all = (then, tt);
  }

-- a flush leaves the names and maps, whether or not a write failed before it
pub makes-same : (before fault : Bool) (result : Result ℕ TreeError) (old new : Named) → Makes Does before (Flushed result) fault old new → new ≡ old
makes-same true fault result old new is = is
makes-same false fault result old new is = is
