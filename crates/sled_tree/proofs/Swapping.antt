-- Values that are swapped where another one stands.
use Rattle.std.proofs.Common.{◌≡◌, ◌≢◌, ◌∙◌, inl, ℕ, List, Option, Some, None, Result, Ok, Err, sym, subst}
use Rattle.std.proofs.lemmas.Bool.{false≢true}
use Rattle.std.specs.Prelude.{IsErr}
use Rattle.sled_base.specs.Order.{Bytes}
use Rattle.sled_base.specs.declared.types.Error.{Error}
use Rattle.sled_log.specs.Contents.{Update}
use Rattle.sled_log.specs.Events.{Event}
use Rattle.sled_log.specs.declared.log.Log.{Ghosts}
use Rattle.sled_pagecache.specs.Cache.{Cache}
use Rattle.sled_pagecache.specs.State.{State, contents_of}
use Rattle.sled_tree.specs.Changed.{Reads}
use Rattle.sled_tree.specs.Maps.{ChangesMap, Keeps, SetsKey, SwapsKey, TakesKey}
use Rattle.sled_tree.specs.Performs.{Performs}
use Rattle.sled_tree.specs.Walks.{HasRoot, IsPlaceOf, MakesRoom}
use Rattle.sled_tree.specs.declared.place.Place.{Place}
use Rattle.sled_tree.proofs.Changing.{before-is}
use Rattle.sled_tree.proofs.Events.{quiet-follows, quiet-stays}
use Rattle.sled_tree.proofs.Performing.{weaker}

abbrev pub Swapped : Type 0
Swapped = Result (Unit {0}) (Option Bytes)

module _ {L : Type 0} (g : Ghosts L) (F : Type 0) (root : ℕ) (key : Bytes) (old : Option Bytes) (from to : Cache L) where
  -- ---- what was made

  pub swap-set : (E : Type 0) (value : Bytes) (before : Option Bytes) → before ≡ old → Performs g (ChangesMap root (SetsKey {E = E} root key value (Ok before))) from to
      → Performs g (ChangesMap root (SwapsKey {E = F} root key old (Some value) (Ok (Ok tt)))) from to
  swap-set E value before same h = weaker g (ChangesMap root (SetsKey {E = E} root key value (Ok before))) (ChangesMap root (SwapsKey {E = F} root key old (Some value) (Ok (Ok tt)))) from to
      (λ s t events is. record { follows = is.follows; does = λ w m are has. let it = is.does w m are has in (sym same ∙ it.0, it.1) }) h

  pub swap-take : (E : Type 0) (had : Bytes) → old ≡ Some had → Performs g (ChangesMap root (TakesKey {E = E} root key (Ok (Some had)))) from to
      → Performs g (ChangesMap root (SwapsKey {E = F} root key old None (Ok (Ok tt)))) from to
  swap-take E had same h = subst (λ (o : Option Bytes). Performs g (ChangesMap root (SwapsKey {E = F} root key o None (Ok (Ok tt)))) from to) (sym same)
      (weaker g (ChangesMap root (TakesKey {E = E} root key (Ok (Some had)))) (ChangesMap root (SwapsKey {E = F} root key (Some had) None (Ok (Ok tt)))) from to
      (λ s t events is. record { follows = is.follows; does = λ w m are has. is.does w m are has }) h)

  pub swap-none : (E : Type 0) → old ≡ None → Performs g (ChangesMap root (TakesKey {E = E} root key (Ok None))) from to → Performs g (ChangesMap root (SwapsKey {E = F} root key old None (Ok (Ok tt)))) from to
  swap-none E same h = subst (λ (o : Option Bytes). Performs g (ChangesMap root (SwapsKey {E = F} root key o None (Ok (Ok tt)))) from to) (sym same)
      (weaker g (ChangesMap root (TakesKey {E = E} root key (Ok None))) (ChangesMap root (SwapsKey {E = F} root key None None (Ok (Ok tt)))) from to
      (λ s t events is. record { follows = is.follows; does = λ w m are has. is.does w m are has }) h)

  -- ---- another value is there

  pub swap-other : (new : Option Bytes) (place : Place) → place.value ≢ old → Performs g (MakesRoom {E = Error} root key (Ok place)) from to → Performs g (ChangesMap root (SwapsKey {E = F} root key old new (Ok (Err place.value)))) from to
  swap-other new place differs h = weaker g (MakesRoom {E = Error} root key (Ok place)) (ChangesMap root (SwapsKey {E = F} root key old new (Ok (Err place.value)))) from to by h
    where
      by : (s t : State) (events : List (Event Update)) → MakesRoom {E = Error} root key (Ok place) s events t → ChangesMap root (SwapsKey {E = F} root key old new (Ok (Err place.value))) s events t
      by s t events is = record {
        follows = is.0.follows;
        does = λ w m are has. let stays = is.0.stays w are (m, has) in (before-is (contents_of t) root key place is.1 m (stays.1.trees.each root m has), differs, stays);
      }

  pub swap-differs : (new : Option Bytes) (place : Place) → place.value ≢ old → Performs g (Reads {E = Error} (Ok place) (λ pages p. IsPlaceOf pages root key p)) from to → Performs g (ChangesMap root (SwapsKey {E = F} root key old new (Ok (Err place.value)))) from to
  swap-differs new place differs h = weaker g (Reads {E = Error} (Ok place) (λ pages p. IsPlaceOf pages root key p)) (ChangesMap root (SwapsKey {E = F} root key old new (Ok (Err place.value)))) from to by h
    where
      by : (s t : State) (events : List (Event Update)) → Reads {E = Error} (Ok place) (λ pages p. IsPlaceOf pages root key p) s events t → ChangesMap root (SwapsKey {E = F} root key old new (Ok (Err place.value))) s events t
      by s t events h = record {
        follows = quiet-follows s t events (h.none, h.same, h.stuck);
        does = λ w m are has. (before-is (contents_of s) root key place h.is.1 m (are.trees.each root m has), differs, quiet-stays w s t events (h.none, h.same, h.stuck) are);
      }

  -- ---- an error

  pub swap-refused : (new : Option Bytes) (result : Result Swapped F) → IsErr result → Performs g (Keeps (HasRoot root)) from to → Performs g (ChangesMap root (SwapsKey root key old new result)) from to
  swap-refused new (Ok answer) failed h = absurd (false≢true failed)
  swap-refused new (Err e) failed h = weaker g (Keeps (HasRoot root)) (ChangesMap root (SwapsKey {E = F} root key old new (Err e))) from to
      (λ s t events is. record { follows = is.follows; does = λ w m are has. let stays = is.stays w are (m, has) in (inl stays.0, stays.1) }) h

  pub swap-set-failed : {E : Type 0} (value : Bytes) (e : E) (result : Result Swapped F) → IsErr result → Performs g (ChangesMap root (SetsKey root key value (Err e))) from to → Performs g (ChangesMap root (SwapsKey root key old (Some value) result)) from to
  swap-set-failed value e (Ok answer) failed h = absurd (false≢true failed)
  swap-set-failed value e (Err f) failed h = weaker g (ChangesMap root (SetsKey root key value (Err e))) (ChangesMap root (SwapsKey {E = F} root key old (Some value) (Err f))) from to
      (λ s t events is. record { follows = is.follows; does = λ w m are has. is.does w m are has }) h

  pub swap-take-failed : {E : Type 0} (had : Bytes) → old ≡ Some had → (e : E) (result : Result Swapped F) → IsErr result → Performs g (ChangesMap root (TakesKey root key (Err e))) from to → Performs g (ChangesMap root (SwapsKey root key old None result)) from to
  swap-take-failed had same e (Ok answer) failed h = absurd (false≢true failed)
  swap-take-failed had same e (Err f) failed h = subst (λ (o : Option Bytes). Performs g (ChangesMap root (SwapsKey {E = F} root key o None (Err f))) from to) (sym same)
      (weaker g (ChangesMap root (TakesKey root key (Err e))) (ChangesMap root (SwapsKey {E = F} root key (Some had) None (Err f))) from to
      (λ s t events is. record { follows = is.follows; does = λ w m are has. is.does w m are has }) h)

  -- ---- the kind of an error doesn't matter

  pub swap-ok : (E : Type 0) (new : Option Bytes) (answer : Swapped) → Performs g (ChangesMap root (SwapsKey {E = E} root key old new (Ok answer))) from to → Performs g (ChangesMap root (SwapsKey {E = F} root key old new (Ok answer))) from to
  swap-ok E new (Ok done) h = weaker g (ChangesMap root (SwapsKey {E = E} root key old new (Ok (Ok done)))) (ChangesMap root (SwapsKey {E = F} root key old new (Ok (Ok done)))) from to
      (λ s t events is. record { follows = is.follows; does = λ w m are has. is.does w m are has }) h
  swap-ok E new (Err present) h = weaker g (ChangesMap root (SwapsKey {E = E} root key old new (Ok (Err present)))) (ChangesMap root (SwapsKey {E = F} root key old new (Ok (Err present)))) from to
      (λ s t events is. record { follows = is.follows; does = λ w m are has. is.does w m are has }) h

  pub swap-failed : {E : Type 0} (new : Option Bytes) (e : E) (result : Result Swapped F) → IsErr result → Performs g (ChangesMap root (SwapsKey root key old new (Err e))) from to → Performs g (ChangesMap root (SwapsKey root key old new result)) from to
  swap-failed new e (Ok answer) failed h = absurd (false≢true failed)
  swap-failed new e (Err f) failed h = weaker g (ChangesMap root (SwapsKey root key old new (Err e))) (ChangesMap root (SwapsKey {E = F} root key old new (Err f))) from to
      (λ s t events is. record { follows = is.follows; does = λ w m are has. is.does w m are has }) h
