-- Searches for room, which make it where there is none.
use Rattle.std.proofs.Common.{◌≡◌, ◌⊎◌, inl, inr, ℕ, List, Result, Ok, Err, sym, subst}
use Rattle.std.proofs.lemmas.Bool.{false≢true}
use Rattle.std.specs.Prelude.{IsErr}
use Rattle.sled_base.specs.Order.{Bytes}
use Rattle.sled_base.specs.declared.types.Error.{Error}
use Rattle.sled_log.specs.Contents.{Update}
use Rattle.sled_log.specs.Events.{Event}
use Rattle.sled_log.specs.declared.log.Log.{Ghosts}
use Rattle.sled_pagecache.specs.Cache.{Cache}
use Rattle.sled_pagecache.specs.State.{State, contents_of}
use Rattle.sled_tree.specs.Changed.{Reads}
use Rattle.sled_tree.specs.Maps.{Keeps}
use Rattle.sled_tree.specs.Performs.{Performs}
use Rattle.sled_tree.specs.Walks.{HasRoot, IsMet, IsPlaceOf, LeadsBy, MakesRoom, Meets}
use Rattle.sled_tree.specs.declared.place.Met.{Met}
use Rattle.sled_tree.specs.declared.place.Met.TheVariants as met
use Rattle.sled_tree.specs.declared.place.Place.{Place}
use Rattle.sled_tree.proofs.Keeping.{keeps-and, kept-keeps, on-deed, quiet-keeps, reads-keep}
use Rattle.sled_tree.proofs.Performing.{On, Then, reads-so, then, weaker}

module _ {L : Type 0} (g : Ghosts L) (root : ℕ) (key : Bytes) where
  -- a search more leaves the maps
  pub searched : {E : Type 0} (found : Result Met E) (old mid new : Cache L) → Performs g (Keeps (HasRoot root)) old mid → Performs g (Reads found (λ pages m. Meets pages root key m)) mid new → Performs g (Keeps (HasRoot root)) old new
  searched found old mid new first later = keeps-and g first (reads-keep g later)

  -- and so does the room that is made where it met none
  pub made-room : (above page : ℕ) (found : Met) (old mid seen new : Cache L) → (found ≡ met.Full above page) ⊎ (found ≡ met.Unled above page)
      → Performs g (Keeps (HasRoot root)) old mid → Performs g (Reads {E = Error} (Ok found) (λ pages m. Meets pages root key m)) mid seen → Performs g (Keeps (IsMet above page)) seen new → Performs g (Keeps (HasRoot root)) old new
  made-room above page found old mid seen new is first search later = keeps-and g first (behind (led is))
    where
      of : (m : Met) → found ≡ m → Performs g (On (λ pages. Meets pages root key m)) mid seen
      of m same = subst (λ (m : Met). Performs g (On (λ pages. Meets pages root key m)) mid seen) same (reads-so g (λ pages m. Meets pages root key m) mid seen found search)

      led : (found ≡ met.Full above page) ⊎ (found ≡ met.Unled above page) → Performs g (On (λ pages. LeadsBy pages key root above page)) mid seen
      led (inl same) = of (met.Full above page) same
      led (inr same) = of (met.Unled above page) same

      behind : Performs g (On (λ pages. LeadsBy pages key root above page)) mid seen → Performs g (Keeps (HasRoot root)) mid new
      behind met_so = on-deed g
          (λ s t events leads keeps. record { follows = keeps.follows; stays = λ w are has. keeps.stays w are (record { root = root; has = has; key = key; leads = leads }) }) met_so later

  pub room-found : (place : Place) (old mid new : Cache L) → Performs g (Keeps (HasRoot root)) old mid → Performs g (Reads {E = Error} (Ok (met.Leaf place)) (λ pages m. Meets pages root key m)) mid new → Performs g (MakesRoom {E = Error} root key (Ok place)) old new
  room-found place old mid new first later = weaker g (Then (Keeps (HasRoot root)) (Reads {E = Error} (Ok (met.Leaf place)) (λ pages m. Meets pages root key m))) (MakesRoom {E = Error} root key (Ok place)) old new by
      (then g (Keeps (HasRoot root)) (Reads {E = Error} (Ok (met.Leaf place)) (λ pages m. Meets pages root key m)) old mid new first later)
    where
      by : (s t : State) (events : List (Event Update)) → Then (Keeps (HasRoot root)) (Reads {E = Error} (Ok (met.Leaf place)) (λ pages m. Meets pages root key m)) s events t → MakesRoom {E = Error} root key (Ok place) s events t
      by s t events (middle, before, behind, is, a, b) = (
        subst (λ (es : List (Event Update)). Keeps (HasRoot root) s es t) (sym is)
            (kept-keeps (HasRoot root) (HasRoot root) s middle t before behind (record { keeps = a; leaves = λ w are has. has }) (quiet-keeps (HasRoot root) middle t behind (b.none, b.same, b.stuck))),
        subst (λ (u : State). IsPlaceOf (contents_of u) root key place) (sym b.is.0) b.is.1,
      )

  pub room-refused : {E : Type 0} (result : Result Place E) → IsErr result → (old new : Cache L) → Performs g (Keeps (HasRoot root)) old new → Performs g (MakesRoom root key result) old new
  room-refused (Ok place) failed old new h = absurd (false≢true failed)
  room-refused {E} (Err e) failed old new h = weaker g (Keeps (HasRoot root)) (MakesRoom {E = E} root key (Err e)) old new (λ s t events is. (is, tt)) h
