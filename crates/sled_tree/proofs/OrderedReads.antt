-- Reading calls one after another, and the turns of a search.
use Rattle.std.proofs.Common.{◌≡◌, ◌⊎◌, inl, inr, ℕ, zero, suc, List, Result, Ok, Err, refl, subst}
use Rattle.std.specs.Prelude.{IsErr}
use Rattle.std.specs.declared.ops.Bound.{Bound}
use Rattle.sled_base.specs.Order.{Bytes}
use Rattle.sled_base.specs.declared.types.Error.{Error}
use Rattle.sled_log.specs.Contents.{Content}
use Rattle.sled_log.specs.declared.log.Log.{Ghosts}
use Rattle.sled_node.specs.Node.{WholeNode, IsInRange}
use Rattle.sled_pagecache.specs.Cache.{Cache}
use Rattle.sled_search.specs.Ordered.{LeadsBefore, GoesBefore}
use Rattle.sled_search.specs.Routes.{Routes, RoutesBefore}
use Rattle.sled_search.specs.Search.{HasNodeAt, ComesToLeafOf, IsLeafOf}
use Rattle.sled_search.specs.declared.turns.Turn.{Turn}
use Rattle.sled_search.specs.declared.turns.Turn.TheVariants.{Here, Down, Right}
use Rattle.sled_search.proofs.Before.{before-then}
use Rattle.sled_search.proofs.Search.{goes-finds, goes-then}
use Rattle.sled_tree.specs.Changed.{Reads}
use Rattle.sled_tree.specs.OrderedLeaves.{ComesBefore}
use Rattle.sled_tree.specs.Performs.{Performs}
use Rattle.sled_tree.specs.Walks.{Leads}
use Rattle.sled_tree.proofs.Performing.{On, nothing, on-any, on-then, on-quiet, on-weaker, reads-as, reads-ok, reads-err, reads-fail, reads-so, reads-quiet}
use Rattle.sled_tree.proofs.Walking.{routes-on}

-- ---- one look, and then another

-- the search for the keys right before a bound comes to that page
abbrev pub LedBefore : ℕ → Bound Bytes → ℕ → List Content → Type 0
LedBefore root bound at pages = (turns : ℕ) × GoesBefore pages bound turns root at

module _ {L : Type 0} (g : Ghosts L) where
  -- what was read says more
  pub reads-more : {T E : Type 0} {Was Is : List Content → T → Type 0} {result : Result T E} {old new : Cache L} → ((pages : List Content) (answer : T) → Was pages answer → Is pages answer)
      → Performs g (Reads result Was) old new → Performs g (Reads result Is) old new
  reads-more {result = Ok answer} into h = reads-as g (λ pages is. into pages answer is) h
  reads-more {Was = Was} {Is = Is} {result = Err e} {old = old} {new = new} into h = reads-err g Is old new e (reads-quiet g Was (Err e) old new h)

  -- ---- a walk: what was seen last, and what is read then

  -- the first look
  pub read-first : {T E : Type 0} {Is : List Content → T → Type 0} {seen : T} {old new : Cache L} → Performs g (Reads {E = E} (Ok seen) Is) old new → Performs g (On (λ pages. Is pages seen)) old new
  read-first {Is = Is} {seen = seen} {old = old} {new = new} h = reads-so g Is old new seen h

  -- the first look fails
  pub first-fails : {T U E F : Type 0} {Read : List Content → T → Type 0} {Is : List Content → U → Type 0} {read : Result T E} {result : Result U F} {old new : Cache L} → IsErr result
      → Performs g (Reads read Read) old new → Performs g (Reads result Is) old new
  first-fails {Read = Read} {Is = Is} {read = read} {result = result} {old = old} {new = new} failed h = reads-fail g Is result old new failed (reads-quiet g Read read old new h)

  module _ {Was : List Content → Type 0} {old mid : Cache L} (so_far : Performs g (On Was) old mid) where
    -- a further look tells of what is read
    pub read-on : {T E : Type 0} {Read : List Content → T → Type 0} {Is : List Content → Type 0} {found : T} {new : Cache L} → ((pages : List Content) → Was pages → Read pages found → Is pages)
        → Performs g (Reads {E = E} (Ok found) Read) mid new → Performs g (On Is) old new
    read-on {Read = Read} {Is = Is} {found = found} {new = new} both next = on-then g Was (λ pages. Read pages found) Is old mid new both so_far (read-first next)

    -- a further look fails
    pub read-fails : {T U E F : Type 0} {Read : List Content → T → Type 0} {Is : List Content → U → Type 0} {read : Result T E} {result : Result U F} {new : Cache L} → IsErr result
        → Performs g (Reads read Read) mid new → Performs g (Reads result Is) old new
    read-fails {Read = Read} {Is = Is} {read = read} {result = result} {new = new} failed next = reads-fail g Is result old new failed (on-quiet g Was old mid new so_far (reads-quiet g Read read mid new next))

    -- what a further look tells is so too
    pub read-also : {T E : Type 0} {Read : List Content → T → Type 0} {found : T} {new : Cache L} → Performs g (Reads {E = E} (Ok found) Read) mid new
        → Performs g (On (λ pages. Was pages × Read pages found)) old new
    read-also next = read-on (λ pages was read. (was, read)) next

    -- a further look tells the answer
    pub read-done : {T U E F : Type 0} {Read : List Content → T → Type 0} {Is : List Content → U → Type 0} {found : T} {answer : U} {new : Cache L}
        → ((pages : List Content) → Was pages → Read pages found → Is pages answer) → Performs g (Reads {E = E} (Ok found) Read) mid new → Performs g (Reads {E = F} (Ok answer) Is) old new
    read-done {Is = Is} {answer = answer} {new = new} both next = reads-ok g Is old new answer (read-on both next)

    -- what a further look answers says more with what was seen
    pub read-then : {T E : Type 0} {Read Is : List Content → T → Type 0} {result : Result T E} {new : Cache L} → ((pages : List Content) → Was pages → (answer : T) → Read pages answer → Is pages answer)
        → Performs g (Reads result Read) mid new → Performs g (Reads result Is) old new
    read-then {result = Ok answer} both next = read-done (λ pages was read. both pages was answer read) next
    read-then {result = Err e} both next = read-fails refl next

    -- what was seen is the answer
    pub read-ends : {T E : Type 0} {Is : List Content → T → Type 0} {answer : T} → ((pages : List Content) → Was pages → Is pages answer) → Performs g (Reads {E = E} (Ok answer) Is) old mid
    read-ends {Is = Is} {answer = answer} into = reads-ok g Is old mid answer (on-weaker g Was (λ pages. Is pages answer) old mid into so_far)

    -- it goes on for too long
    pub read-lost : {T E : Type 0} {Is : List Content → T → Type 0} {e : E} → Performs g (Reads (Err e) Is) old mid
    read-lost {Is = Is} {e = e} = reads-err g Is old mid e (on-any g Was old mid so_far)

-- ---- turns of a search

-- where a node leads the keys right before a bound
routes-before : (bound : Bound Bytes) (n : WholeNode) (turn : Turn) (page : ℕ) → RoutesBefore bound turn n → (turn ≡ Down page) ⊎ (turn ≡ Right page) → LeadsBefore n bound page
routes-before bound n turn page is (inl e) = inl (subst (λ (t : Turn). RoutesBefore bound t n) e is)
routes-before bound n turn page is (inr e) = inr (subst (λ (t : Turn). RoutesBefore bound t n) e is)

module _ {L : Type 0} (g : Ghosts L) (root at : ℕ) (old mid new : Cache L) (turn : Turn) where
  module _ (key : Bytes) (so_far : Performs g (On (λ pages. Leads pages key root at)) old mid)
      (seen : Performs g (Reads {E = Error} (Ok turn) (λ pages turn. HasNodeAt pages at (Routes key turn))) mid new) where
    pub turn-on : (page : ℕ) → (turn ≡ Down page) ⊎ (turn ≡ Right page) → Performs g (On (λ pages. Leads pages key root page)) old new
    turn-on page is = read-on g so_far (λ pages a b. (suc a.0, goes-then pages key a.0 root at page a.1 (b.0, b.1, routes-on key b.0 turn page b.2 is))) seen

    pub turn-here : turn ≡ Here → Performs g (Reads {E = Error} (Ok at) (λ pages leaf. ComesToLeafOf pages key key leaf root)) old new
    turn-here is = read-done g so_far
        (λ pages a b. let leaf : IsLeafOf key b.0 = subst (λ (t : Turn). Routes key t b.0) is b.2 in
        goes-finds pages key (λ pid n. (pid ≡ at) × IsInRange n key) a.0 root at a.1 (b.0, b.1, (leaf, (refl, leaf.1)))) seen

  module _ (bound : Bound Bytes) (so_far : Performs g (On (LedBefore root bound at)) old mid)
      (seen : Performs g (Reads {E = Error} (Ok turn) (λ pages turn. HasNodeAt pages at (RoutesBefore bound turn))) mid new) where
    pub turn-on-before : (page : ℕ) → (turn ≡ Down page) ⊎ (turn ≡ Right page) → Performs g (On (LedBefore root bound page)) old new
    turn-on-before page is = read-on g so_far (λ pages a b. (suc a.0, before-then pages bound a.0 root at page a.1 (b.0, b.1, routes-before bound b.0 turn page b.2 is))) seen

    pub turn-here-before : turn ≡ Here → Performs g (Reads {E = Error} (Ok at) (λ pages leaf. ComesBefore pages root bound leaf)) old new
    turn-here-before is = read-done g so_far (λ pages a b. (a.0, a.1, (b.0, b.1, subst (λ (t : Turn). RoutesBefore bound t b.0) is b.2))) seen

pub begins-before : {L : Type 0} (g : Ghosts L) (root : ℕ) (bound : Bound Bytes) (c : Cache L) → Performs g (On (LedBefore root bound root)) c c
begins-before g root bound c = on-weaker g (λ _. Unit {0}) (LedBefore root bound root) c c (λ pages _. (zero, refl)) (nothing g c)
