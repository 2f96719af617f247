-- Turns of a search, one look after another.
use Rattle.std.proofs.Common.{◌≡◌, ◌⊎◌, ◌∙◌, inl, inr, ℕ, zero, suc, List, Option, Some, Result, Ok, Err, refl, ap, subst, slice_get}
use Rattle.std.specs.Prelude.{IsOk, IsErr, ⊤}
use Rattle.sled_base.specs.Order.{Bytes}
use Rattle.sled_base.specs.declared.types.Error.{Error}
use Rattle.sled_log.specs.Contents.{Content, Node, Update}
use Rattle.sled_log.specs.Events.{Event}
use Rattle.sled_log.specs.declared.log.Log.{Ghosts}
use Rattle.sled_node.specs.Node.{WholeNode}
use Rattle.sled_node.specs.declared.node.link.Link.{Link as NodeLink}
use Rattle.sled_pagecache.specs.Cache.{Cache}
use Rattle.sled_pagecache.specs.Rows.{IsMade}
use Rattle.sled_pagecache.specs.State.{State, Token}
use Rattle.sled_pagecache.specs.Step.{Swapped}
use Rattle.sled_pagecache.specs.declared.pagecache.handles.call.Answer.TheVariants.{Linked}
use Rattle.sled_pagecache.specs.declared.pagecache.handles.call.Call.TheVariants.{Link}
use Rattle.sled_search.specs.Routes.{Routes}
use Rattle.sled_search.specs.Search.{HasNodeAt, LeadsTo}
use Rattle.sled_search.specs.declared.turns.Turn.{Turn}
use Rattle.sled_search.specs.declared.turns.Turn.TheVariants.{Down, Right}
use Rattle.sled_search.proofs.Search.{goes-then}
use Rattle.sled_tree.specs.Changed.{Ends, EndsSwap}
use Rattle.sled_tree.specs.Performs.{Performs}
use Rattle.sled_tree.specs.Walks.{Leads, LeadsBy, LinksPlace, Says, Tells}
use Rattle.sled_tree.specs.declared.place.Look.{Look}
use Rattle.sled_tree.specs.declared.place.Look.TheVariants as look
use Rattle.sled_tree.specs.declared.place.Place.{Place}
use Rattle.sled_tree.proofs.Reaching.{leads-more}
use Rattle.sled_tree.proofs.Performing.{On, Stuck, LinkEnds, linked, nothing, on-then, on-weaker, weaker, ends-made, ends-back, ends-err}

-- where a node leads a key
pub routes-on : (key : Bytes) (n : WholeNode) (turn : Turn) (page : ℕ) → Routes key turn n → (turn ≡ Down page) ⊎ (turn ≡ Right page) → LeadsTo n key page
routes-on key n turn page is (inl e) = inl (subst (λ (t : Turn). Routes key t n) e is)
routes-on key n turn page is (inr e) = inr (subst (λ (t : Turn). Routes key t n) e is)

-- what a node says, its page tells
pub told : (pages : List Content) (key : Bytes) (pid : ℕ) (token : Token) (n : WholeNode) → token.pid ≡ pid → slice_get pages pid ≡ Some (Node n) → (found : Look) → Says token key n found → Tells pages key pid found
told pages key pid token n of-pid there (look.Here place) says = record { leaf_is = ap (λ (t : Token). t.pid) says.0 ∙ of-pid; has = (n, there, says.1) }
told pages key pid token n of-pid there look.Full says = tt
told pages key pid token n of-pid there (look.Down page) says = (n, there, says)
told pages key pid token n of-pid there (look.Right page) says = (n, there, says)

module _ {L : Type 0} (g : Ghosts L) (key : Bytes) (root : ℕ) where
  -- the search begins
  pub begins : (c : Cache L) → Performs g (On (λ pages. Leads pages key root root)) c c
  begins c = on-weaker g (λ _. ⊤) (λ pages. Leads pages key root root) c c (λ pages _. (zero, refl)) (nothing g c)

  -- it goes on
  pub goes-on : (at page : ℕ) (old mid new : Cache L) → Performs g (On (λ pages. Leads pages key root at)) old mid → Performs g (On (λ pages. HasNodeAt pages at (λ n. LeadsTo n key page))) mid new
      → Performs g (On (λ pages. Leads pages key root page)) old new
  goes-on at page old mid new so_far next =
      on-then g (λ pages. Leads pages key root at) (λ pages. HasNodeAt pages at (λ n. LeadsTo n key page)) (λ pages. Leads pages key root page) old mid new
      (λ pages a b. (suc a.0, goes-then pages key a.0 root at page a.1 b)) so_far next

-- ---- the link of a place

module _ {L : Type 0} (g : Ghosts L) {T E : Type 0} (place : Place) (link : NodeLink) (result : Result T E) (old new : Cache L) where
  links-by : (answer : Swapped NodeLink) → IsMade g old (Link place.token link) (Linked answer) new
      → ((s t : State) (changed : List Content) (events : List (Event Update)) → EndsSwap answer s changed events t → Ends result s changed events t) → Performs g (LinksPlace place link result) old new
  links-by answer made into =
      weaker g (λ s events t. Stuck s events t × LinkEnds g place.token link answer s events t) (LinksPlace place link result) old new
      (λ s t events h. record { stuck = h.0; ends = λ n there. into s t _ events (h.1 n there) }) (linked g old new place.token link answer made)

  pub link-made : (made : Token) → IsMade g old (Link place.token link) (Linked (Ok (Ok made))) new → IsOk result → Performs g (LinksPlace place link result) old new
  link-made made is done = links-by (Ok (Ok made)) is (λ s t changed events h. ends-made g NodeLink s t changed events made result done h)

  pub link-back : (back : Option (Token × NodeLink)) → IsMade g old (Link place.token link) (Linked (Ok (Err back))) new → IsErr result → Performs g (LinksPlace place link result) old new
  link-back back is failed = links-by (Ok (Err back)) is (λ s t changed events h. ends-back g s t changed events back result failed h)

  pub link-err : (e : Error) → IsMade g old (Link place.token link) (Linked (Err e)) new → IsErr result → Performs g (LinksPlace place link result) old new
  link-err e is failed = links-by (Err e) is (λ s t changed events h. ends-err g NodeLink s t changed events e result failed h)

-- ---- a search for room goes on

module _ {L : Type 0} (g : Ghosts L) (key : Bytes) (root : ℕ) where
  -- it begins at the root
  pub seek-begins : (c : Cache L) → Performs g (On (λ pages. LeadsBy pages key root root root)) c c
  seek-begins c = on-weaker g (λ _. ⊤) (λ pages. LeadsBy pages key root root root) c c (λ pages _. ((zero, refl), (zero, refl))) (nothing g c)

  module _ (above at page : ℕ) (old mid new : Cache L) (so_far : Performs g (On (λ pages. LeadsBy pages key root above at)) old mid) where
    -- it goes down from where it is, or on to the right
    pub seek-down : Performs g (On (λ pages. HasNodeAt pages at (λ n. LeadsTo n key page))) mid new → Performs g (On (λ pages. LeadsBy pages key root at page)) old new
    seek-down next =
        on-then g (λ pages. LeadsBy pages key root above at) (λ pages. HasNodeAt pages at (λ n. LeadsTo n key page)) (λ pages. LeadsBy pages key root at page) old mid new
        (λ pages a b. (leads-more pages key root above at a.0 a.1, (suc zero, (page, b, refl)))) so_far next

    pub seek-right : Performs g (On (λ pages. HasNodeAt pages at (λ n. LeadsTo n key page))) mid new → Performs g (On (λ pages. LeadsBy pages key root above page)) old new
    seek-right next =
        on-then g (λ pages. LeadsBy pages key root above at) (λ pages. HasNodeAt pages at (λ n. LeadsTo n key page)) (λ pages. LeadsBy pages key root above page) old mid new
        (λ pages a b. (a.0, (suc a.1.0, goes-then pages key a.1.0 above at page a.1.1 b))) so_far next
