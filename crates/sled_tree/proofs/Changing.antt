-- One of the maps is changed.
use Rattle.std.proofs.Common.{◌≡◌, ◌∙◌, inl, ℕ, true, false, List, ◌++◌, Option, Some, None, Result, Ok, Err, slice_set, refl, sym, ap, subst}
use Rattle.std.proofs.lemmas.Bool.{false≢true}
use Rattle.std.specs.Option.{is_some}
use Rattle.std.specs.Prelude.{IfOk, IsErr}
use Rattle.sled_base.specs.Order.{Bytes}
use Rattle.sled_base.specs.declared.types.Error.{Error}
use Rattle.sled_log.specs.Contents.{Content, Node, Update}
use Rattle.sled_log.specs.Events.{Event}
use Rattle.sled_log.specs.declared.log.Log.{Ghosts}
use Rattle.sled_node.specs.Links.{applied}
use Rattle.sled_node.specs.Node.{WholeNode, Value, IsInRange}
use Rattle.sled_node.specs.Pairs.{set_pair, del_pair}
use Rattle.sled_node.specs.declared.node.link.Link.{Link as NodeLink}
use Rattle.sled_node.specs.declared.node.link.Link.TheVariants.{Set, Del}
use Rattle.sled_pagecache.specs.Cache.{Cache}
use Rattle.sled_pagecache.specs.State.{State, contents_of}
use Rattle.sled_search.specs.Map.{Map, at_key}
use Rattle.sled_search.specs.Maps.{AreTrees, with_map}
use Rattle.sled_search.specs.Search.{HasAt, ComesToLeafOf, IsTreeOf}
use Rattle.sled_search.proofs.OneOfMany.{set-among, del-among}
use Rattle.sled_search.proofs.Search.{goes-finds, one_found}
use Rattle.sled_search.proofs.Trees.{with_pairs}
use Rattle.sled_tree.specs.Changed.{Reads, Makes, Ends}
use Rattle.sled_tree.specs.Maps.{Follows, Keeps, Stays, SetsKey, TakesKey, ChangesMap}
use Rattle.sled_tree.specs.Named.{Named, AreNamed, with_map_at}
use Rattle.sled_tree.specs.Performs.{Performs}
use Rattle.sled_tree.specs.Walks.{HasRoot, IsPlaceOf, LinksPlace, MakesRoom}
use Rattle.sled_tree.specs.declared.place.Place.{Place}
use Rattle.sled_tree.proofs.Events.{ends-follows, follows-then, made-turns, quiet-follows, quiet-stays, turns-then, unless-then, unmade-stays}
use Rattle.sled_tree.proofs.Naming.{names-stay}
use Rattle.sled_tree.proofs.Performing.{Quiet, Then, then, weaker}

pub none-of : {T : Type 0} (o : Option T) → is_some o ≡ false → o ≡ None
none-of None h = refl
none-of (Some x) h = absurd (false≢true (sym h))

pub some-of : {T : Type 0} (o : Option T) → is_some o ≡ true → (x : T) × (o ≡ Some x)
some-of None h = absurd (false≢true h)
some-of (Some x) h = (x, refl)

-- ---- a leaf that is changed

module _ (pages : List Content) (root : ℕ) (key : Bytes) (place : Place) (is : IsPlaceOf pages root key place) where
  abbrev pub node_of : WholeNode
  node_of = is.has.0

  -- what the map has at the key
  pub before-is : (m : Map) → IsTreeOf pages root m → place.value ≡ at_key m key
  before-is m tree =
      let (i, x) = goes-finds pages key (λ _ n. HasAt key place.value n) is.leads.0 root place.token.pid is.leads.1 (is.has.0, is.has.1, is.has.2.0) in
      one_found pages key place.value (at_key m key) i (tree.comes key).0 root x (tree.comes key).1

  comes-here : ComesToLeafOf pages key key place.token.pid root
  comes-here = goes-finds pages key (λ pid n. (pid ≡ place.token.pid) × IsInRange n key) is.leads.0 root place.token.pid is.leads.1 (is.has.0, is.has.1, (is.has.2.0.0, (refl, is.has.2.0.0.1)))

  module _ (w : Named) (are : AreNamed pages w) (m : Map) (has : w.maps root ≡ Some m) where
    pub set-named : (value : Bytes) → AreNamed (slice_set pages place.token.pid (Node (applied (Set place.stored value) node_of))) (with_map_at root (set_pair key value m) w)
    set-named value = record {
      names = names-stay pages w.names are.names place.token.pid node_of is.has.1 (Node (applied (Set place.stored value) node_of));
      trees = subst (λ (k : Bytes). AreTrees (slice_set pages place.token.pid (Node (with_pairs is.has.0 (set_pair k (Value value) is.has.0.pairs)))) (with_map root (set_pair key value m) w.maps)) (sym is.has.2.1)
          (set-among pages w.maps root are.trees m has place.token.pid is.has.0 is.has.1 key comes-here value);
    }

    pub del-named : AreNamed (slice_set pages place.token.pid (Node (applied (Del place.stored) node_of))) (with_map_at root (del_pair key m) w)
    del-named = record {
      names = names-stay pages w.names are.names place.token.pid node_of is.has.1 (Node (applied (Del place.stored) node_of));
      trees = subst (λ (k : Bytes). AreTrees (slice_set pages place.token.pid (Node (with_pairs is.has.0 (del_pair k is.has.0.pairs)))) (with_map root (del_pair key m) w.maps)) (sym is.has.2.1)
          (del-among pages w.maps root are.trees m has place.token.pid is.has.0 is.has.1 key comes-here);
    }

-- Room was made, and the place found: then the key is set there.
module _ {E : Type 0} (root : ℕ) (key value : Bytes) (place : Place) (result : Result (Option Bytes) E) (before : IfOk result (λ b. b ≡ place.value)) (s mid t : State) (first later : List (Event Update))
    (room : MakesRoom {E = Error} root key (Ok place) s first mid) (links : LinksPlace place (Set place.stored value) result mid later t) where
  abbrev is : IsPlaceOf (contents_of mid) root key place
  is = room.1

  abbrev changed : List Content
  changed = slice_set (contents_of mid) place.token.pid (Node (applied (Set place.stored value) (node_of (contents_of mid) root key place is)))

  set-ends : Ends result mid changed later t
  set-ends = links.ends is.has.0 is.has.1

  set-follows : Follows mid later t
  set-follows = record { stuck = links.stuck; pages = ends-follows result mid t changed later set-ends }

  pub set-made : ChangesMap root (SetsKey root key value result) s (first ++ later) t
  set-made = record { follows = follows-then s mid t first later room.0.follows set-follows; does = λ w m are has. by w m has (room.0.stays w are (m, has)) result before set-ends }
    where
      by : (w : Named) (m : Map) → w.maps root ≡ Some m → Stays s w first mid → (result : Result (Option Bytes) E) → IfOk result (λ b. b ≡ place.value) → Ends result mid changed later t → SetsKey root key value result s (first ++ later) t w m
      by w m has so_far (Ok b) had ends = (
        had ∙ before-is (contents_of mid) root key place is m (so_far.1.trees.each root m has),
        turns-then w s mid t first later room.0.follows set-follows so_far (with_map_at root (set_pair key value m) w) (λ none. subst (λ (es : List (Event Update)). Makes (contents_of mid) changed es) none ends.0)
            (made-turns w (with_map_at root (set_pair key value m) w) mid t changed later ends so_far.1 (set-named (contents_of mid) root key place is w so_far.1 m has value)),
      )
      by w m has so_far (Err e) had ends =
          unless-then w s mid t first later room.0.follows set-follows so_far (with_map_at root (set_pair key value m) w)
          (unmade-stays w (with_map_at root (set_pair key value m) w) mid t changed later ends so_far.1 (set-named (contents_of mid) root key place is w so_far.1 m has value))

-- A key that has a value is taken out of its leaf.
module _ {E : Type 0} (root : ℕ) (key had : Bytes) (place : Place) (is_there : place.value ≡ Some had) (result : Result (Option Bytes) E) (before : IfOk result (λ b. b ≡ place.value)) (s t : State) (events : List (Event Update))
    (is : IsPlaceOf (contents_of s) root key place) (links : LinksPlace place (Del place.stored) result s events t) where
  abbrev taken : List Content
  taken = slice_set (contents_of s) place.token.pid (Node (applied (Del place.stored) (node_of (contents_of s) root key place is)))

  taken-ends : Ends result s taken events t
  taken-ends = links.ends is.has.0 is.has.1

  pub del-made : ChangesMap root (TakesKey root key result) s events t
  del-made = record {
    follows = record { stuck = links.stuck; pages = ends-follows result s t taken events taken-ends };
    does = λ w m are has. by w m are has result before taken-ends;
  }
    where
      by : (w : Named) (m : Map) → AreNamed (contents_of s) w → w.maps root ≡ Some m → (result : Result (Option Bytes) E) → IfOk result (λ b. b ≡ place.value) → Ends result s taken events t → TakesKey root key result s events t w m
      by w m are has (Ok None) same ends = absurd (let e = same ∙ is_there in cc)
      by w m are has (Ok (Some b)) same ends = (
        same ∙ before-is (contents_of s) root key place is m (are.trees.each root m has),
        made-turns w (with_map_at root (del_pair key m) w) s t taken events ends are (del-named (contents_of s) root key place is w are m has),
      )
      by w m are has (Err e) same ends = unmade-stays w (with_map_at root (del_pair key m) w) s t taken events ends are (del-named (contents_of s) root key place is w are m has)

-- ---- the same of calls that were made

-- an error has no answer, of which anything is so
pub no-answer : {T E : Type 0} (Is : T → Type 0) (result : Result T E) → IsErr result → IfOk result Is
no-answer Is (Ok answer) failed = absurd (false≢true failed)
no-answer Is (Err e) failed = tt

-- the kind of an error doesn't matter
module _ {L : Type 0} (g : Ghosts L) {T E F : Type 0} {place : Place} {link : NodeLink} {mid new : Cache L} where
  pub links-as : {answer : T} → Performs g (LinksPlace {E = E} place link (Ok answer)) mid new → Performs g (LinksPlace {E = F} place link (Ok answer)) mid new
  links-as {answer} h = weaker g (LinksPlace {E = E} place link (Ok answer)) (LinksPlace {E = F} place link (Ok answer)) mid new (λ s t events is. record { stuck = is.stuck; ends = λ n at. is.ends n at }) h

  pub links-failed : {e : E} {result : Result T F} → IsErr result → Performs g (LinksPlace {T = T} place link (Err e)) mid new → Performs g (LinksPlace place link result) mid new
  links-failed {result = Ok answer} failed h = absurd (false≢true failed)
  links-failed {e = e} {result = Err f} failed h = weaker g (LinksPlace {T = T} place link (Err e)) (LinksPlace {T = T} place link (Err f)) mid new (λ s t events is. record { stuck = is.stuck; ends = λ n at. is.ends n at }) h

-- the place of the key is found
abbrev Found : ℕ → Bytes → Place → State → List (Event Update) → State → Type 0
Found root key place = Reads {E = Error} (Ok place) (λ pages p. IsPlaceOf pages root key p)

module _ {L : Type 0} (g : Ghosts L) {root : ℕ} {key : Bytes} {place : Place} {old mid : Cache L} where
  -- a key that has no value is left
  pub absent : (E : Type 0) → place.value ≡ None → Performs g (Found root key place) old mid → Performs g (ChangesMap root (TakesKey {E = E} root key (Ok None))) old mid
  absent E none found = weaker g (Found root key place) (ChangesMap root (TakesKey {E = E} root key (Ok None))) old mid by found
    where
      by : (s t : State) (events : List (Event Update)) → Found root key place s events t → ChangesMap root (TakesKey {E = E} root key (Ok None)) s events t
      by s t events h = record {
        follows = quiet-follows s t events (h.none, h.same, h.stuck);
        does = λ w m are has. (sym none ∙ before-is (contents_of s) root key place h.is.1 m (are.trees.each root m has), quiet-stays w s t events (h.none, h.same, h.stuck) are);
      }

  module _ {E : Type 0} {result : Result (Option Bytes) E} {new : Cache L} (before : IfOk result (λ b. b ≡ place.value)) where
    pub deleted : {had : Bytes} → place.value ≡ Some had → Performs g (Found root key place) old mid → Performs g (LinksPlace place (Del place.stored) result) mid new → Performs g (ChangesMap root (TakesKey root key result)) old new
    deleted {had} is_there found links =
        weaker g (Then (Found root key place) (LinksPlace place (Del place.stored) result)) (ChangesMap root (TakesKey root key result)) old new by (then g (Found root key place) (LinksPlace place (Del place.stored) result) old mid new found links)
      where
        by : (s t : State) (events : List (Event Update)) → Then (Found root key place) (LinksPlace place (Del place.stored) result) s events t → ChangesMap root (TakesKey root key result) s events t
        by s t events (middle, first, later, is, a, b) =
            subst (λ (es : List (Event Update)). ChangesMap root (TakesKey root key result) s es t) (sym (is ∙ ap (λ (es : List (Event Update)). es ++ later) a.none))
            (del-made root key had place is_there result before s t later a.is.1 (subst (λ (u : State). LinksPlace place (Del place.stored) result u later t) a.is.0 b))

    -- a key is set where room was made
    pub inserted : {value : Bytes} → Performs g (MakesRoom {E = Error} root key (Ok place)) old mid → Performs g (LinksPlace place (Set place.stored value) result) mid new → Performs g (ChangesMap root (SetsKey root key value result)) old new
    inserted {value} room links =
        weaker g (Then (MakesRoom {E = Error} root key (Ok place)) (LinksPlace place (Set place.stored value) result)) (ChangesMap root (SetsKey root key value result)) old new by
        (then g (MakesRoom {E = Error} root key (Ok place)) (LinksPlace place (Set place.stored value) result) old mid new room links)
      where
        by : (s t : State) (events : List (Event Update)) → Then (MakesRoom {E = Error} root key (Ok place)) (LinksPlace place (Set place.stored value) result) s events t → ChangesMap root (SetsKey root key value result) s events t
        by s t events (middle, first, later, is, a, b) =
            subst (λ (es : List (Event Update)). ChangesMap root (SetsKey root key value result) s es t) (sym is) (set-made root key value place result before s middle t first later a b)

-- ---- calls that are refused, and leave the maps

module _ {L : Type 0} (g : Ghosts L) (root : ℕ) (key : Bytes) (old new : Cache L) where
  pub set-refused : {E : Type 0} (value : Bytes) (result : Result (Option Bytes) E) → IsErr result → Performs g (Keeps (HasRoot root)) old new → Performs g (ChangesMap root (SetsKey root key value result)) old new
  set-refused value (Ok b) failed h = absurd (false≢true failed)
  set-refused {E} value (Err e) failed h = weaker g (Keeps (HasRoot root)) (ChangesMap root (SetsKey {E = E} root key value (Err e))) old new
      (λ s t events is. record { follows = is.follows; does = λ w m are has. let stays = is.stays w are (m, has) in (inl stays.0, stays.1) }) h

  pub take-refused : {E : Type 0} (result : Result (Option Bytes) E) → IsErr result → Performs g Quiet old new → Performs g (ChangesMap root (TakesKey root key result)) old new
  take-refused (Ok b) failed h = absurd (false≢true failed)
  take-refused {E} (Err e) failed h = weaker g Quiet (ChangesMap root (TakesKey {E = E} root key (Err e))) old new
      (λ s t events is. record { follows = quiet-follows s t events is; does = λ w m are has. let stays = quiet-stays w s t events is are in (inl stays.0, stays.1) }) h

-- where room was not made
pub room-failed : {L : Type 0} (g : Ghosts L) {E F : Type 0} (root : ℕ) (key value : Bytes) (result : Result (Option Bytes) E) → IsErr result → (room : Result Place F) (old new : Cache L) → Performs g (MakesRoom root key room) old new
    → Performs g (ChangesMap root (SetsKey root key value result)) old new
room-failed g root key value result failed room old new h = set-refused g root key old new value result failed (weaker g (MakesRoom root key room) (Keeps (HasRoot root)) old new (λ s t events is. is.0) h)
