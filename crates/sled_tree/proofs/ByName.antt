-- Calls of the maps by their names: a look for the map, and what is done with the one that is found.
use Rattle.std.proofs.Common.{◌≡◌, inl, ℕ, false, List, [], Option, None, Some, Result, Ok, Err, sym, ap, subst}
use Rattle.std.specs.Option.{is_some, option_map}
use Rattle.std.specs.Prelude.{IsErr, IsErrAnd}
use Rattle.std.proofs.lemmas.Bool.{false≢true}
use Rattle.sled_base.specs.Order.{Bytes}
use Rattle.sled_log.specs.Contents.{Content, Update}
use Rattle.sled_log.specs.Events.{Event}
use Rattle.sled_log.specs.declared.log.Log.{Ghosts}
use Rattle.sled_node.specs.Meta as meta
use Rattle.sled_pagecache.specs.Cache.{Cache}
use Rattle.sled_pagecache.specs.State.{State}
use Rattle.sled_search.specs.Map.{Map}
use Rattle.sled_search.specs.Search.{IsTreeOf}
use Rattle.sled_tree.specs.ByName.{IsOfMap, OpensThen, SwapsNone, map_at, map_of, pairs_in}
use Rattle.sled_tree.specs.Changed.{Reads}
use Rattle.sled_tree.specs.Dropping.{HasMap, IsMapOf}
use Rattle.sled_tree.specs.Maps.{SwapsKey, root_of}
use Rattle.sled_tree.specs.Named.{AreNamed, Named}
use Rattle.sled_tree.specs.Names.{OpensMap}
use Rattle.sled_tree.specs.Performs.{Performs}
use Rattle.sled_tree.specs.declared.error.TreeError.{TreeError}
use Rattle.sled_tree.specs.declared.trees.Tree.{Tree}
use Rattle.sled_tree.proofs.Events.{quiet-follows, quiet-stays}
use Rattle.sled_tree.proofs.Performing.{Quiet, on-then, on-weaker, reads-err, reads-fail, reads-ok, reads-quiet, reads-so, weaker}

-- the error that was handed on
pub is-error : {T E : Type 0} (result : Result T E) (e : E) → IsErrAnd result (λ f. f ≡ e) → result ≡ Err e
is-error (Ok answer) e h = absurd h
is-error (Err f) e h = ap Err h

-- what is so of the map at the root of a name is so of the map of the name
of-root : {T : Type 0} (Is : Map → T → Type 0) (name : Bytes) (pages : List Content) (answer : T) (w : Named) (root : ℕ)
    → Some root ≡ meta.root_of name w.names → AreNamed pages w → HasMap name w → ((m : Map) → IsTreeOf pages root m → Is m answer) → Is (map_of name w) answer
of-root Is name pages answer w root at named has said =
    let there = has root (sym at) in
    subst (λ (o : Option ℕ). Is (map_at w.maps o) answer) at
    (subst (λ (o : Option Map). Is (pairs_in o) answer) (sym there.1) (said there.0 (named.trees.each root there.0 there.1)))

module _ {L : Type 0} (g : Ghosts L) (name : Bytes) where
  -- what a read of the map at a root answers
  abbrev pub ReadsRoot : {T E : Type 0} → (Map → T → Type 0) → ℕ → Result T E → Cache L → Cache L → Type 0
  ReadsRoot Is root result old new = Performs g (Reads result (λ pages answer. (m : Map) → IsTreeOf pages root m → Is m answer)) old new

  pub reads-found : {T E F : Type 0} (Is : Map → T → Type 0) (tree : Tree) (result : Result T F) (old new : Cache L) → Performs g (Reads {E = E} (Ok (Some tree)) (IsMapOf name)) old old
      → ReadsRoot Is (root_of tree) result old new → Performs g (Reads result (IsOfMap name Is)) old new
  reads-found {E = E} Is tree (Ok answer) old new look read =
      reads-ok g (IsOfMap name Is) old new answer
      (on-then g (λ pages. IsMapOf name pages (Some tree)) (λ pages. (m : Map) → IsTreeOf pages (root_of tree) m → Is m answer) (λ pages. IsOfMap name Is pages answer) old old new
      (λ pages found said w named has. of-root Is name pages answer w (root_of tree) (found w named) named has said)
      (reads-so g {E = E} (IsMapOf name) old old (Some tree) look)
      (reads-so g (λ pages answer. (m : Map) → IsTreeOf pages (root_of tree) m → Is m answer) old new answer read))
  reads-found Is tree (Err e) old new look read =
      reads-err g (IsOfMap name Is) old new e (reads-quiet g (λ pages answer. (m : Map) → IsTreeOf pages (root_of tree) m → Is m answer) (Err e) old new read)

  -- a name without a root is one of an empty map
  pub reads-absent : {T E F : Type 0} (Is : Map → T → Type 0) (answer : T) (c : Cache L) → Is [] answer → Performs g (Reads {E = E} (Ok None) (IsMapOf name)) c c → Performs g (Reads {E = F} (Ok answer) (IsOfMap name Is)) c c
  reads-absent {E = E} Is answer c is look =
      reads-ok g (IsOfMap name Is) c c answer
      (on-weaker g (λ pages. IsMapOf name pages None) (λ pages. IsOfMap name Is pages answer) c c
      (λ pages none w named has. subst (λ (o : Option ℕ). Is (map_at w.maps o) answer) (none w named) is)
      (reads-so g {E = E} (IsMapOf name) c c None look))

  pub reads-unfound : {T E F : Type 0} (Is : Map → T → Type 0) (e : E) (result : Result T F) (c : Cache L) → IsErr result → Performs g (Reads {T = Option Tree} (Err e) (IsMapOf name)) c c → Performs g (Reads result (IsOfMap name Is)) c c
  reads-unfound {E = E} Is e result c failed look = reads-fail g (IsOfMap name Is) result c c failed (reads-quiet g (IsMapOf name) (Err e) c c look)

  -- a map that is found is opened by that
  pub found-opens : {E F : Type 0} (tree : Tree) (c : Cache L) → Performs g (Reads {E = E} (Ok (Some tree)) (IsMapOf name)) c c → Performs g (OpensMap {E = F} root_of name (Ok tree)) c c
  found-opens {E} {F} tree c look = weaker g (Reads {E = E} (Ok (Some tree)) (IsMapOf name)) (OpensMap {E = F} root_of name (Ok tree)) c c by look
    where
      by : (s t : State) (events : List (Event Update)) → Reads {E = E} (Ok (Some tree)) (IsMapOf name) s events t → OpensMap {E = F} root_of name (Ok tree) s events t
      by s t events read = let quiet : Quiet s events t = (read.none, read.same, read.stuck) in record {
        follows = quiet-follows s t events quiet;
        does = λ w named. inl (sym (read.is.1 w named), quiet-stays w s t events quiet named);
      }

  pub unfound-opens : {E F : Type 0} (e : E) (result : Result Tree F) (c : Cache L) → IsErr result → Performs g (Reads {T = Option Tree} (Err e) (IsMapOf name)) c c → Performs g (OpensMap root_of name result) c c
  unfound-opens e (Ok tree) c failed look = absurd (false≢true failed)
  unfound-opens {E} {F} e (Err f) c failed look = weaker g (Reads {T = Option Tree} (Err e) (IsMapOf name)) (OpensMap {T = Tree} root_of name (Err f)) c c by look
    where
      by : (s t : State) (events : List (Event Update)) → Reads {T = Option Tree} (Err e) (IsMapOf name) s events t → OpensMap {T = Tree} root_of name (Err f) s events t
      by s t events read = let quiet : Quiet s events t = (read.none, read.same, read.stuck) in record {
        follows = quiet-follows s t events quiet;
        does = λ w named. inl (quiet-stays w s t events quiet named);
      }

  -- a swap where the name has no map, and the key is to have none before and this value then
  pub swaps-new : {X : Type 0} (key : Bytes) (old : Option X) (bytes : X → Bytes) (new : Option Bytes) (value : Bytes) → is_some old ≡ false → new ≡ Some value
      → (result : Result (Result (Unit {0}) (Option Bytes)) TreeError) (from to : Cache L) → OpensThen g name (λ root. SwapsKey root key None (Some value)) result from to
      → SwapsNone g name key (option_map bytes old) new result from to
  swaps-new key None bytes new value none is result from to opens = subst (λ (n : Option Bytes). SwapsNone g name key None n result from to) (sym is) opens
  swaps-new key (Some x) bytes new value none is result from to opens = absurd (false≢true (sym none))
