-- Dropping a map by its name.
use Rattle.std.proofs.Common.{◌≡◌, ◌≢◌, ◌⊎◌, ◌∙◌, inl, inr, ℕ, Bool, true, false, List, ◌++◌, Some, None, Result, Ok, Err, slice_get, slice_set, slice_index_or, refl, sym, ap, subst}
use Rattle.std.specs.Prelude.{IsErr}
use Rattle.std.proofs.lemmas.Bool.{false≢true}
use Rattle.std.proofs.lemmas.List.{append-nil}
use Rattle.std.specs.Global.{Vec}
use Rattle.sled_base.specs.Order.{Bytes}
use Rattle.sled_log.specs.Contents.{Content, Node, Roots, Update}
use Rattle.sled_log.specs.Events.{Event}
use Rattle.sled_log.specs.declared.log.Log.{Ghosts}
use Rattle.sled_node.specs.Meta as meta
use Rattle.sled_node.specs.Node.{WholeNode}
use Rattle.sled_pagecache.specs.Cache.{Cache}
use Rattle.sled_pagecache.specs.Limits.{meta_pid}
use Rattle.sled_pagecache.specs.State.{State, contents_of, Token}
use Rattle.sled_search.specs.Calls.{Becomes}
use Rattle.sled_search.specs.Maps.{AreTrees, ChangesOne, HasTree, IsOff, Reaches, without_map}
use Rattle.sled_search.proofs.InARow.{two-parts}
use Rattle.sled_search.proofs.Off.{all-off, no-node-off, stays-off}
use Rattle.sled_search.proofs.OneOfMany.{set-one}
use Rattle.sled_search.proofs.Together.{dropped-off, one-less}
use Rattle.sled_tree.specs.Changed.{Reads}
use Rattle.sled_tree.specs.Dropping.{AreLoose, AreReached, DropsMap, IsRootOf, Unnames, without}
use Rattle.sled_tree.specs.Maps.{Follows, Keeps, Stays, Turns}
use Rattle.sled_tree.specs.Named.{Named, AreNamed}
use Rattle.sled_tree.specs.Performs.{Performs}
use Rattle.sled_tree.proofs.Events.{follows-then, known, made-turns, quiet-follows, quiet-stays, unmade-stays}
use Rattle.sled_tree.proofs.Keeping.{on-deed}
use Rattle.sled_tree.proofs.Lists.{set-at}
use Rattle.sled_tree.proofs.Performing.{On, Quiet, Then, on-then, reads-so, then, weaker}

-- ---- the name is taken out: what the pages are behind it

module _ (pages : List Content) (name : Bytes) (root : ℕ) (w : Named) (are : AreNamed pages w) where
  abbrev unnamed : List Content
  unnamed = slice_set pages meta_pid (Roots (meta.without_root name w.names))

  unname-one : ChangesOne pages meta_pid unnamed
  unname-one = set-one pages meta_pid (Roots (meta.without_root name w.names))

  no-node : (n : WholeNode) → slice_get pages meta_pid ≡ Some (Node n) → ⊥
  no-node n there = let e : Some (Roots w.names) ≡ Some (Node n) = sym are.names ∙ there in cc

  others : AreTrees pages (without_map root w.maps)
  others = one-less pages w.maps root are.trees

  names-off : IsOff pages (without_map root w.maps) meta_pid
  names-off = no-node-off pages (without_map root w.maps) meta_pid others no-node

  is-without : AreNamed unnamed (without name root w)
  is-without = record {
    names = set-at pages meta_pid (Roots w.names) (Roots (meta.without_root name w.names)) are.names;
    trees = all-off pages unnamed (without_map root w.maps) meta_pid others names-off unname-one;
  }

  module _ (has : HasTree w.maps root) where
    loose-one : (page : ℕ) → Reaches pages root page → (page ≢ meta_pid) × IsOff unnamed (without_map root w.maps) page
    loose-one page reaches = (
      λ is. no-node-off pages w.maps meta_pid are.trees no-node root has (subst (λ (p : ℕ). Reaches pages root p) is reaches),
      stays-off pages unnamed (without_map root w.maps) meta_pid names-off unname-one page (dropped-off pages w.maps root page are.trees has reaches),
    )

    are-loose : (tokens : List Token) → AreReached root tokens pages → AreLoose tokens unnamed (without name root w)
    are-loose tokens reached = λ k d lt. loose-one (slice_index_or tokens k d).pid (reached k d lt)

-- ---- maps that turned, and then stay

module _ (old new : Named) (s mid t : State) (first later : List (Event Update)) (before : Follows s first mid) (behind : Follows mid later t) (so_far : Turns s old first new mid) (more : Stays mid new later t) where
  turns-and-stays : Turns s old (first ++ later) new t
  turns-and-stays = (by (known mid.fault), more.1)
    where
      by : (mid.fault ≡ true) ⊎ (mid.fault ≡ false) → Becomes AreNamed (contents_of s) old (first ++ later) new
      by (inl kept) = subst (λ (es : List (Event Update)). Becomes AreNamed (contents_of s) old es new) (sym (ap (λ (es : List (Event Update)). first ++ es) (behind.stuck kept).0 ∙ append-nil first)) so_far.0
      by (inr none) = two-parts AreNamed (contents_of s) old new new first later so_far.0 (subst (λ (ps : List Content). Becomes AreNamed ps new later new) (before.pages none) more.0) (inr refl)

-- ---- the call

-- the name has that root, and searches from there are at the pages that were gathered
abbrev pub HasPages : Bytes → ℕ → List Token → List Content → Type 0
HasPages name root tokens pages = IsRootOf name pages (Some root) × AreReached root tokens pages

module _ {L : Type 0} (g : Ghosts L) (name : Bytes) where
  -- nothing was done
  quiet-drops : {E : Type 0} (e : E) (s t : State) (events : List (Event Update)) → Quiet s events t → DropsMap name (Err e) s events t
  quiet-drops e s t events h = record { follows = quiet-follows s t events h; does = λ w are has. inl (quiet-stays w s t events h are) }

  pub drops-none : {E : Type 0} (result : Result Bool E) → IsErr result → (old new : Cache L) → Performs g Quiet old new → Performs g (DropsMap name result) old new
  drops-none (Ok b) failed old new h = absurd (false≢true failed)
  drops-none (Err e) failed old new h = weaker g Quiet (DropsMap name (Err e)) old new (λ s t events is. quiet-drops e s t events is) h

  -- the name has no root
  pub drops-absent : {E : Type 0} (old new : Cache L) → Performs g (On (λ pages. IsRootOf name pages None)) old new → Performs g (DropsMap {E = E} name (Ok false)) old new
  drops-absent {E} old new h = weaker g (On (λ pages. IsRootOf name pages None)) (DropsMap {E = E} name (Ok false)) old new by h
    where
      by : (s t : State) (events : List (Event Update)) → On (λ pages. IsRootOf name pages None) s events t → DropsMap {E = E} name (Ok false) s events t
      by s t events on =
          let quiet : Quiet s events t = (on.none, ap contents_of on.same, λ _. on.same) in
          record { follows = quiet-follows s t events quiet; does = λ w are has. (sym (on.is w are), quiet-stays w s t events quiet are) }

  module _ (root : ℕ) (tokens : List Token) where
    -- the name isn't taken out
    unname-failed : {T E F : Type 0} (e : E) (f : F) (s t : State) (events : List (Event Update)) → HasPages name root tokens (contents_of s) → Unnames {T = T} name root (Err e) s events t → DropsMap name (Err f) s events t
    unname-failed e f s t events has h = record {
      follows = h.follows;
      does = λ w are map.
          let is = sym (has.0 w are) in
          inr (root, is, unmade-stays w (without name root w) s t _ events (h.ends w.names are.names is) are (is-without (contents_of s) name root w are));
    }

    pub drops-failed : {T E F : Type 0} (e : E) (result : Result Bool F) → IsErr result → (old mid new : Cache L) → Performs g (On (HasPages name root tokens)) old mid → Performs g (Unnames {T = T} name root (Err e)) mid new → Performs g (DropsMap name result) old new
    drops-failed e (Ok b) failed old mid new first later = absurd (false≢true failed)
    drops-failed {T} {E} {F} e (Err f) failed old mid new first later =
        on-deed g (λ s t events has h. unname-failed {T = T} {E = E} {F = F} e f s t events has h) first later

    -- it is, and then pages are freed
    unnamed-then : {T E F : Type 0} (done : T) (s t : State) (events : List (Event Update)) → HasPages name root tokens (contents_of s) → Then (Unnames {E = E} name root (Ok done)) (Keeps (AreLoose tokens)) s events t
        → DropsMap {E = F} name (Ok true) s events t
    unnamed-then {T} {E} {F} done s t events has (mid, first, later, is, a, b) = subst (λ (es : List (Event Update)). DropsMap {E = F} name (Ok true) s es t) (sym is) (record {
      follows = follows-then s mid t first later a.follows b.follows;
      does = λ w are map.
          let named = sym (has.0 w are) in
          let made = a.ends w.names are.names named in
          let other = is-without (contents_of s) name root w are in
          let turns = made-turns w (without name root w) s mid _ first made are other in
          let loose = subst (λ (ps : List Content). AreLoose tokens ps (without name root w)) (sym made.1) (are-loose (contents_of s) name root w are (map root named) tokens has.1) in
          (root, named, turns-and-stays w (without name root w) s mid t first later a.follows b.follows turns (b.stays (without name root w) turns.1 loose));
    })

    pub drops : {T E F : Type 0} (done : T) (old looked mid new : Cache L) → Performs g (On (HasPages name root tokens)) old looked → Performs g (Unnames {E = E} name root (Ok done)) looked mid → Performs g (Keeps (AreLoose tokens)) mid new
        → Performs g (DropsMap {E = F} name (Ok true)) old new
    drops {T} {E} {F} done old looked mid new first swap later =
        on-deed g (λ s t events has h. unnamed-then {T = T} {E = E} {F = F} done s t events has h) first
        (then g (Unnames {E = E} name root (Ok done)) (Keeps (AreLoose tokens)) looked mid new swap later)

  -- the root is looked for, and then the pages are
  pub looks : {E : Type 0} (root : ℕ) (found : Vec Token) (old mid new : Cache L) → Performs g (Reads {E = E} (Ok (Some root)) (IsRootOf name)) old mid → Performs g (Reads {E = E} (Ok found) (λ pages found. AreReached root found.items pages)) mid new
      → Performs g (On (HasPages name root found.items)) old new
  looks {E} root found old mid new first later = on-then g (λ pages. IsRootOf name pages (Some root)) (AreReached root found.items) (HasPages name root found.items) old mid new (λ pages a b. (a, b))
      (reads-so g {E = E} (IsRootOf name) old mid (Some root) first) (reads-so g {E = E} (λ pages found. AreReached root found.items pages) mid new found later)
