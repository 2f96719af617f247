-- Opening a map by its name.
use Rattle.std.proofs.Common.{◌≡◌, ◌≢◌, ◌⊎◌, ◌∙◌, inl, inr, ℕ, true, false, cond, List, [], ◌∷◌, ◌++◌, Option, Some, None, Result, Ok, Err, slice_get, slice_set, refl, sym, ap, subst, ◌^◌, ◌-◌, ◌+◌}
use Rattle.std.specs.Prelude.{◌==◌, IsErr, ⊤}
use Rattle.std.proofs.lemmas.Bool.{false≢true}
use Rattle.sled_base.specs.Order.{Bytes}
use Rattle.sled_base.specs.declared.types.Error.{Error}
use Rattle.sled_log.specs.Contents.{Content, Free, Counter, Roots, Node, Damaged, Update, Put, contents_from}
use Rattle.sled_log.specs.Events.{Event, Change}
use Rattle.sled_log.specs.declared.log.Log.{Ghosts}
use Rattle.sled_node.specs.Meta as meta
use Rattle.sled_node.specs.Node.{WholeNode, empty_leaf}
use Rattle.sled_pagecache.specs.Cache.{Cache, chain_length}
use Rattle.sled_pagecache.specs.Calls.{HasNoRoom}
use Rattle.sled_pagecache.specs.Rows.{IsMade, AreMade}
use Rattle.sled_pagecache.specs.State.{StampedPage, State, page, page_at, contents_of, Token}
use Rattle.sled_pagecache.specs.Step.{Outcome, no_change, GetsMeta, HoldsRoots, SwapsRoot, SetsRoot, PutsRoots, RootSwap, Does}
use Rattle.sled_pagecache.specs.Trees.{IsTreeOpened, MadeCalls, OpensTree, GoesOnWith, PutsIndex, GoesOnOver, NamesRoot, EndsSwap, FindsTree, TellsTree, index_over, IsKnown}
use Rattle.sled_pagecache.specs.declared.pagecache.handles.call.Answer.TheVariants.{Allocated, GotMeta, RootSwapped}
use Rattle.sled_pagecache.specs.declared.pagecache.handles.call.Call.TheVariants.{Allocate, GetMeta, CasRoot}
use Rattle.sled_search.specs.Maps.{IsOff, ChangesOne}
use Rattle.sled_search.proofs.Off.{all-off, no-node-off, stays-off}
use Rattle.sled_search.proofs.OneOfMany.{set-one}
use Rattle.sled_search.proofs.Together.{one-more}
use Rattle.sled_tree.specs.Changed.{Adds, Made, Makes}
use Rattle.sled_tree.specs.Maps.{Follows, KeepsMaps}
use Rattle.sled_tree.specs.Named.{Named, AreNamed, with_new}
use Rattle.sled_tree.specs.Names.{IsFree, OpensMap}
use Rattle.sled_tree.specs.Performs.{Performs}
use Rattle.sled_base.specs.declared.types.Bug.TheVariants.{MissingMeta}
use Rattle.sled_base.specs.declared.types.Error.TheVariants.{OutOfMemory, ReportableBug}
use Rattle.sled_tree.proofs.Outcomes.{fails, nothing}
use Rattle.sled_tree.proofs.Adding.{added, added-keeps, added-off, added-there, new-off}
use Rattle.sled_tree.proofs.Events.{follows-then, made-follows, made-turns, quiet-follows, turns-then, unless-then, unmade-stays}
use Rattle.sled_tree.proofs.Keeping.{Any, Fact, Kept, kept-end, kept-keeps, kept-last, kept-then, keeps-quiet, quiet-keeps}
use Rattle.sled_tree.proofs.Splitting.{allot-keeps, allot-made}
use Rattle.sled_tree.proofs.Lists.{split, map-at, map-sets, set-at, within}
use Rattle.sled_tree.proofs.Performing.{Deed, On, Quiet, Stuck, Then, Allots, Answers, allotted, one, then, weaker}
use Rattle.sled_tree.proofs.Performing.{nothing as none-made}

-- ---- the look at the named roots

abbrev pub Said : Type 0
Said = Result (Token × meta.Roots) Error

pub meta-read : (s : State) (told : Token × meta.Roots) (out : Outcome) → GetsMeta s (Ok told) out → (slice_get (contents_of s) 0 ≡ Some (Roots told.1)) × (out ≡ no_change s)
meta-read s told out step = split s.fault step (λ _ h. absurd (let e = h.0 in cc)) (λ _ h. by (page_at s 0) refl h)
  where
    of : (p : StampedPage) (c : Content) → p.content ≡ c → page_at s 0 ≡ Some p → Rattle.sled_pagecache.specs.Step.AreRoots c (λ roots. (◌≡◌ {A = Said} (Ok told) (Ok (Rattle.sled_pagecache.specs.State.token 0 p.stamp, roots))) × (out ≡ no_change s)) → (slice_get (contents_of s) 0 ≡ Some (Roots told.1)) × (out ≡ no_change s)
    of p (Roots roots) is at h =
        let e : told ≡ (Rattle.sled_pagecache.specs.State.token 0 p.stamp, roots) = (let f = h.0 in cc) in
        (map-at (λ (q : StampedPage). q.content) s.pages 0 p at ∙ ap (λ (c : Content). Some c) is ∙ ap (λ (t : Token × meta.Roots). Some (Roots t.1)) (sym e), h.1)
    of p Free is at h = absurd h
    of p (Counter n) is at h = absurd h
    of p (Node n) is at h = absurd h
    of p Damaged is at h = absurd h

    by : (found : Option StampedPage) → page_at s 0 ≡ found → HoldsRoots found (λ stamp roots. (◌≡◌ {A = Said} (Ok told) (Ok (Rattle.sled_pagecache.specs.State.token 0 stamp, roots))) × (out ≡ no_change s)) → (slice_get (contents_of s) 0 ≡ Some (Roots told.1)) × (out ≡ no_change s)
    by None at h = absurd h
    by (Some p) at h = of p p.content refl at h

pub meta-quiet : (s : State) (answer : Result (Token × meta.Roots) Error) (out : Outcome) → GetsMeta s answer out → out ≡ no_change s
meta-quiet s answer out step = grind Rattle.std.proofs.Common.arith

-- ---- a name is given its root

module _ (s : State) (name : Bytes) (root : ℕ) (roots : meta.Roots) where
  abbrev pub named : List Content
  named = slice_set (contents_of s) 0 (Roots (meta.with_root name root roots))

-- these are the names, and it is none of them
pub record HadNone (s : State) (name : Bytes) (roots : meta.Roots) : Type 0 where
  pub at : slice_get (contents_of s) 0 ≡ Some (Roots roots)
  pub none : meta.root_of name roots ≡ None

-- the swap was made; or no page changes
abbrev pub SwapEnds : Bytes → ℕ → RootSwap → Deed
SwapEnds name root (Ok (Ok done)) s events t = (roots : meta.Roots) × HadNone s name roots × Made s (named s name root roots) events t
SwapEnds name root (Ok (Err back)) s events t = (contents_of t ≡ contents_of s) × (events ≡ [])
SwapEnds name root (Err e) s events t = (contents_of t ≡ contents_of s) × ((events ≡ []) ⊎ ((roots : meta.Roots) × HadNone s name roots × Makes (contents_of s) (named s name root roots) events × (t.fault ≡ true)))

module _ (s : State) (out : Outcome) (name : Bytes) (root : ℕ) where
  refuses : (answer : RootSwap) (e : Error) → answer ≡ Err e → out ≡ no_change s → SwapEnds name root answer s out.changes out.state
  refuses answer e is same = subst (λ (a : RootSwap). SwapEnds name root a s out.changes out.state) (sym is) ((nothing s out same).0, inl (nothing s out same).1)

  module _ (messages : ℕ → ℕ) (no_room : Event Update → Type 0) where
    puts : (roots : meta.Roots) (stamp : ℕ) → HadNone s name roots → (answer : RootSwap) → PutsRoots messages no_room s stamp (meta.with_root name root roots) answer out → SwapEnds name root answer s out.changes out.state
    puts roots stamp had answer step = split (stamp == 2 ^ 64 - 1) step (λ _ h. refuses answer _ h.0 h.1) (λ _ h. by answer h)
      where
        changed : contents_from (contents_of s) (Change 0 (Put (Roots (meta.with_root name root roots)))) ≡ named s name root roots
        changed = ap (λ b. cond b (contents_of s ++ Roots (meta.with_root name root roots) ∷ []) (named s name root roots)) (within (contents_of s) 0 (Roots roots) had.at)

        makes : (events : List (Event Update)) → events ≡ Change 0 (Put (Roots (meta.with_root name root roots))) ∷ [] → Makes (contents_of s) (named s name root roots) events
        makes events is = subst (Makes (contents_of s) (named s name root roots)) (sym is) (changed, tt)

        failed : (out.changes ≡ []) ⊎ ((out.changes ≡ Change 0 (Put (Roots (meta.with_root name root roots))) ∷ []) × (out.state.fault ≡ true))
            → (out.changes ≡ []) ⊎ ((roots : meta.Roots) × HadNone s name roots × Makes (contents_of s) (named s name root roots) out.changes × (out.state.fault ≡ true))
        failed (inl none) = inl none
        failed (inr wrote) = inr (roots, had, makes out.changes wrote.0, wrote.1)

        by : (answer : RootSwap) → Does messages no_room s (Change 0 (Put (Roots (meta.with_root name root roots)))) answer out (λ swapped t. (swapped ≡ Ok tt) × (t ≡ Rattle.sled_pagecache.specs.State.with_page s 0 (page (stamp + 1) (Roots (meta.with_root name root roots)))))
            → SwapEnds name root answer s out.changes out.state
        by (Ok (Ok done)) h = (roots, had, (makes out.changes h.0, ap contents_of h.1.1 ∙ map-sets (λ (p : StampedPage). p.content) s.pages 0 (page (stamp + 1) (Roots (meta.with_root name root roots)))))
        by (Ok (Err back)) h = absurd (let e = h.1.0 in cc)
        by (Err e) h = let it = fails s out messages no_room (Change 0 (Put (Roots (meta.with_root name root roots)))) e h in (it.0, failed it.1)

    sets : (roots : meta.Roots) (stamp : ℕ) → HadNone s name roots → (answer : RootSwap) → SetsRoot messages no_room s stamp name (Some root) roots answer out → SwapEnds name root answer s out.changes out.state
    sets roots stamp had answer (inl long) = refuses answer _ long.1.0 long.1.1
    sets roots stamp had answer (inr (inl full)) = refuses answer _ full.1.0 full.1.1
    sets roots stamp had answer (inr (inr puts_it)) = puts roots stamp had answer puts_it.1

    pub swap-ends : (answer : RootSwap) → SwapsRoot messages no_room s name None (Some root) answer out → SwapEnds name root answer s out.changes out.state
    swap-ends answer step = split s.fault step (λ _ h. refuses answer _ h.0 h.1) (λ _ h. by (page_at s 0) refl h)
      where
        other : (roots : meta.Roots) → answer ≡ Ok (Err (meta.root_of name roots)) → out ≡ no_change s → SwapEnds name root answer s out.changes out.state
        other roots is same = subst (λ (a : RootSwap). SwapEnds name root a s out.changes out.state) (sym is) (nothing s out same)

        either : (roots : meta.Roots) (stamp : ℕ) → slice_get (contents_of s) 0 ≡ Some (Roots roots)
            → ((meta.root_of name roots ≢ None) × (answer ≡ Ok (Err (meta.root_of name roots))) × (out ≡ no_change s)) ⊎ ((meta.root_of name roots ≡ None) × SetsRoot messages no_room s stamp name (Some root) roots answer out) → SwapEnds name root answer s out.changes out.state
        either roots stamp at (inl h) = other roots h.1 h.2
        either roots stamp at (inr h) = sets roots stamp (record { at = at; none = h.0 }) answer h.1

        of : (p : StampedPage) (c : Content) → p.content ≡ c → page_at s 0 ≡ Some p → Rattle.sled_pagecache.specs.Step.AreRoots c (λ roots. ((meta.root_of name roots ≢ None) × (answer ≡ Ok (Err (meta.root_of name roots))) × (out ≡ no_change s)) ⊎ ((meta.root_of name roots ≡ None) × SetsRoot messages no_room s p.stamp name (Some root) roots answer out)) → SwapEnds name root answer s out.changes out.state
        of p (Roots roots) is at h = either roots p.stamp (map-at (λ (q : StampedPage). q.content) s.pages 0 p at ∙ ap (λ (c : Content). Some c) is) h
        of p Free is at h = absurd h
        of p (Counter n) is at h = absurd h
        of p (Node n) is at h = absurd h
        of p Damaged is at h = absurd h

        by : (found : Option StampedPage) → page_at s 0 ≡ found → HoldsRoots found (λ stamp roots. ((meta.root_of name roots ≢ None) × (answer ≡ Ok (Err (meta.root_of name roots))) × (out ≡ no_change s)) ⊎ ((meta.root_of name roots ≡ None) × SetsRoot messages no_room s stamp name (Some root) roots answer out)) → SwapEnds name root answer s out.changes out.state
        by None at h = absurd h
        by (Some p) at h = of p p.content refl at h

-- ---- the calls of an opening

-- an empty leaf is on a page, and an index over it on another, and no search is at either
abbrev HasLeaf : ℕ → Fact
HasLeaf leaf pages w = (slice_get pages leaf ≡ Some (Node empty_leaf)) × IsOff pages w.maps leaf

abbrev HasEmpty : ℕ → ℕ → Fact
HasEmpty leaf root pages w = HasLeaf leaf pages w × (slice_get pages root ≡ Some (Node (index_over leaf))) × IsOff pages w.maps root

pub same-names : (pages : List Content) (a b : meta.Roots) → slice_get pages 0 ≡ Some (Roots a) → slice_get pages 0 ≡ Some (Roots b) → a ≡ b
same-names pages a b at at' = let e : Some (Roots a) ≡ Some (Roots b) = sym at ∙ at' in cc

-- the name is given its root: what the pages are behind it
module _ (s : State) (name : Bytes) (leaf root : ℕ) (roots : meta.Roots) (had : HadNone s name roots) (w : Named) (are : AreNamed (contents_of s) w) (has : HasEmpty leaf root (contents_of s) w) where
  abbrev with_name : List Content
  with_name = named s name root roots

  name-one : ChangesOne (contents_of s) 0 with_name
  name-one = set-one (contents_of s) 0 (Roots (meta.with_root name root roots))

  no-node : (n : WholeNode) → slice_get (contents_of s) 0 ≡ Some (Node n) → ⊥
  no-node n there = let e : Some (Roots roots) ≡ Some (Node n) = sym had.at ∙ there in cc

  node-stays : (p : ℕ) (n : WholeNode) → slice_get (contents_of s) p ≡ Some (Node n) → slice_get with_name p ≡ Some (Node n)
  node-stays p n there = name-one p (λ is. no-node n (subst (λ (q : ℕ). slice_get (contents_of s) q ≡ Some (Node n)) is there)) ∙ there

  names-off : IsOff (contents_of s) w.maps 0
  names-off = no-node-off (contents_of s) w.maps 0 are.trees no-node

  page-off : (page : ℕ) → IsOff (contents_of s) w.maps page → IsOff with_name w.maps page
  page-off page off = stays-off (contents_of s) with_name w.maps 0 names-off name-one page off

  is-new : AreNamed with_name (with_new name root w)
  is-new = record {
    names = subst (λ (names : meta.Roots). slice_get with_name 0 ≡ Some (Roots (meta.with_root name root names))) (same-names (contents_of s) roots w.names had.at are.names)
        (set-at (contents_of s) 0 (Roots roots) (Roots (meta.with_root name root roots)) had.at);
    trees = one-more with_name w.maps root leaf (all-off (contents_of s) with_name w.maps 0 are.trees names-off name-one) (page-off root has.2) (page-off leaf has.0.1)
        (node-stays root (index_over leaf) has.1) (node-stays leaf empty_leaf has.0.0);
  }

  is-free : IsFree name root w
  is-free = (subst (λ (names : meta.Roots). meta.root_of name names ≡ None) (same-names (contents_of s) roots w.names had.at are.names) had.none, λ tree. has.2 root tree ([], 0, refl))

-- a name that has no root yet is found to have this one
tells : (name : Bytes) (roots : meta.Roots) (root : ℕ) (o : Option ℕ) → TellsTree name roots o (Ok (Some root)) → o ≡ Some root
tells name roots root (Some r) h = let e : Some root ≡ Some r = (let f = h in cc) in sym e
tells name roots root None (inl h) = absurd (let e = h.1 in cc)
tells name roots root None (inr (inl h)) = absurd (let e = h.1 in cc)
tells name roots root None (inr (inr h)) = absurd (let e = h.1 in cc)

-- the root that is answered, or an error
abbrev pub OfRoot : Bytes → Result ℕ Error → Deed
OfRoot name result = OpensMap (λ (root : ℕ). root) name result

module _ {L : Type 0} (g : Ghosts L) (name : Bytes) where
  failed-by : (result : Result ℕ Error) (e : Error) → result ≡ Err e → (old new : Cache L) → Performs g KeepsMaps old new → Performs g (OfRoot name result) old new
  failed-by result e is old new h = subst (λ (r : Result ℕ Error). Performs g (OfRoot name r) old new) (sym is)
      (weaker g KeepsMaps (OfRoot name (Err e)) old new (λ s t events k. record { follows = k.follows; does = λ w are. inl (k.stays w are tt) }) h)

  pub looked : (look : Said) (old new : Cache L) → IsMade g old GetMeta (GotMeta look) new → Performs g Quiet old new
  looked look old new made = weaker g (Answers g GetMeta (GotMeta look)) Quiet old new by (one g old new GetMeta (GotMeta look) made)
    where
      by : (s t : State) (events : List (Event Update)) → Answers g GetMeta (GotMeta look) s events t → Quiet s events t
      by s t events (cache, out, step, is, then_is) =
          let same = meta-quiet s look out step in
          (is ∙ ap (λ (o : Outcome). o.changes) same, ap contents_of (then_is ∙ ap (λ (o : Outcome). o.state) same), λ _. then_is ∙ ap (λ (o : Outcome). o.state) same)

  found : (told : Token × meta.Roots) (root : ℕ) → meta.root_of name told.1 ≡ Some root → (old new : Cache L) → IsMade g old GetMeta (GotMeta (Ok told)) new → Performs g (OfRoot name (Ok root)) old new
  found told root has old new made = weaker g (Answers g GetMeta (GotMeta (Ok told))) (OfRoot name (Ok root)) old new by (one g old new GetMeta (GotMeta (Ok told)) made)
    where
      by : (s t : State) (events : List (Event Update)) → Answers g GetMeta (GotMeta (Ok told)) s events t → OfRoot name (Ok root) s events t
      by s t events (cache, out, step, is, then_is) =
          let it = meta-read s told out step in
          let same : t ≡ s = then_is ∙ ap (λ (o : Outcome). o.state) it.1 in
          let keeps = quiet-keeps Any s t events (is ∙ ap (λ (o : Outcome). o.changes) it.1, ap contents_of same, λ _. same) in
          record {
            follows = keeps.follows;
            does = λ w are. inl (subst (λ (names : meta.Roots). meta.root_of name names ≡ Some root) (same-names (contents_of s) told.1 w.names it.0 are.names) has, keeps.stays w are tt);
          }

  -- the leaf, and then the index
  leaf-then : (leaf : ℕ) (fresh : Token) (old mid new : Cache L) → Performs g (Kept Any Any) old mid → Performs g (Allots {E = Error} empty_leaf (Ok (leaf, fresh))) mid new → Performs g (Kept Any (HasLeaf leaf)) old new
  leaf-then leaf fresh old mid new so_far more = kept-then g Any Any (HasLeaf leaf) (Allots {E = Error} empty_leaf (Ok (leaf, fresh))) old mid new
      (λ s t events made. allot-made Any (HasLeaf leaf) empty_leaf leaf fresh (λ pages adds w are so. (added-there pages leaf adds empty_leaf, new-off pages leaf adds empty_leaf w.maps are.trees)) s t events made) so_far more

  index-then : (leaf root : ℕ) (fresh : Token) (old mid new : Cache L) → Performs g (Kept Any (HasLeaf leaf)) old mid → Performs g (Allots {E = Error} (index_over leaf) (Ok (root, fresh))) mid new → Performs g (Kept Any (HasEmpty leaf root)) old new
  index-then leaf root fresh old mid new so_far more = kept-then g Any (HasLeaf leaf) (HasEmpty leaf root) (Allots {E = Error} (index_over leaf) (Ok (root, fresh))) old mid new
      (λ s t events made. allot-made (HasLeaf leaf) (HasEmpty leaf root) (index_over leaf) root fresh with-index s t events made) so_far more
    where
      with-index : (pages : List Content) (adds : Adds pages root) (w : Named) → AreNamed pages w → HasLeaf leaf pages w → HasEmpty leaf root (added pages root adds (index_over leaf)) w
      with-index pages adds w are (there, off) = (
        (added-keeps pages root adds (index_over leaf) leaf empty_leaf there, added-off pages root adds (index_over leaf) w.maps are.trees leaf off),
        added-there pages root adds (index_over leaf),
        new-off pages root adds (index_over leaf) w.maps are.trees,
      )

  allot-fails : (Mid : Fact) (node : WholeNode) (e : Error) (old mid new : Cache L) → Performs g (Kept Any Mid) old mid → Performs g (Allots node (Err e)) mid new → Performs g KeepsMaps old new
  allot-fails Mid node e old mid new so_far more = kept-last g Any Mid (Allots node (Err e)) old mid new (λ s t events made. allot-keeps Mid node (Err e) s t events made) so_far more

  -- the swap of the root
  abbrev Swaps_so : ℕ → RootSwap → Deed
  Swaps_so root answer s events t = Stuck s events t × SwapEnds name root answer s events t

  swapped : (root : ℕ) (answer : RootSwap) (old new : Cache L) → IsMade g old (CasRoot name None (Some root)) (RootSwapped answer) new → Performs g (Swaps_so root answer) old new
  swapped root answer old new made = weaker g (Answers g (CasRoot name None (Some root)) (RootSwapped answer)) (Swaps_so root answer) old new by (one g old new (CasRoot name None (Some root)) (RootSwapped answer) made)
    where
      by : (s t : State) (events : List (Event Update)) → Answers g (CasRoot name None (Some root)) (RootSwapped answer) s events t → Swaps_so root answer s events t
      by s t events (cache, out, step, is, then_is) = (
        λ kept.
            let same : out ≡ no_change s = split s.fault step (λ _ h. h.1) (λ clear h. absurd (false≢true (sym clear ∙ kept))) in
            (is ∙ ap (λ (o : Outcome). o.changes) same, then_is ∙ ap (λ (o : Outcome). o.state) same),
        subst (λ (es : List (Event Update)). SwapEnds name root answer s es t) (sym is) (subst (λ (u : State). SwapEnds name root answer s out.changes u) (sym then_is) (swap-ends s out name root (chain_length g.state cache) (HasNoRoom g cache.log) answer step)),
      )

  -- behind the others it is the one that may name a new map
  swap-follows : (root : ℕ) (answer : RootSwap) (s t : State) (events : List (Event Update)) → Swaps_so root answer s events t → Follows s events t
  swap-follows root (Ok (Ok done)) s t events (stuck, (roots, had, made)) = record { stuck = stuck; pages = λ clear. made-follows s t (named s name root roots) events made }
  swap-follows root (Ok (Err back)) s t events (stuck, (same, none)) = quiet-follows s t events (none, same, λ kept. (stuck kept).1)
  swap-follows root (Err e) s t events (stuck, (same, inl none)) = quiet-follows s t events (none, same, λ kept. (stuck kept).1)
  swap-follows root (Err e) s t events (stuck, (same, inr failed)) = record { stuck = stuck; pages = λ clear. absurd (false≢true (sym clear ∙ failed.3)) }

  abbrev Then_swap : ℕ → ℕ → RootSwap → Deed
  Then_swap leaf root answer = Then (Kept Any (HasEmpty leaf root)) (Swaps_so root answer)

  swap-made : (leaf root : ℕ) (done : Unit {0}) (s t : State) (events : List (Event Update)) → Then_swap leaf root (Ok (Ok done)) s events t → OfRoot name (Ok root) s events t
  swap-made leaf root done s t events (mid, first, later, is, a, swaps) =
      subst (λ (es : List (Event Update)). OfRoot name (Ok root) s es t) (sym is) (by swaps)
    where
      by : Swaps_so root (Ok (Ok done)) mid later t → OfRoot name (Ok root) s (first ++ later) t
      by (stuck, (roots, had, made)) =
          let behind = swap-follows root (Ok (Ok done)) mid t later (stuck, (roots, had, made)) in
          record {
            follows = follows-then s mid t first later a.keeps.follows behind;
            does = λ w are.
                let so_far = a.keeps.stays w are tt in
                let has = a.leaves w are tt in
                inr (
                  is-free mid name leaf root roots had w so_far.1 has,
                  turns-then w s mid t first later a.keeps.follows behind so_far (with_new name root w) (λ none. subst (λ (es : List (Event Update)). Makes (contents_of mid) (named mid name root roots) es) none made.0)
                      (made-turns w (with_new name root w) mid t (named mid name root roots) later made so_far.1 (is-new mid name leaf root roots had w so_far.1 has)),
                );
          }

  swap-refused : (leaf root : ℕ) (answer : RootSwap) (e : Error) (s t : State) (events : List (Event Update)) → ((mid : State) (later : List (Event Update)) → Swaps_so root answer mid later t → Quiet mid later t) → Then_swap leaf root answer s events t → OfRoot name (Err e) s events t
  swap-refused leaf root answer e s t events quiet (mid, first, later, is, a, swaps) =
      let keeps = kept-keeps Any (HasEmpty leaf root) s mid t first later a (quiet-keeps (HasEmpty leaf root) mid t later (quiet mid later swaps)) in
      subst (λ (es : List (Event Update)). OfRoot name (Err e) s es t) (sym is) (record { follows = keeps.follows; does = λ w are. inl (keeps.stays w are tt) })

  swap-failed : (leaf root : ℕ) (e : Error) (s t : State) (events : List (Event Update)) → Then_swap leaf root (Err e) s events t → OfRoot name (Err e) s events t
  swap-failed leaf root e s t events (mid, first, later, is, a, swaps) =
      subst (λ (es : List (Event Update)). OfRoot name (Err e) s es t) (sym is) (by swaps)
    where
      by : Swaps_so root (Err e) mid later t → OfRoot name (Err e) s (first ++ later) t
      by (stuck, (same, inl none)) =
          let keeps = kept-keeps Any (HasEmpty leaf root) s mid t first later a (quiet-keeps (HasEmpty leaf root) mid t later (none, same, λ kept. (stuck kept).1)) in
          record { follows = keeps.follows; does = λ w are. inl (keeps.stays w are tt) }
      by (stuck, (same, inr (roots, had, makes, fault))) =
          let behind = swap-follows root (Err e) mid t later (stuck, (same, inr (roots, had, makes, fault))) in
          record {
            follows = follows-then s mid t first later a.keeps.follows behind;
            does = λ w are.
                let so_far = a.keeps.stays w are tt in
                let has = a.leaves w are tt in
                inr (
                  root,
                  is-free mid name leaf root roots had w so_far.1 has,
                  unless-then w s mid t first later a.keeps.follows behind so_far (with_new name root w)
                      (unmade-stays w (with_new name root w) mid t (named mid name root roots) later (same, inr (makes, fault)) so_far.1 (is-new mid name leaf root roots had w so_far.1 has)),
                );
          }

  -- ---- all of them

  module _ (never : Type 0) (result : Result ℕ Error) (old : Cache L) where
    ends-swap : (leaf root : ℕ) (answer : RootSwap) (new : Cache L) → Performs g (Then_swap leaf root answer) old new → EndsSwap never name result root answer → Performs g (OfRoot name result) old new
    ends-swap leaf root (Ok (Ok done)) new both is = subst (λ (r : Result ℕ Error). Performs g (OfRoot name r) old new) (sym is)
        (weaker g (Then_swap leaf root (Ok (Ok done))) (OfRoot name (Ok root)) old new (λ s t events h. swap-made leaf root done s t events h) both)
    ends-swap leaf root (Ok (Err back)) new both is = subst (λ (r : Result ℕ Error). Performs g (OfRoot name r) old new) (sym is.1)
        (weaker g (Then_swap leaf root (Ok (Err back))) (OfRoot name (Err (ReportableBug MissingMeta))) old new
        (λ s t events h. swap-refused leaf root (Ok (Err back)) (ReportableBug MissingMeta) s t events (λ mid later swaps. (swaps.1.1, swaps.1.0, λ kept. (swaps.0 kept).1)) h) both)
    ends-swap leaf root (Err e) new both is = subst (λ (r : Result ℕ Error). Performs g (OfRoot name r) old new) (sym is)
        (weaker g (Then_swap leaf root (Err e)) (OfRoot name (Err e)) old new (λ s t events h. swap-failed leaf root e s t events h) both)

    names : (leaf root : ℕ) (calls : MadeCalls) (mid new : Cache L) → Performs g (Kept Any (HasEmpty leaf root)) old mid → AreMade g mid calls new → NamesRoot never name result root calls → Performs g (OfRoot name result) old new
    names leaf root calls mid new so_far made (answer, is, ends) =
        let (after, one_made, same) = subst (λ (cs : MadeCalls). AreMade g mid cs new) is made in
        subst (λ (c : Cache L). Performs g (OfRoot name result) old c) (sym same) (ends-swap leaf root answer after (then g (Kept Any (HasEmpty leaf root)) (Swaps_so root answer) old mid after so_far (swapped root answer mid after one_made)) ends)

    none-more : (calls : MadeCalls) (mid new : Cache L) → calls ≡ [] → AreMade g mid calls new → Performs g KeepsMaps old mid → Performs g KeepsMaps old new
    none-more calls mid new none made h = subst (λ (c : Cache L). Performs g KeepsMaps old c) (sym (subst (λ (cs : MadeCalls). AreMade g mid cs new) none made)) h

    over : (leaf : ℕ) (answer : Result (ℕ × Token) Error) (calls : MadeCalls) (mid after new : Cache L) → Performs g (Kept Any (HasLeaf leaf)) old mid → IsMade g mid (Allocate (index_over leaf)) (Allocated answer) after → AreMade g after calls new
        → GoesOnOver never name result answer calls → Performs g (OfRoot name result) old new
    over leaf (Ok made) calls mid after new so_far is rest goes =
        names leaf made.0 calls after new (index-then leaf made.0 made.1 old mid after so_far (allotted g mid after (index_over leaf) (Ok made) is)) rest goes
    over leaf (Err e) calls mid after new so_far is rest goes =
        failed-by result e goes.1 old new (none-more calls after new goes.0 rest (allot-fails (HasLeaf leaf) (index_over leaf) e old mid after so_far (allotted g mid after (index_over leaf) (Err e) is)))

    puts-index : (leaf : ℕ) (calls : MadeCalls) (mid new : Cache L) → Performs g (Kept Any (HasLeaf leaf)) old mid → AreMade g mid calls new → PutsIndex never name result leaf calls → Performs g (OfRoot name result) old new
    puts-index leaf calls mid new so_far made (inl h) = failed-by result OutOfMemory h.1 old new (none-more calls mid new h.0 made (kept-end g so_far))
    puts-index leaf calls mid new so_far made (inr (answer, others, is, goes)) =
        let (after, one_made, rest) = subst (λ (cs : MadeCalls). AreMade g mid cs new) is made in
        over leaf answer others mid after new so_far one_made rest goes

    with-leaf : (answer : Result (ℕ × Token) Error) (calls : MadeCalls) (mid after new : Cache L) → Performs g (Kept Any Any) old mid → IsMade g mid (Allocate empty_leaf) (Allocated answer) after → AreMade g after calls new
        → GoesOnWith never name result answer calls → Performs g (OfRoot name result) old new
    with-leaf (Ok made) calls mid after new so_far is rest goes =
        puts-index made.0 calls after new (leaf-then made.0 made.1 old mid after so_far (allotted g mid after empty_leaf (Ok made) is)) rest goes
    with-leaf (Err e) calls mid after new so_far is rest goes =
        failed-by result e goes.1 old new (none-more calls after new goes.0 rest (allot-fails Any empty_leaf e old mid after so_far (allotted g mid after empty_leaf (Err e) is)))

    opens : (look : Said) (found_so : Result (Option ℕ) Error) (calls : MadeCalls) (mid new : Cache L) → IsMade g old GetMeta (GotMeta look) mid → AreMade g mid calls new → FindsTree name look found_so → OpensTree never name result found_so calls → Performs g (OfRoot name result) old new
    opens look (Err e) calls mid new is rest finds goes = failed-by result e goes.1 old new (none-more calls mid new goes.0 rest (keeps-quiet g Any old mid (looked look old mid is)))
    opens look (Ok None) calls mid new is rest finds (answer, others, eq, goes) =
        let (after, one_made, more) = subst (λ (cs : MadeCalls). AreMade g mid cs new) eq rest in
        with-leaf answer others mid after new (weaker g Quiet (Kept Any Any) old mid (λ s t events is. record { keeps = quiet-keeps Any s t events is; leaves = λ w are so. tt }) (looked look old mid is)) one_made more goes
    opens (Err e) (Ok (Some root)) calls mid new is rest finds goes = absurd (let f = finds in cc)
    opens (Ok told) (Ok (Some root)) calls mid new is rest finds goes =
        subst (λ (r : Result ℕ Error). Performs g (OfRoot name r) old new) (sym goes.1)
        (subst (λ (c : Cache L). Performs g (OfRoot name (Ok root)) old c) (sym (subst (λ (cs : MadeCalls). AreMade g mid cs new) goes.0 rest))
        (found told root (tells name told.1 root (meta.root_of name told.1) finds) old mid is))

  pub opened : (result : Result ℕ Error) (old new : Cache L) → IsTreeOpened g old name result new → Performs g (OfRoot name result) old new
  opened result old new it = opens (¬ IsKnown g old) result old it.look it.found it.calls it.made.0 new it.made.1 it.made.2 it.finds it.are

-- ---- the same of the answer of a map

module _ {L : Type 0} (g : Ghosts L) {T E : Type 0} (root : T → ℕ) (name : Bytes) where
  pub opens-ok : (tree : T) (old new : Cache L) → Performs g (OfRoot name (Ok (root tree))) old new → Performs g (OpensMap {E = E} root name (Ok tree)) old new
  opens-ok tree old new h = weaker g (OfRoot name (Ok (root tree))) (OpensMap {E = E} root name (Ok tree)) old new (λ s t events k. record { follows = k.follows; does = λ w are. k.does w are }) h

  -- an error of another kind
  pub opens-failed : (result : Result T E) → IsErr result → (e : Error) (old new : Cache L) → Performs g (OfRoot name (Err e)) old new → Performs g (OpensMap root name result) old new
  opens-failed (Ok tree) failed e old new h = absurd (false≢true failed)
  opens-failed (Err f) failed e old new h = weaker g (OfRoot name (Err e)) (OpensMap {T = T} {E = E} root name (Err f)) old new (λ s t events k. record { follows = k.follows; does = λ w are. k.does w are }) h

  -- a call that is refused at once
  pub opens-none : (result : Result T E) → IsErr result → (c : Cache L) → Performs g (OpensMap root name result) c c
  opens-none (Ok tree) failed c = absurd (false≢true failed)
  opens-none (Err f) failed c = weaker g (On (λ _. ⊤)) (OpensMap {T = T} {E = E} root name (Err f)) c c by (none-made g c)
    where
      by : (s t : State) (events : List (Event Update)) → On (λ _. ⊤) s events t → OpensMap {T = T} {E = E} root name (Err f) s events t
      by s t events is =
          let keeps = quiet-keeps Any s t events (is.none, ap contents_of is.same, λ _. is.same) in
          record { follows = keeps.follows; does = λ w are. inl (keeps.stays w are tt) }
