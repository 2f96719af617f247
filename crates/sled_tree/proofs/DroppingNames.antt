-- The names of the maps, read, and a name that is taken out.
use Rattle.std.proofs.Common.{◌≡◌, ◌≢◌, ◌⊎◌, ◌∙◌, inl, inr, ℕ, true, cond, List, [], ◌∷◌, ◌++◌, map, Option, Some, None, Result, Ok, Err, slice_get, slice_set, refl, sym, ap, subst, ◌^◌, ◌-◌, ◌+◌}
use Rattle.std.specs.Prelude.{◌==◌, IfOk, IsErr}
use Rattle.std.proofs.lemmas.Bool.{false≢true}
use Rattle.std.specs.Global.{Vec}
use Rattle.sled_base.specs.Order.{Bytes}
use Rattle.sled_base.specs.declared.types.Error.{Error}
use Rattle.sled_base.specs.declared.types.Refusal.{Refusal}
use Rattle.sled_log.specs.Contents.{Content, Free, Counter, Roots, Node, Damaged, Update, Put, contents_from}
use Rattle.sled_log.specs.Events.{Event, Change}
use Rattle.sled_log.specs.declared.log.Log.{Ghosts}
use Rattle.sled_node.specs.Meta as meta
use Rattle.sled_pagecache.specs.Answers.{Keeps}
use Rattle.sled_pagecache.specs.Cache.{Cache, chain_length}
use Rattle.sled_pagecache.specs.Calls.{HasNoRoom, Steps}
use Rattle.sled_pagecache.specs.Lending.{lent_meta}
use Rattle.sled_pagecache.specs.Rows.{IsMade}
use Rattle.sled_pagecache.specs.State.{StampedPage, State, page, page_at, with_page, contents_of, Token}
use Rattle.sled_pagecache.specs.Step.{Outcome, no_change, AreRoots, HoldsRoots, SwapsRoot, SetsRoot, PutsRoots, RootSwap, Does}
use Rattle.sled_pagecache.specs.declared.pagecache.handles.call.Answer.TheVariants.{GotMeta, RootSwapped}
use Rattle.sled_pagecache.specs.declared.pagecache.handles.call.Call.TheVariants.{GetMeta, CasRoot}
use Rattle.sled_pagecache.specs.declared.pagecache.handles.view.MetaView.{MetaView}
use Rattle.sled_tree.specs.Changed.{Ends, Made, Makes, Reads}
use Rattle.sled_tree.specs.Dropping.{Unnames, names_of}
use Rattle.sled_tree.specs.Maps.{Follows}
use Rattle.sled_tree.specs.Named.{Named, AreNamed}
use Rattle.sled_tree.specs.Performs.{Performs}
use Rattle.sled_tree.proofs.Events.{made-follows, quiet-follows}
use Rattle.sled_tree.proofs.Lists.{split, map-at, map-sets, within}
use Rattle.sled_tree.proofs.Opening.{meta-read, same-names}
use Rattle.sled_tree.proofs.Outcomes.{fails, nothing}
use Rattle.sled_tree.proofs.Performing.{Deed, On, Stuck, Answers, one, on-weaker, reads-err, reads-ok, weaker}
use Rattle.sled_tree.proofs.Performing.{nothing as none-made, on-any}

-- ---- the names are read

module _ {L : Type 0} (g : Ghosts L) (c : Cache L) where
  meta-made : (result : Result MetaView Refusal) → Steps g c GetMeta (GotMeta (lent_meta result)) c → Keeps c c (lent_meta result) (λ _. c.stamps) → IsMade g c GetMeta (GotMeta (lent_meta result)) c
  meta-made result step keeps = record { step = step; bytes = tt; faults = tt; covered = tt; keeps = keeps }

  names-on : (told : Token × meta.Roots) → IsMade g c GetMeta (GotMeta (Ok told)) c → Performs g (On (λ pages. slice_get pages 0 ≡ Some (Roots told.1))) c c
  names-on told made = weaker g (Answers g GetMeta (GotMeta (Ok told))) (On (λ pages. slice_get pages 0 ≡ Some (Roots told.1))) c c by (one g c c GetMeta (GotMeta (Ok told)) made)
    where
      by : (s t : State) (events : List (Event Update)) → Answers g GetMeta (GotMeta (Ok told)) s events t → On (λ pages. slice_get pages 0 ≡ Some (Roots told.1)) s events t
      by s t events (cache, out, step, is, then_is) =
          let it = meta-read s told out step in
          record { none = is ∙ ap (λ (o : Outcome). o.changes) it.1; same = then_is ∙ ap (λ (o : Outcome). o.state) it.1; is = it.0 }

  -- what is so of the names that were read is so of those that the maps have
  pub reads-names : {T E : Type 0} (Is : meta.Roots → T → Type 0) (view : MetaView) → Steps g c GetMeta (GotMeta (lent_meta (Ok view))) c → Keeps c c (lent_meta (Ok view)) (λ _. c.stamps) → (result : Result T E) → IfOk result (Is view.meta.now)
      → Performs g (Reads result (λ pages answer. (w : Named) → AreNamed pages w → Is w.names answer)) c c
  reads-names {T} {E} Is view step keeps (Ok answer) is =
      reads-ok g {T = T} {E = E} (λ pages answer. (w : Named) → AreNamed pages w → Is w.names answer) c c answer
      (on-weaker g (λ pages. slice_get pages 0 ≡ Some (Roots view.meta.now)) (λ pages. (w : Named) → AreNamed pages w → Is w.names answer) c c
      (λ pages at w are. subst (λ (names : meta.Roots). Is names answer) (same-names pages view.meta.now w.names at are.names) is)
      (names-on (view.token, view.meta.now) (meta-made (Ok view) step keeps)))
  reads-names {T} {E} Is view step keeps (Err e) is = reads-err g (λ pages answer. (w : Named) → AreNamed pages w → Is w.names answer) c c e (on-any g (λ _. Unit {0}) c c (none-made g c))

-- the keys of std's map
pub keys-named : (entries : List (Vec ℕ × ℕ)) → map (λ (name : Vec ℕ). name.items) (map (λ (entry : Vec ℕ × ℕ). entry.0) entries) ≡ names_of (meta.named entries)
keys-named [] = refl
keys-named (entry ∷ entries) = ap (λ (names : List Bytes). entry.0.items ∷ names) (keys-named entries)

-- ---- a name is taken out

-- these are the names, and this is the root of the name
pub record HadRoot (s : State) (name : Bytes) (root : ℕ) (roots : meta.Roots) : Type 0 where
  pub at : slice_get (contents_of s) 0 ≡ Some (Roots roots)
  pub is : meta.root_of name roots ≡ Some root

abbrev pub unnamed : State → Bytes → meta.Roots → List Content
unnamed s name roots = slice_set (contents_of s) 0 (Roots (meta.without_root name roots))

-- the swap was made; or no page changes
abbrev pub SwapEnds : Bytes → ℕ → RootSwap → Deed
SwapEnds name root (Ok (Ok done)) s events t = (roots : meta.Roots) × HadRoot s name root roots × Made s (unnamed s name roots) events t
SwapEnds name root (Ok (Err back)) s events t = (contents_of t ≡ contents_of s) × (events ≡ [])
SwapEnds name root (Err e) s events t = (contents_of t ≡ contents_of s) × ((events ≡ []) ⊎ ((roots : meta.Roots) × HadRoot s name root roots × Makes (contents_of s) (unnamed s name roots) events × (t.fault ≡ true)))

module _ (s : State) (out : Outcome) (name : Bytes) (root : ℕ) where
  refuses : (answer : RootSwap) (e : Error) → answer ≡ Err e → out ≡ no_change s → SwapEnds name root answer s out.changes out.state
  refuses answer e is same = subst (λ (a : RootSwap). SwapEnds name root a s out.changes out.state) (sym is) ((nothing s out same).0, inl (nothing s out same).1)

  module _ (messages : ℕ → ℕ) (no_room : Event Update → Type 0) where
    puts : (roots : meta.Roots) (stamp : ℕ) → HadRoot s name root roots → (answer : RootSwap) → PutsRoots messages no_room s stamp (meta.without_root name roots) answer out → SwapEnds name root answer s out.changes out.state
    puts roots stamp had answer step = split (stamp == 2 ^ 64 - 1) step (λ _ h. refuses answer _ h.0 h.1) (λ _ h. by answer h)
      where
        changed : contents_from (contents_of s) (Change 0 (Put (Roots (meta.without_root name roots)))) ≡ unnamed s name roots
        changed = ap (λ b. cond b (contents_of s ++ Roots (meta.without_root name roots) ∷ []) (unnamed s name roots)) (within (contents_of s) 0 (Roots roots) had.at)

        makes : (events : List (Event Update)) → events ≡ Change 0 (Put (Roots (meta.without_root name roots))) ∷ [] → Makes (contents_of s) (unnamed s name roots) events
        makes events is = subst (Makes (contents_of s) (unnamed s name roots)) (sym is) (changed, tt)

        failed : (out.changes ≡ []) ⊎ ((out.changes ≡ Change 0 (Put (Roots (meta.without_root name roots))) ∷ []) × (out.state.fault ≡ true))
            → (out.changes ≡ []) ⊎ ((roots : meta.Roots) × HadRoot s name root roots × Makes (contents_of s) (unnamed s name roots) out.changes × (out.state.fault ≡ true))
        failed (inl none) = inl none
        failed (inr wrote) = inr (roots, had, makes out.changes wrote.0, wrote.1)

        by : (answer : RootSwap) → Does messages no_room s (Change 0 (Put (Roots (meta.without_root name roots)))) answer out (λ swapped t. (swapped ≡ Ok tt) × (t ≡ with_page s 0 (page (stamp + 1) (Roots (meta.without_root name roots)))))
            → SwapEnds name root answer s out.changes out.state
        by (Ok (Ok done)) h = (roots, had, (makes out.changes h.0, ap contents_of h.1.1 ∙ map-sets (λ (p : StampedPage). p.content) s.pages 0 (page (stamp + 1) (Roots (meta.without_root name roots)))))
        by (Ok (Err back)) h = absurd (let e = h.1.0 in cc)
        by (Err e) h = let it = fails s out messages no_room (Change 0 (Put (Roots (meta.without_root name roots)))) e h in (it.0, failed it.1)

    sets : (roots : meta.Roots) (stamp : ℕ) → HadRoot s name root roots → (answer : RootSwap) → SetsRoot messages no_room s stamp name None roots answer out → SwapEnds name root answer s out.changes out.state
    sets roots stamp had answer (inl long) = absurd long.0
    sets roots stamp had answer (inr (inl full)) = absurd full.0
    sets roots stamp had answer (inr (inr puts_it)) = puts roots stamp had answer puts_it.1

    abbrev Turns_on : RootSwap → ℕ → meta.Roots → Type 0
    Turns_on answer stamp roots = ((meta.root_of name roots ≢ Some root) × (answer ≡ Ok (Err (meta.root_of name roots))) × (out ≡ no_change s)) ⊎ ((meta.root_of name roots ≡ Some root) × SetsRoot messages no_room s stamp name None roots answer out)

    swap-ends : (answer : RootSwap) → SwapsRoot messages no_room s name (Some root) None answer out → SwapEnds name root answer s out.changes out.state
    swap-ends answer step = split s.fault step (λ _ h. refuses answer _ h.0 h.1) (λ _ h. by (page_at s 0) refl h)
      where
        either : (roots : meta.Roots) (stamp : ℕ) → slice_get (contents_of s) 0 ≡ Some (Roots roots) → Turns_on answer stamp roots → SwapEnds name root answer s out.changes out.state
        either roots stamp at (inl h) = subst (λ (a : RootSwap). SwapEnds name root a s out.changes out.state) (sym h.1) (nothing s out h.2)
        either roots stamp at (inr h) = sets roots stamp (record { at = at; is = h.0 }) answer h.1

        of : (p : StampedPage) (c : Content) → p.content ≡ c → page_at s 0 ≡ Some p → AreRoots c (Turns_on answer p.stamp) → SwapEnds name root answer s out.changes out.state
        of p (Roots roots) is at h = either roots p.stamp (map-at (λ (q : StampedPage). q.content) s.pages 0 p at ∙ ap (λ (c : Content). Some c) is) h
        of p Free is at h = absurd h
        of p (Counter n) is at h = absurd h
        of p (Node n) is at h = absurd h
        of p Damaged is at h = absurd h

        by : (found : Option StampedPage) → page_at s 0 ≡ found → HoldsRoots found (Turns_on answer) → SwapEnds name root answer s out.changes out.state
        by None at h = absurd h
        by (Some p) at h = of p p.content refl at h

-- ---- the same as an answer of a map

module _ (name : Bytes) (root : ℕ) (s t : State) (events : List (Event Update)) (stuck : Stuck s events t) where
  swap-follows : (answer : RootSwap) → SwapEnds name root answer s events t → Follows s events t
  swap-follows (Ok (Ok done)) (roots, had, made) = record { stuck = stuck; pages = λ clear. made-follows s t (unnamed s name roots) events made }
  swap-follows (Ok (Err back)) (same, none) = quiet-follows s t events (none, same, λ kept. (stuck kept).1)
  swap-follows (Err e) (same, inl none) = quiet-follows s t events (none, same, λ kept. (stuck kept).1)
  swap-follows (Err e) (same, inr failed) = record { stuck = stuck; pages = λ clear. absurd (false≢true (sym clear ∙ failed.3)) }

  module _ (roots : meta.Roots) (at : slice_get (contents_of s) 0 ≡ Some (Roots roots)) where
    same-end : (others : meta.Roots) → HadRoot s name root others → unnamed s name others ≡ unnamed s name roots
    same-end others had = ap (λ (names : meta.Roots). unnamed s name names) (same-names (contents_of s) others roots had.at at)

    made-ends : (done : Unit {0}) → SwapEnds name root (Ok (Ok done)) s events t → Made s (unnamed s name roots) events t
    made-ends done (others, had, made) = subst (λ (changed : List Content). Made s changed events t) (same-end others had) made

    failed-ends : (T : Type 0) {E : Type 0} (e : Error) (f : E) → SwapEnds name root (Err e) s events t → Ends {T = T} (Err f) s (unnamed s name roots) events t
    failed-ends T e f (same, inl none) = (same, inl none)
    failed-ends T e f (same, inr (others, had, makes, fault)) = (same, inr (subst (λ (changed : List Content). Makes (contents_of s) changed events) (same-end others had) makes, fault))

module _ {L : Type 0} (g : Ghosts L) (name : Bytes) (root : ℕ) (old new : Cache L) (answer : RootSwap) (made : IsMade g old (CasRoot name (Some root) None) (RootSwapped answer) new) where
  swapped : Performs g (λ s events t. Stuck s events t × SwapEnds name root answer s events t) old new
  swapped = weaker g (Answers g (CasRoot name (Some root) None) (RootSwapped answer)) (λ s events t. Stuck s events t × SwapEnds name root answer s events t) old new by (one g old new (CasRoot name (Some root) None) (RootSwapped answer) made)
    where
      by : (s t : State) (events : List (Event Update)) → Answers g (CasRoot name (Some root) None) (RootSwapped answer) s events t → Stuck s events t × SwapEnds name root answer s events t
      by s t events (cache, out, step, is, then_is) = (
        λ kept.
            let same : out ≡ no_change s = split s.fault step (λ _ h. h.1) (λ clear h. absurd (false≢true (sym clear ∙ kept))) in
            (is ∙ ap (λ (o : Outcome). o.changes) same, then_is ∙ ap (λ (o : Outcome). o.state) same),
        subst (λ (es : List (Event Update)). SwapEnds name root answer s es t) (sym is) (subst (λ (u : State). SwapEnds name root answer s out.changes u) (sym then_is) (swap-ends s out name root (chain_length g.state cache) (HasNoRoom g cache.log) answer step)),
      )

  module _ {T E : Type 0} (result : Result T E) where
    unnames-by : ((s t : State) (events : List (Event Update)) (roots : meta.Roots) → slice_get (contents_of s) 0 ≡ Some (Roots roots) → Stuck s events t → SwapEnds name root answer s events t → Ends result s (unnamed s name roots) events t)
        → Performs g (Unnames name root result) old new
    unnames-by into = weaker g (λ s events t. Stuck s events t × SwapEnds name root answer s events t) (Unnames name root result) old new
        (λ s t events h. record { follows = swap-follows name root s t events h.0 answer h.1; ends = λ roots at is. into s t events roots at h.0 h.1 }) swapped

  pub unnames-made : {E : Type 0} (done : Unit {0}) → answer ≡ Ok (Ok done) → Performs g (Unnames {E = E} name root (Ok done)) old new
  unnames-made {E} done is = unnames-by {E = E} (Ok done) (λ s t events roots at stuck h. made-ends name root s t events stuck roots at done (subst (λ (a : RootSwap). SwapEnds name root a s events t) is h))

  pub unnames-back : {T E : Type 0} (back : Option ℕ) (e : E) → answer ≡ Ok (Err back) → Performs g (Unnames {T = T} name root (Err e)) old new
  unnames-back {T} {E} back e is = unnames-by {T = T} {E = E} (Err e) (λ s t events roots at stuck h. let it = subst (λ (a : RootSwap). SwapEnds name root a s events t) is h in (it.0, inl it.1))

  pub unnames-failed : {T E : Type 0} (e : Error) (result : Result T E) → IsErr result → answer ≡ Err e → Performs g (Unnames name root result) old new
  unnames-failed e (Ok x) failed is = absurd (false≢true failed)
  unnames-failed {T} {E} e (Err f) failed is = unnames-by {T = T} {E = E} (Err f) (λ s t events roots at stuck h. failed-ends name root s t events stuck roots at T e f (subst (λ (a : RootSwap). SwapEnds name root a s events t) is h))
