-- The page of the named roots, in the table and in the state that the cache is in, and the calls of it as steps of the machine.
use Rattle.sled_pagecache.proofs.Names.{Appended, IsRaised, Recency, Accesses, RefusesAppend, ◌≡◌, ◌≢◌, ◌≤◌, ◌+◌, ◌-◌, ◌^◌, ◌⊎◌, inl, inr, ℕ, Bool, false, arith, List, [], ◌∷◌, length, Option, Some, None, Result, Ok, Err, refl, sym, ◌∙◌, ap, subst, slice_get, slice_set, eq-eqb, ne_eqb, same_Some, Error, Unsupported, Refusal, StampUsedUp, Content, Roots, Put, Change, Ghosts, Cache, Represents, Acts, ActOver, HasNoRoom, chain_length, Logged, IsConsistent, page, State, page_at, with_page, Outcome, outcome, no_change, Does, RefusesSwap, token, Token, Config, StickyLog, PageContent, GotMeta, GetMeta, FoundRoot, MetaPidForName, RootSwapped, CasRoot, IsRoots, KeepsRoots, AreKeptRoots, Answer, Call, error_by, Bytes, NameTooLong, TooManyNames, roots_in, AreOwn, KeptPage, view}
use Rattle.sled_base.specs.declared.types.Error.TheVariants.{CollectionNotFound, OutOfMemory}
use Rattle.sled_base.specs.declared.types.Refusal.TheVariants as refusals
use Rattle.sled_node.specs.Meta as meta
use Rattle.sled_node.specs.Meta.{IsTooLong, LacksRoom, CanChange, root_of, changed_roots}
use Rattle.sled_pagecache.proofs.Steps.CallOutcomes.{KnowsNow, steps-uncalled}
use Rattle.sled_pagecache.proofs.Ids.CounterPage.{may-put, own-at}
use Rattle.sled_pagecache.proofs.Steps.Puts.{MayPut, nothing-appended, put-refused, put-set, unless-clear}
use Rattle.sled_pagecache.specs.declared.pagecache.table.page_entry.PageContent.TheVariants as page_content

-- the page at id 0 of a cache's table keeps named roots
pub keeps-roots : (table : List KeptPage) → AreOwn table → 2 ≤ length table → KeepsRoots table
keeps-roots [] own both = absurd (omega (arith, both))
keeps-roots (q ∷ table) own both = by q.kept refl (own 0)
  where
    by : (k : PageContent) → q.kept ≡ k → IsRoots k → KeepsRoots (q ∷ table)
    by (page_content.Roots roots) is here = record { page = q; roots = roots; at = refl; kept = is }
    by k is here = absurd here

module _ {L : Type 0} (g : Ghosts L) (next : ℕ) (config : Config) (recovered : Bool) (lru : Recency) (before : StickyLog L) (table : List KeptPage) (free : List ℕ) (c : IsConsistent g.tells g.state before table free) (ready : before.fault ≡ false)
    (roots : meta.Roots) (stamp : ℕ) (kept_roots : AreKeptRoots table roots stamp) where
  abbrev cache : StickyLog L → List KeptPage → Cache L
  cache sticky_log kept = view next config recovered lru sticky_log kept

  abbrev q : KeptPage
  q = kept_roots.page

  -- the state has them too
  roots-at : (held : Logged) (s : State) → Represents g (cache before table) held s → s.fault ≡ false → page_at s 0 ≡ Some (page stamp (Roots roots))
  roots-at held s is clear =
      own-at g next config recovered lru before table free c ready 0 q (page_content.Roots roots) (Roots roots) kept_roots.at kept_roots.kept (λ chain makes. makes) held s is clear ∙ ap (λ n. Some (page n (Roots roots))) kept_roots.stamp

  -- ---- calls that change nothing

  module _ (only : KnowsNow g before) where
    still : (call : Call) (answer : Answer) → ((s : State) → s.fault ≡ false → page_at s 0 ≡ Some (page stamp (Roots roots)) → ActOver g (cache before table) s call answer (no_change s)) → Acts g (cache before table) call answer (cache before table)
    still call answer step = steps-uncalled g next config recovered lru before table ready call answer (c.beside ready).usable only (λ held s is clear. step s clear (roots-at held s is clear))

    pub gets-meta : (t : Token) → t ≡ token 0 stamp → Acts g (cache before table) GetMeta (GotMeta (Ok (t, roots))) (cache before table)
    gets-meta t is = rw is (still GetMeta (GotMeta (Ok (token 0 stamp, roots))) (λ s clear there. rw (clear, there) (refl, refl)))

    pub finds-root : (name : Bytes) (root : ℕ) → root_of name roots ≡ Some root → Acts g (cache before table) (MetaPidForName name) (FoundRoot (Ok root)) (cache before table)
    finds-root name root is = still (MetaPidForName name) (FoundRoot (Ok root)) (λ s clear there. rw (clear, there, is) (refl, refl))

    pub lacks-root : (name : Bytes) (e : Error) → root_of name roots ≡ None → (e ≡ CollectionNotFound name) ⊎ (e ≡ OutOfMemory) → Acts g (cache before table) (MetaPidForName name) (FoundRoot (Err e)) (cache before table)
    lacks-root name e none (inl is) = rw is (still (MetaPidForName name) (FoundRoot (Err (CollectionNotFound name))) (λ s clear there. rw (clear, there, none) (inl refl, refl)))
    lacks-root name e none (inr is) = rw is (still (MetaPidForName name) (FoundRoot (Err OutOfMemory)) (λ s clear there. rw (clear, there, none) (inr refl, refl)))

    module _ (name : Bytes) (old new : Option ℕ) where
      pub another-root : (root : Option ℕ) → root_of name roots ≢ old → root ≡ root_of name roots → Acts g (cache before table) (CasRoot name old new) (RootSwapped (Ok (Err root))) (cache before table)
      another-root root apart is = rw is (still (CasRoot name old new) (RootSwapped (Ok (Err (root_of name roots)))) (λ s clear there. rw (clear, there) (inl (apart, refl, refl))))

      pub unfit-root : (refusal : Refusal) → root_of name roots ≡ old → (IsTooLong name new × (refusal ≡ refusals.Unsupported NameTooLong)) ⊎ (LacksRoom name new roots × (refusal ≡ refusals.Unsupported TooManyNames))
          → Acts g (cache before table) (CasRoot name old new) (RootSwapped (Err (error_by refusal))) (cache before table)
      unfit-root refusal same (inl (long, is)) =
          rw is (still (CasRoot name old new) (RootSwapped (Err (Unsupported NameTooLong))) (λ s clear there. rw (clear, there) (inr (same, inl (long, (refl, refl))))))
      unfit-root refusal same (inr (full, is)) =
          rw is (still (CasRoot name old new) (RootSwapped (Err (Unsupported TooManyNames))) (λ s clear there. rw (clear, there) (inr (same, inr (inl (full, (refl, refl)))))))

  -- ---- a swap that may be made

  module _ (name : Bytes) (old new : Option ℕ) (same : root_of name roots ≡ old) (can : CanChange name new roots) (after : StickyLog L) where
    abbrev content : Content
    content = Roots (changed_roots name new roots)

    may : (held : Logged) (s : State) → Represents g (cache before table) held s → s.fault ≡ false → MayPut g before.log held 0 content
    may = may-put g next config recovered lru before table free c ready 0 content (omega arith) tt (λ held within proper. record { may = omega (arith, within); proper = proper })

    risen : (s : State) → s.fault ≡ false → page_at s 0 ≡ Some (page stamp (Roots roots)) → stamp ≢ 2 ^ 64 - 1 → (answer : Result (Result (Unit {0}) (Option ℕ)) Error) (out : Outcome)
        → Does (chain_length g.state (cache before table)) (HasNoRoom g before.log) s (Change 0 (Put content)) answer out (λ swapped t. (swapped ≡ Ok tt) × (t ≡ with_page s 0 (page (stamp + 1) content)))
        → ActOver g (cache before table) s (CasRoot name old new) (RootSwapped answer) out
    risen s clear there below answer out done = unless-clear s answer out _ clear (rw there (inr (same, inr (inr (can, rw (ne_eqb stamp (2 ^ 64 - 1) below) done)))))

    pub root-refused : (pages : List KeptPage) → pages ≡ table → {accesses between : Accesses} {left : Type 0} {refusal : Refusal} → RefusesAppend g 0 (Put content) before after accesses between (RefusesSwap stamp) left refusal → RefusesSwap stamp refusal
        → Acts g (cache before table) (CasRoot name old new) (RootSwapped (Err (error_by refusal))) (cache after pages)
    root-refused pages back {refusal = refusal} refused (inl (last, is)) =
        let known = rw is at refused in
        rw is
        (nothing-appended g next config recovered lru before table ready (c.beside ready) after (CasRoot name old new) pages back (RootSwapped (Err (Unsupported StampUsedUp))) known.went known.cause.fault
        (λ held s is clear are. rw (clear, roots-at held s is clear) (inr (same, inr (inr (can, rw (eq-eqb stamp (2 ^ 64 - 1) last) (refl, refl)))))))
    root-refused pages back {refusal = refusal} refused (inr (below, of)) =
        put-refused g next config recovered lru before table ready (c.beside ready) after (CasRoot name old new) 0 content refused.is may (Unit {0}) pages back (λ e. RootSwapped (Err e))
        (λ held s is clear are e out fails. risen s clear (roots-at held s is clear) below (Err e) out fails) refusal of refused.went refused.cause

    pub root-swapped : {accesses between : Accesses} {changed : KeptPage} {held : PageContent} → Appended g 0 (Put content) before after accesses between changed held (IsRaised stamp changed.stamp)
        → Acts g (cache before table) (CasRoot name old new) (RootSwapped (Ok (Ok tt))) (cache after (slice_set table 0 changed))
    root-swapped {changed = changed} made =
        put-set g next config recovered lru before table ready (c.beside ready) after (CasRoot name old new) 0 content made.is may made.went made.fault (RootSwapped (Ok (Ok tt))) (stamp + 1) changed made.stamp.1 (let both = c.both in omega (arith, both))
        (λ held s is clear are.
        risen s clear (roots-at held s is clear) (λ last. let below = made.stamp.0 in omega (arith, below, last)) (Ok (Ok tt)) (outcome (with_page s 0 (page (stamp + 1) content)) (Change 0 (Put content) ∷ [])) (refl, (refl, refl)))

-- ---- a page of named roots that is about to be swapped

pub record IsSwappable (table : List KeptPage) (q : KeptPage) (name : Bytes) (old new : Option ℕ) : Type 0 where
  pub at : slice_get table 0 ≡ Some q
  pub kept : q.kept ≡ page_content.Roots (roots_in q.kept)
  pub same : root_of name (roots_in q.kept) ≡ old
  pub can : CanChange name new (roots_in q.kept)

pub swappable : {table : List KeptPage} {q : KeptPage} {name : Bytes} {old : Option ℕ} (new : Option ℕ) {roots given : meta.Roots} {stamp : ℕ} → AreKeptRoots table roots stamp → slice_get table 0 ≡ Some q → given ≡ roots
    → (root_of name given ≡ old) × CanChange name new given → IsSwappable table q name old new
swappable {q = q} {name = name} new {given = given} are at is judged =
    let holds : q.kept ≡ page_content.Roots given = ap (λ (p : KeptPage). p.kept) (sym (same_Some are.page q (sym are.at ∙ at))) ∙ are.kept ∙ ap page_content.Roots (sym is) in
    let found : roots_in q.kept ≡ given = ap roots_in holds in
    record { at = at; kept = holds ∙ ap page_content.Roots (sym found); same = ap (root_of name) found ∙ judged.0; can = subst (CanChange name new) (sym found) judged.1 }
