-- What leaves memory behind a call, told of the table, and in the words of the cache's model.
use Rattle.sled_pagecache.proofs.Names.{left_pages, Contains, Contains-append_cases, Contains-append_left, Contains-append_right, ◌++◌, ◌≡◌, ◌⊎◌, inl, inr, ℕ, zero, suc, Bool, List, [], ◌∷◌, Option, Some, None, slice_get, slice_set, refl, sym, ap, subst, arith, Ghosts, Cache, HasNoNode, KeepsMemory, EvictsAtMost, IsPagedOut, Config, StickyLog, Page, Accesses, Recency, Error, IsBounded, MatchOption, IsWhole, IsOutAt, AreOut, lost_pages, Evicts, IsSettled, past-end, view}
use Rattle.sled_pagecache.proofs.Ids.DurableCounter.{counted-out}
use Rattle.sled_pagecache.proofs.Memory.ResidentPages.{past-view, stays-same}
use Rattle.sled_pagecache.proofs.Memory.PageOut.{PagesOut, consistent-out, out-page, out-listed, out-none, out-then}
use Rattle.sled_pagecache.proofs.Memory.SettledCaches.{Settles}
use Rattle.sled_pagecache.proofs.Sizes.ChainSizes.{sized-view}

-- one more
pub out-last : (pids : List ℕ) (pid : ℕ) (old mid new : List Page) → AreOut pids old mid → IsOutAt pid mid new → AreOut (pids ++ pid ∷ []) old new
out-last [] pid old mid new same one = subst (λ l. (then : List Page) × IsOutAt pid l then × (new ≡ then)) same (new, one, refl)
out-last (first ∷ pids) pid old mid new (next, at, rest) one = (next, at, out-last pids pid next mid new rest one)

module _ {L : Type 0} (g : Ghosts L) (next : ℕ) (config : Config) (recovered : Bool) (lru : Recency) (sticky_log : StickyLog L) where
  abbrev over : List Page → Cache L
  over pages = view next config recovered lru sticky_log pages

  one-out : (pid : ℕ) (old new : List Page) → IsOutAt pid old new → PagesOut (λ other. other ≡ pid) (over old) (over new)
  one-out pid old new is = by (slice_get old pid) refl is
    where
      by : (o : Option Page) → slice_get old pid ≡ o → MatchOption o (new ≡ old) (λ q. (page : Page) × IsPagedOut q page × (new ≡ slice_set old pid page)) → PagesOut (λ other. other ≡ pid) (over old) (over new)
      by None none same =
          subst (λ l. PagesOut (λ other. other ≡ pid) (over old) (over l)) (sym same)
          (out-none (λ other. other ≡ pid) (over old) (λ other is. subst (HasNoNode (over old)) (sym is) (past-view next next config recovered lru sticky_log sticky_log old pid (past-end old pid none))))
      by (Some q) there (page, out, set) =
          subst (λ l. PagesOut (λ other. other ≡ pid) (over old) (over l)) (sym set) (out-page next config recovered lru sticky_log old pid q page there out)

  pub outs : (pids : List ℕ) (old new : List Page) → AreOut pids old new → PagesOut (Contains pids) (over old) (over new)
  outs [] old new same =
      subst (λ l. PagesOut (Contains []) (over old) (over l)) (sym same) (out-none (Contains []) (over old) (λ pid within. absurd (let lt = within.1 in omega (arith, lt))))
  outs (pid ∷ pids) old new (mid, one, rest) =
      out-then (λ other. other ≡ pid) (Contains pids) (Contains (pid ∷ pids)) (over old) (over mid) (over new) (λ other within. by other (Contains-append_cases (pid ∷ []) pids other within))
      (λ other same. Contains-append_left (pid ∷ []) pids other (0, omega arith, sym same)) (λ other within. Contains-append_right (pid ∷ []) pids other within)
      (one-out pid old mid one) (outs pids mid new rest)
    where
      by : (other : ℕ) → Contains (pid ∷ []) other ⊎ Contains pids other → (other ≡ pid) ⊎ Contains pids other
      by other (inl (zero, lt, is)) = inl (sym is)
      by other (inl (suc k, lt, is)) = absurd (omega (arith, lt))
      by other (inr within) = inr within

  -- the table stays beside its log
  pub whole-out : (free : List ℕ) (pids : List ℕ) (old new : List Page) → IsWhole g.tells g.state config.idgen_persist_interval next sticky_log old free → AreOut pids old new
      → IsWhole g.tells g.state config.idgen_persist_interval next sticky_log new free
  whole-out free [] old new is same = subst (λ l. IsWhole g.tells g.state config.idgen_persist_interval next sticky_log l free) (sym same) is
  whole-out free (pid ∷ pids) old new is (mid, one, rest) = whole-out free pids mid new (by (slice_get old pid) refl one) rest
    where
      by : (o : Option Page) → slice_get old pid ≡ o → MatchOption o (mid ≡ old) (λ q. (page : Page) × IsPagedOut q page × (mid ≡ slice_set old pid page))
          → IsWhole g.tells g.state config.idgen_persist_interval next sticky_log mid free
      by None none same = subst (λ l. IsWhole g.tells g.state config.idgen_persist_interval next sticky_log l free) (sym same) is
      by (Some q) there (page, out, set) =
          subst (λ l. IsWhole g.tells g.state config.idgen_persist_interval next sticky_log l free) (sym set)
          (record {
            consistent = consistent-out g sticky_log old free pid q page is.consistent there out;
            positive = is.positive;
            counted = counted-out g config.idgen_persist_interval next sticky_log old is.counted pid q page there out;
          })

-- nothing changes
module _ {L : Type 0} (cache : Cache L) where
  pub keeps-same : KeepsMemory cache cache
  keeps-same = record { stay = stays-same cache; lru = refl }

  pub leaves-same : (tells : Type 0) (pid : ℕ) (error : Error) → EvictsAtMost cache pid cache tells error
  leaves-same tells pid error = record { others = inr (record { lru = refl; others = λ other _. stays-same cache other }); unasked = λ _. inr keeps-same }

-- A call changed the table, and then what the list dropped for it was paged out, and with that a page that is lost.
module _ {L : Type 0} {g : Ghosts L} {next next_then : ℕ} {config : Config} {recovered : Bool} {before after : StickyLog L} {table changed pages : List Page} {free free_then : List ℕ} {accesses between then : Accesses} {lost : Option ℕ}
    (is : IsSettled g next config recovered before table free accesses) (whole : IsWhole g.tells g.state config.idgen_persist_interval next_then after changed free_then) (evicts : Evicts between lost changed pages then) where
  whole-then : IsWhole g.tells g.state config.idgen_persist_interval next_then after pages free_then
  whole-then = whole-out g next_then config recovered accesses.lru after free_then (left_pages between.dropped (lost_pages lost)) changed pages whole evicts.out

  pub settled : IsBounded g (view next_then config recovered then.lru after pages) → IsSettled g next_then config recovered after pages free_then then
  settled bounded = record { whole = whole-then; none = evicts.none; bounded = bounded }

  pub settles : Settles g (view next config recovered accesses.lru before table) (view next_then config recovered accesses.lru after changed) (view next_then config recovered then.lru after pages) accesses between (lost_pages lost)
  settles =
      let left = left_pages between.dropped (lost_pages lost) in
      record {
        none = is.none;
        bounded = is.bounded;
        lists = refl;
        config = refl;
        lru = evicts.lru;
        out = out-listed (Contains left) _ _ then.lru (outs g next_then config recovered accesses.lru after left changed pages evicts.out);
        same = λ none. ap (λ pages. view next_then config recovered then.lru after pages) (subst (λ o. AreOut (left_pages o (lost_pages lost)) changed pages) none evicts.out);
        sized = sized-view g next_then config recovered then.lru after pages free_then whole-then.consistent;
      }

-- a call that accesses nothing keeps the table
pub kept-settled : {L : Type 0} (g : Ghosts L) (next next_then : ℕ) (config : Config) (recovered : Bool) (before after : StickyLog L) (table : List Page) (free : List ℕ) (accesses : Accesses)
    → IsSettled g next config recovered before table free accesses → IsWhole g.tells g.state config.idgen_persist_interval next_then after table free → IsSettled g next_then config recovered after table free accesses
kept-settled g next next_then config recovered before after table free accesses is whole = record {
  whole = whole;
  none = is.none;
  bounded = record { listed = is.bounded.listed; sized = sized-view g next_then config recovered accesses.lru after table free whole.consistent; sound = is.bounded.sound; capacity = is.bounded.capacity };
}
