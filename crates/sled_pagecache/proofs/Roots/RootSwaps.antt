-- A swap of a named root that was written, or refused, once what the list dropped for it is paged out: what it answers.
use Rattle.sled_pagecache.proofs.Names.{◌≡◌, ◌+◌, ℕ, Bool, false, List, Option, Some, None, Result, Ok, Err, slice_set, refl, sym, ◌∙◌, ap, subst, get_or_from_slice_get, map-set, error_of, Error, Refusal, Roots, Put, message_of, Ghosts, MakesAppend, RefusesAppend, RefusesSwap, IsBlamed, Keeps, Acts, CasRoot, RootSwapped, stamps_after_root_swap, is_free, IsRoots, stamps_in, Config, StickyLog, Accesses, Page, Bytes, changed_roots, IsWhole, Evicts, IsSettled, roots_in, map-at, put-back, view}
use Rattle.sled_pagecache.proofs.Steps.KeptStamps.{keeps-err, keeps-ok}
use Rattle.sled_pagecache.proofs.Memory.SettledAppends.{AfterMade, AfterRefused, after-whole, after-refused}
use Rattle.sled_pagecache.proofs.Steps.CacheSteps.{steps-known}
use Rattle.sled_pagecache.proofs.Ids.DurableCounter.{spares-other, other-at, whole-then}
use Rattle.sled_pagecache.proofs.Steps.Puts.{blamed}
use Rattle.sled_pagecache.proofs.Roots.RootPage.{IsSwappable, root-refused, root-swapped}
use Rattle.sled_pagecache.proofs.Table.StatePages.{one-short}
use Rattle.sled_pagecache.proofs.Table.ChangedTables.{consistent-put-own, free-same}
use Rattle.sled_pagecache.specs.declared.pagecache.table.page_entry.PageContent.TheVariants as page_content

module _ {L : Type 0} (g : Ghosts L) {next : ℕ} {config : Config} {recovered : Bool} {before after : StickyLog L} {table pages : List Page} {free : List ℕ} {accesses between then : Accesses}
    (is : IsSettled g next config recovered before table free accesses) (clear : before.fault ≡ false) {name : Bytes} {old new : Option ℕ} {q page : Page} (swaps : IsSwappable table q name old new) where
  pub root-made : (let roots = changed_roots name new (roots_in q.kept) in MakesAppend g 0 (Put (Roots roots)) before after accesses between q page (page_content.Roots roots)) → Evicts between None (slice_set table 0 page) pages then
      → AfterMade {T = Result (Unit {0}) (Option ℕ)} g (view next config recovered accesses.lru before table) (view next config recovered accesses.lru after (slice_set table 0 page)) (view next config recovered then.lru after pages) (IsSettled g next config recovered after pages free then) 0 (Ok (Ok tt))
      × Acts g (view next config recovered accesses.lru before table) (CasRoot name old new) (RootSwapped (Ok (Ok tt))) (view next config recovered then.lru after pages)
      × Keeps (view next config recovered accesses.lru before table) (view next config recovered then.lru after pages) (Ok (Ok tt)) (stamps_after_root_swap (stamps_in table))
  root-made made evicts =
      let consistent = is.whole.consistent in
      let whole : IsWhole g.tells g.state config.idgen_persist_interval next after (slice_set table 0 page) free =
      whole-then g is.whole clear (spares-other g (λ is. cc) made.went) (other-at table 0 page (λ is. cc))
      (consistent-put-own g before after table free free consistent clear 0 (message_of (Put (Roots (changed_roots name new (roots_in q.kept))))) made.went page (subst IsRoots (sym made.holds) tt) (one-short page made.stamps) made.kept made.sized made.others
      (consistent.free ∙ sym (free-same 0 table 0 page q swaps.at (ap is_free made.holds ∙ sym (ap is_free swaps.kept))))) in
      let result : Result (Result (Unit {0}) (Option ℕ)) Error = Ok (Ok tt) in
      let then_all = after-whole g is clear swaps.at result made refl whole evicts in
      let stamp = get_or_from_slice_get (stamps_in table) 0 q.stamp 0 (map-at (λ (p : Page). p.stamp) table 0 q swaps.at) in (
        then_all,
        then_all.evicted.steps (CasRoot name old new) (RootSwapped result)
            (root-swapped g next config recovered accesses.lru before table free consistent clear (roots_in q.kept) q.stamp (record { page = q; at = swaps.at; kept = swaps.kept; stamp = refl }) name old new swaps.same swaps.can after made),
        then_all.evicted.keeps (stamps_after_root_swap (stamps_in table)) (keeps-ok _ _ (stamps_after_root_swap (stamps_in table)) (Ok tt) clear made.fault
            (map-set (λ (p : Page). p.stamp) table 0 page ∙ ap (λ n. slice_set (stamps_in table) 0 n) (made.stamp.1 ∙ ap (λ n. n + 1) (sym stamp))) made.went.batch) tt,
      )

  pub root-unmade : {refusal : Refusal} → RefusesAppend g 0 (Put (Roots (changed_roots name new (roots_in q.kept)))) before after accesses between (RefusesSwap q.stamp) (page ≡ q) refusal → Evicts between (Some 0) (slice_set table 0 page) pages then
      → AfterRefused {T = Result (Unit {0}) (Option ℕ)} g (view next config recovered accesses.lru before table) (view next config recovered accesses.lru after (slice_set table 0 page)) (view next config recovered then.lru after pages) (IsSettled g next config recovered after pages free then) 0 refusal (Err (error_of refusal))
      × Acts g (view next config recovered accesses.lru before table) (CasRoot name old new) (RootSwapped (Err (error_of refusal))) (view next config recovered then.lru after pages)
      × IsBlamed {T = Result (Unit {0}) (Option ℕ)} g (view next config recovered accesses.lru before table) (view next config recovered then.lru after pages) (Err (error_of refusal))
      × Keeps (view next config recovered accesses.lru before table) (view next config recovered then.lru after pages) (Err (error_of refusal)) (stamps_after_root_swap (stamps_in table))
  root-unmade {refusal} refused evicts =
      let result : Result (Result (Unit {0}) (Option ℕ)) Error = Err (error_of refusal) in
      let then_all = after-refused g is clear swaps.at result refused refl evicts in
      let back = put-back table 0 page (swaps.at ∙ ap (λ page. Some page) (sym refused.left)) in (
        then_all,
        then_all.evicted.steps (CasRoot name old new) (RootSwapped result)
            (steps-known g _ _ (record { config = refl; recovered = refl }) (λ told. root-refused g next config recovered accesses.lru before table free is.whole.consistent clear (roots_in q.kept) q.stamp (record { page = q; at = swaps.at; kept = swaps.kept; stamp = refl })
            name old new swaps.same swaps.can after (slice_set table 0 page) back refused (refused.refused told))),
        then_all.evicted.blame (blamed g _ _ _ refusal refused.cause),
        then_all.evicted.keeps (stamps_after_root_swap (stamps_in table)) (keeps-err _ _ _ (Unit {0}) refusal clear refused.cause.fault (ap stamps_in back) refused.went.batch) then_all.stuck,
      )
