-- What follows of giving an id where a new counter was put on its page, or was refused, once what the list dropped for it is paged out.
use Rattle.sled_pagecache.proofs.Names.{◌≡◌, ◌+◌, ◌-◌, ◌^◌, ℕ, Bool, false, List, [], Some, None, Result, Ok, Err, slice_get, slice_set, refl, sym, ◌∙◌, ap, subst, arith, inl, error_of, Error, Refusal, Put, Counter, Ghosts, MakesAppend, RefusesAppend, RefusesSwap, IsBlamed, Keeps, Acts, GenerateId, Generated, is_free, stamps_in, Config, StickyLog, Accesses, Page, IsWhole, Evicts, IsSettled, GivesId, IsCovered, interval_start, view, ◌≤◌, ◌<◌, same_Some, Token, put-back, set-at, IsCounter}
use Rattle.sled_pagecache.proofs.Steps.KeptStamps.{keeps-err, keeps-ok}
use Rattle.sled_pagecache.proofs.Memory.SettledAppends.{AfterMade, AfterRefused, after-whole, after-refused}
use Rattle.sled_pagecache.proofs.Steps.CacheSteps.{steps-known}
use Rattle.sled_pagecache.proofs.Ids.DurableCounter.{counted-stable, covered-next}
use Rattle.sled_pagecache.proofs.Ids.GeneratedIds.{id-put, id-refused}
use Rattle.sled_pagecache.proofs.Steps.Puts.{blamed}
use Rattle.sled_pagecache.proofs.Table.StatePages.{one-short}
use Rattle.sled_pagecache.proofs.Table.ChangedTables.{consistent-put-own, free-same}
use Rattle.sled_pagecache.specs.Inside.CounterPage.{IsCounterIn}
use Rattle.sled_pagecache.specs.declared.pagecache.table.page_entry.PageContent.TheVariants as page_content

same-start : (k next start : ℕ) → 0 < k → start ≡ interval_start k next → interval_start k next ≤ interval_start k start
same-start k next start some starts = grind arith

counter-kept : {table : List Page} {q : Page} {counter : Token × ℕ} → slice_get table 1 ≡ Some q → IsCounterIn table counter → q.kept ≡ page_content.Counter counter.1
counter-kept {q = q} at found = ap (λ (p : Page). p.kept) (same_Some q found.page (sym at ∙ found.at)) ∙ found.counter

module _ {L : Type 0} (g : Ghosts L) {next : ℕ} {config : Config} {recovered : Bool} {before after : StickyLog L} {table pages : List Page} {free : List ℕ} {accesses between then : Accesses}
    (is : IsSettled g next config recovered before table free accesses) (clear : before.fault ≡ false) (closed : before.batch ≡ false) {q page : Page} (at : slice_get table 1 ≡ Some q) {counter : Token × ℕ} (found : IsCounterIn table counter)
    (few : next ≤ 2 ^ 64 - 1) {start from : ℕ} (starts : start ≡ interval_start config.idgen_persist_interval next) (covers : from ≡ interval_start config.idgen_persist_interval counter.1) (past : from < start) where
  pub id-made : MakesAppend g 1 (Put (Counter start)) before after accesses between q page (page_content.Counter start) → (g.state after.log).pending ≡ [] → Evicts between None (slice_set table 1 page) pages then
      → AfterMade {T = ℕ} g (view next config recovered accesses.lru before table) (view (next + 1) config recovered accesses.lru after (slice_set table 1 page)) (view (next + 1) config recovered then.lru after pages) (IsSettled g (next + 1) config recovered after pages free then) 1 (Ok next)
      × IsCovered g (view (next + 1) config recovered then.lru after pages) next × Acts g (view next config recovered accesses.lru before table) GenerateId (Generated (Ok next)) (view (next + 1) config recovered then.lru after pages)
      × Keeps {T = ℕ} (view next config recovered accesses.lru before table) (view (next + 1) config recovered then.lru after pages) (Ok next) (λ _. stamps_in pages) × GivesId g (view next config recovered accesses.lru before table) (view (next + 1) config recovered then.lru after pages)
  id-made made stable evicts =
      let k = config.idgen_persist_interval in
      let consistent =
      consistent-put-own g before after table free free is.whole.consistent clear 1 _ made.went page (subst IsCounter (sym made.holds) tt) (one-short page made.stamps) made.kept made.sized made.others
      (is.whole.consistent.free ∙ sym (free-same 0 table 1 page q at (ap is_free made.holds ∙ sym (ap is_free (counter-kept at found))))) in
      let whole : IsWhole g.tells g.state k (next + 1) after (slice_set table 1 page) free = record { consistent = consistent; positive = is.whole.positive; counted = counted-stable g k (next + 1) after (slice_set table 1 page) (λ free. (consistent.beside free).kept) stable } in
      let result : Result ℕ Error = Ok next in
      let then_all = after-whole g is clear at result made refl whole evicts in (
        then_all,
        covered-next g (record { consistent = consistent; positive = is.whole.positive; counted = counted-stable g k next after (slice_set table 1 page) (λ free. (consistent.beside free).kept) stable }) made.fault
            (record { page = page; at = set-at table 1 q page at; counter = made.holds; token = refl }) (same-start k next start is.whole.positive starts),
        then_all.evicted.steps GenerateId (Generated result)
            (id-put g is clear at (counter-kept at found) few starts covers past closed after made),
        subst (λ (l : List ℕ). Keeps (view next config recovered accesses.lru before table) (view (next + 1) config recovered then.lru after pages) result (λ _. l)) (sym then_all.evicted.stamps)
            (then_all.evicted.keeps (λ _. stamps_in (slice_set table 1 page)) (keeps-ok _ _ (λ _. stamps_in (slice_set table 1 page)) next clear made.fault refl made.went.batch) tt),
        inl (then_all.accessed, stable),
      )

  pub id-unmade : {refusal : Refusal} → RefusesAppend g 1 (Put (Counter start)) before after accesses between (RefusesSwap q.stamp) (page ≡ q) refusal → Evicts between (Some 1) (slice_set table 1 page) pages then
      → AfterRefused {T = ℕ} g (view next config recovered accesses.lru before table) (view next config recovered accesses.lru after (slice_set table 1 page)) (view next config recovered then.lru after pages) (IsSettled g next config recovered after pages free then) 1 refusal (Err (error_of refusal))
      × Acts g (view next config recovered accesses.lru before table) GenerateId (Generated (Err (error_of refusal))) (view next config recovered then.lru after pages)
      × IsBlamed {T = ℕ} g (view next config recovered accesses.lru before table) (view next config recovered then.lru after pages) (Err (error_of refusal))
      × Keeps {T = ℕ} (view next config recovered accesses.lru before table) (view next config recovered then.lru after pages) (Err (error_of refusal)) (λ _. stamps_in pages)
  id-unmade {refusal} refused evicts =
      let result : Result ℕ Error = Err (error_of refusal) in
      let then_all = after-refused g is clear at result refused refl evicts in
      let back = put-back table 1 page (at ∙ ap (λ page. Some page) (sym refused.left)) in (
        then_all,
        then_all.evicted.steps GenerateId (Generated result)
            (steps-known g _ _ (record { config = refl; recovered = refl }) (λ told.
            id-refused g is clear at (counter-kept at found) few starts covers past closed after (slice_set table 1 page) back refused (refused.refused told))),
        then_all.evicted.blame (blamed g _ _ _ refusal refused.cause),
        then_all.evicted.keeps (λ _. stamps_in pages) (keeps-err _ _ _ (Unit {0}) refusal clear refused.cause.fault (ap stamps_in back) refused.went.batch) then_all.stuck,
      )
