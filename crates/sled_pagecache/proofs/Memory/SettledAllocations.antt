-- A node that was put on a page that had none, or was refused, once what the list dropped for it is paged out: what an allocation answers.
use Rattle.sled_pagecache.specs.Inside.Appends.{Puts, PutsOnNewPage}
use Rattle.sled_pagecache.proofs.Names.{inr, allocation_behind, no_name, HasNoName, ReadsNothing, IfOk, IfErr, OnOk, OnErr, ◌≡◌, ◌<◌, ◌+◌, ◌^◌, ℕ, Bool, false, List, [], ◌∷◌, ◌++◌, length, Some, None, Result, Ok, Err, slice_get, slice_set, refl, sym, ◌∙◌, ap, subst, arith, same_Some, error_of, Error, Refusal, Change, message_of, begun_by, Put, Node, Ghosts, WholeNode, Cache, IsResident, HasNoNode, IsBounded, AccessesPage, LeavesNodes, RefusesSwap, RefusesAppend, Keeps, Acts, IsBlamed, stamps_with, stamps_in, resident_in, is_free, IsFreeOrNode, IsConsistent, Token, token, pid_of, stamp_of, Allocate, Allocated, Config, StickyLog, Accesses, Page, IsWhole, Evicts, IsSettled, put-back, view, writer}
use Rattle.sled_pagecache.proofs.Steps.Allocations.{IsLastFree, last-at, taken-last, free-from, adds-refused, adds-done, reuses-refused, reuses-done}
use Rattle.sled_pagecache.proofs.Steps.KeptStamps.{keeps-err, keeps-ok, stamps-added, stamps-reused}
use Rattle.sled_pagecache.proofs.Memory.SettledAppends.{after-made}
use Rattle.sled_pagecache.proofs.Steps.CacheSteps.{steps-known}
use Rattle.sled_pagecache.proofs.Ids.DurableCounter.{spares-other, added-at, behind-counter, spares-refused, whole-then}
use Rattle.sled_pagecache.proofs.Memory.Eviction.{settled, settles}
use Rattle.sled_pagecache.proofs.Memory.SettledCaches.{blamed-moved, keeps-moved, node-takes, steps-moved, taken, untaken}
use Rattle.sled_pagecache.proofs.Memory.ResidentPages.{stays-has, loses-none, stay-view, past-view, free-at, adds-node}
use Rattle.sled_pagecache.proofs.Steps.Puts.{blamed}
use Rattle.sled_pagecache.proofs.Table.StatePages.{resident-add, one-short}
use Rattle.sled_pagecache.proofs.Table.ChangedTables.{consistent-same, consistent-new, marks-begun, free-add}
use Rattle.sled_pagecache.specs.declared.pagecache.table.page_entry.PageContent.TheVariants as page_content

-- All that an allocation promises.
abbrev pub PagePromises : {L : Type 0} → Ghosts L → Cache L → WholeNode → Cache L → Result (ℕ × Token) Error → Type 0
PagePromises g was node now result = record {
  step : Acts g was (Allocate node) (Allocated result) now;
  blame : IsBlamed g was now result;
  unread : ReadsNothing g was now;
  keeps : Keeps was now result (λ made. stamps_with was.stamps made.1);
  token : IfOk result (λ made. (pid_of made.1 ≡ made.0) × (slice_get now.stamps made.0 ≡ Some (stamp_of made.1)));
  resident : IfOk result (λ made. IsResident now made.0);
  bounded : IsBounded g now;
  accesses : IfOk result (λ made. AccessesPage was made.0 now);
  leaves : IfErr result (LeavesNodes g.tells was now);
  unnamed : IfErr result HasNoName;
}

module _ {L : Type 0} (g : Ghosts L) {next : ℕ} {config : Config} {recovered : Bool} {before after : StickyLog L} {table changed pages : List Page} {free : List ℕ} {accesses between then : Accesses}
    (is : IsSettled g next config recovered before table free accesses) (clear : before.fault ≡ false) (node : WholeNode) where
  -- the pages and the one that was refused, which had no node
  unplaced : {pid : ℕ} {why : Refusal → Type 0} {stays : Type 0} {refusal : Refusal} → HasNoNode (view next config recovered accesses.lru before table) pid → RefusesAppend g pid (Put (Node node)) before after accesses between why stays refusal → changed ≡ table
      → Evicts between None changed pages then
      → Acts g (view next config recovered accesses.lru before table) (Allocate node) (Allocated (Err (error_of refusal))) (view next config recovered accesses.lru after changed)
      → (let was = view next config recovered accesses.lru before table in let now = view next config recovered then.lru after pages in
      IsSettled g next config recovered after pages free then × PagePromises g was node now (Err (error_of refusal)))
  unplaced {pid} {why} {stays} {refusal} none refused back evicts step =
      let told : Result (Unit {0}) Refusal = Err refusal in
      let whole : IsWhole g.tells g.state config.idgen_persist_interval next after changed free =
      rw back
      (whole-then g is.whole clear (spares-refused g (Unit {0}) refusal (Change pid (message_of (Put (Node node))) ∷ []) (refused.went, refused.cause.fault)) refl
      (consistent-same g before after table free free is.whole.consistent clear (begun_by told (Change pid (message_of (Put (Node node))) ∷ [])) refused.went
      (marks-begun told pid (message_of (Put (Node node)))) refused.same)) in
      let result : Result (ℕ × Token) Error = Err (error_of refusal) in
      let behind = settles is whole evicts in
      let stay = stay-view next next config recovered accesses.lru before after table changed back in
      let it = untaken behind pid (error_of refusal) (loses-none g.tells _ accesses pid _ between clear refusal refused.touched stay refused.unasked) (inr (refl, λ its has. none its (stays-has _ _ pid its (stay pid) has))) in (
        settled is whole evicts it.bounded,
        record {
          step = steps-moved behind step;
          blame = blamed-moved behind (blamed g _ _ _ refusal refused.cause);
          unread = refused.reads;
          keeps = keeps-moved behind (keeps-err _ _ _ (Unit {0}) refusal clear refused.cause.fault (ap stamps_in back) refused.went.batch) it.stuck;
          token = tt;
          resident = tt;
          bounded = it.bounded;
          accesses = tt;
          leaves = (pid, none, it.leaves);
          unnamed = no_name refusal;
        },
      )

  -- ---- no page is free

  pub added : free ≡ [] → (written : Result (Unit {0}) Refusal) → PutsOnNewPage g node (writer before accesses) (writer after between) table changed written → Evicts between None changed pages then
      → (made : Token) → made ≡ token (length table) 1
      → (let was = view next config recovered accesses.lru before table in let now = view next config recovered then.lru after pages in
      IsSettled g next config recovered after pages free then × PagePromises g was node now (allocation_behind made written))
  added none (Ok unit) done evicts made is_made =
      let pid = made.pid in
      let last : pid ≡ length table = ap pid_of is_made in
      let new = done.page in
      let both = is.whole.consistent.both in
      let room : length table < 2 ^ 37 = let few = is.whole.consistent.few in let not_all = done.room in omega (arith, few, not_all) in
      let whole : IsWhole g.tells g.state config.idgen_persist_interval next after changed free =
      whole-then g is.whole clear (spares-other g (behind-counter (length table) both) done.went) (ap (λ (l : List Page). slice_get l 1) new.is ∙ added-at table new.page both)
      (subst (λ (l : List Page). IsConsistent g.tells g.state after l free) (sym new.is)
      (consistent-new g before after table free free is.whole.consistent clear
      (length table) (message_of (Put (Node node))) done.went new.page (subst IsFreeOrNode (sym new.holds) tt) (one-short new.page new.stamps) new.kept done.sized
      room done.others (is.whole.consistent.free ∙ sym (free-add 0 table new.page (ap is_free new.holds))))) in
      let result : Result (ℕ × Token) Error = Ok (pid, made) in
      let behind = settles is whole evicts in
      let it = taken behind pid refl (node-takes _ _ accesses between pid (adds-node next config recovered accesses.lru before after table changed new.page node new.holds new.is accesses between pid last done.accessed)) in
      let stamps = stamps-added table changed new.page made new.is (is_made ∙ ap (token (length table)) (sym new.stamp)) in (
        settled is whole evicts it.bounded,
        record {
          step = steps-moved behind (steps-known g _ _ (record { config = refl; recovered = refl }) (λ told. adds-done g next config recovered accesses.lru before table free clear is.whole.consistent node after changed done.is
              none done.room done.went done.fault new.page new.stamp new.is pid last made (is_made ∙ ap (λ n. token n 1) (sym last))));
          blame = record { read = λ is. absurd cc; write = λ is. absurd cc };
          unread = done.reads;
          keeps = keeps-moved behind (keeps-ok _ _ _ _ clear done.fault stamps.0 done.went.batch) tt;
          token = (refl, ap (λ (l : List ℕ). slice_get l pid) (ap (λ (cache : Cache L). cache.stamps) behind.out.rest) ∙ ap (slice_get (stamps_in changed)) last ∙ stamps.1);
          resident = it.stays.resident ∙ ap (λ (l : List Page). slice_get (resident_in l) pid) new.is ∙ ap (λ n. slice_get (resident_in (table ++ new.page ∷ [])) n) last ∙ resident-add table new.page node new.holds;
          bounded = it.bounded;
          accesses = it.accessed;
          leaves = tt;
          unnamed = tt;
        },
      )
  added none (Err refusal) refused evicts made is_made =
      unplaced (past-view next next config recovered accesses.lru before before table (length table) (omega arith)) refused refused.left evicts
      (steps-known g _ _ (record { config = refl; recovered = refl }) (λ told. adds-refused g next config recovered accesses.lru before table free clear is.whole.consistent node after changed refused.is none refused.left refusal (refused.refused told) refused.went refused.cause))

-- ---- a free page, of which the id is the last

module _ {L : Type 0} (g : Ghosts L) {next : ℕ} {config : Config} {recovered : Bool} {before after : StickyLog L} {table pages : List Page} {free front : List ℕ} {accesses between then : Accesses}
    (is : IsSettled g next config recovered before table free accesses) (clear : before.fault ≡ false) (node : WholeNode) {pid : ℕ} {q : Page} (last : IsLastFree 0 table front pid) (at : slice_get table pid ≡ Some q) where
  pub reused : (page : Page) (written : Result (Unit {0}) Refusal) → Puts g pid (page_content.Node node) (writer before accesses) (writer after between) q page written → {free_then : List ℕ} → OnOk written (free_then ≡ front) → OnErr written (free_then ≡ free)
      → Evicts between None (slice_set table pid page) pages then → (made : Token) → made ≡ token pid page.stamp
      → (let was = view next config recovered accesses.lru before table in let now = view next config recovered then.lru after pages in
      IsSettled g next config recovered after pages free_then then × PagePromises g was node now (allocation_behind made written))
  reused page (Ok unit) done {free_then} taken untaken evicts made is_made =
      rw is_made (
      let there = last-at table front pid last in
      let same : last.page ≡ q = same_Some last.page q (sym there ∙ at) in
      let result : Result (ℕ × Token) Error = Ok (pid, token pid page.stamp) in
      let after_all = after-made g is clear at result done tt refl (free-from table pid last.page is.whole.consistent.own there last.free) (taken ∙ taken-last table front pid last page (ap is_free done.holds)) evicts in
      let stamp : q.stamp ≡ last.page.stamp = ap (λ (page : Page). page.stamp) (sym same) in
      let stamps = stamps-reused table pid page last.page (token pid page.stamp) there refl in (
        after_all.is,
        record {
          step = after_all.evicted.steps (Allocate node) (Allocated result) (steps-known g _ _ (record { config = refl; recovered = refl }) (λ told. reuses-done g next config recovered accesses.lru before table free clear is.whole.consistent node after (slice_set table pid page) done.is
              front pid last (λ greatest. let below = done.stamp.0 in omega (arith, below, greatest, stamp)) done.went done.fault page (done.stamp.1 ∙ ap (λ n. n + 1) stamp) refl (token pid page.stamp) refl));
          blame = record { read = λ is. absurd cc; write = λ is. absurd cc };
          unread = done.reads;
          keeps = after_all.evicted.keeps (λ made. stamps_with (stamps_in table) made.1) (keeps-ok _ _ _ _ clear done.fault stamps.0 done.went.batch) tt;
          token = (refl, ap (λ (l : List ℕ). slice_get l pid) after_all.evicted.stamps ∙ stamps.1);
          resident = after_all.resident;
          bounded = after_all.evicted.bounded;
          accesses = after_all.accessed;
          leaves = tt;
          unnamed = tt;
        },
      ))
  reused page (Err refusal) refused taken untaken evicts made is_made =
      let there = last-at table front pid last in
      let same : last.page ≡ q = same_Some last.page q (sym there ∙ at) in
      let back = put-back table pid page (at ∙ ap (λ page. Some page) (sym refused.left)) in
      rw untaken (unplaced g is clear node (free-at next next config recovered accesses.lru before before table pid last.page there last.free) refused back evicts
      (steps-known g _ _ (record { config = refl; recovered = refl }) (λ told. reuses-refused g next config recovered accesses.lru before table free clear is.whole.consistent node after (slice_set table pid page) refused.is front pid last back refusal
      (subst (λ (page : Page). RefusesSwap page.stamp refusal) (sym same) (refused.refused told)) refused.went refused.cause)))
