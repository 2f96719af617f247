-- What follows from an append to one page that was made, or refused, once what the list dropped for it is paged out.
use Rattle.sled_pagecache.proofs.Names.{WholeNode, Replace, Replaced, answered, inl, lost_by, answer_behind, content_of, no_name, HasNoName, KeepsMemory, ReadsNothing, IfOk, IfErr, OnOk, IsFresh, ◌≡◌, ◌≤◌, ◌+◌, ℕ, Bool, true, false, List, [], ◌∷◌, Some, None, Result, Ok, Err, slice_get, slice_set, refl, sym, ◌∙◌, ap, subst, arith, slice_get_within, error_of, Error, Refusal, Change, message_of, begun_by, Put, Update, Ghosts, Cache, IsResident, HasNoNode, HasNoRoom, chain_length, IsBounded, AccessesPage, EvictsAtMost, MakesAppend, RefusesAppend, OnErr, Keeps, Acts, IsBlamed, stamps_after_swap, Swapped, SwapsContent, stamps_in, is_resident, free_ids, IsFreeOrNode, IsAnswered, Token, token, Answer, Call, Config, StickyLog, Accesses, Page, PageContent, IsWhole, Evicts, IsSettled, behind-own, put-back, view, writer}
use Rattle.sled_pagecache.proofs.Steps.KeptStamps.{keeps-err}
use Rattle.sled_pagecache.proofs.Steps.CacheSteps.{steps-known}
use Rattle.sled_pagecache.proofs.Ids.DurableCounter.{spares-other, behind-counter, other-at, spares-refused, whole-then}
use Rattle.sled_pagecache.proofs.Memory.Eviction.{keeps-same, settled, settles}
use Rattle.sled_pagecache.proofs.Memory.SettledCaches.{Settles, blamed-moved, keeps-moved, steps-moved, taken, untaken}
use Rattle.sled_pagecache.proofs.Memory.ResidentPages.{loses-none, stay-view, takes-page}
use Rattle.sled_pagecache.proofs.Steps.TokenCheck.{IsSwap, Unswapped, fresh-answered, handed-back, keeps-fresh, unless-made}
use Rattle.sled_pagecache.specs.Inside.Appends.{Puts}
use Rattle.sled_pagecache.specs.Swaps.{PutsAlone}
use Rattle.sled_pagecache.proofs.CacheLog.ProperPages.{IsPut}
use Rattle.sled_pagecache.proofs.Steps.Puts.{blamed}
use Rattle.sled_pagecache.proofs.Steps.Replacements.{swaps-refused, swaps-done}
use Rattle.sled_pagecache.proofs.Table.StatePages.{one-long, one-short, resident-set}
use Rattle.sled_pagecache.proofs.Table.ChangedTables.{consistent-same, consistent-put, marks-begun}

-- ---- one page

-- What follows of the cache, beside the cache before the eviction: of the machine, and of memory.
pub record Evicted {L T : Type 0} (g : Ghosts L) (was mid now : Cache L) (result : Result T Error) : Type 0 where
  pub steps : (call : Call) (answer : Answer) → Acts g was call answer mid → Acts g was call answer now
  pub blame : IsBlamed g was mid result → IsBlamed g was now result
  pub keeps : (stamps : T → List ℕ) → Keeps was mid result stamps → OnErr result (was.fault ≡ true → mid ≡ was → now ≡ was) → Keeps was now result stamps
  pub stamps : now.stamps ≡ mid.stamps
  pub bounded : IsBounded g now

evicted : {L T : Type 0} {g : Ghosts L} {was mid now : Cache L} {accesses between : Accesses} {lost : List ℕ} → Settles g was mid now accesses between lost → (result : Result T Error) → IsBounded g now → Evicted g was mid now result
evicted settles result bounded = record {
  steps = λ call answer. steps-moved settles;
  blame = blamed-moved settles;
  keeps = λ stamps. keeps-moved settles;
  stamps = ap (λ cache. cache.stamps) settles.out.rest;
  bounded = bounded;
}

pub record AfterMade {L T : Type 0} (g : Ghosts L) (was mid now : Cache L) (settled : Type 0) (pid : ℕ) (result : Result T Error) : Type 0 where
  pub is : settled
  pub evicted : Evicted g was mid now result
  pub accessed : AccessesPage was pid now
  pub resident : IsResident now pid
  pub none : HasNoNode mid pid → HasNoNode now pid

pub record AfterRefused {L T : Type 0} (g : Ghosts L) (was mid now : Cache L) (settled : Type 0) (pid : ℕ) (refusal : Refusal) (result : Result T Error) : Type 0 where
  pub is : settled
  pub evicted : Evicted g was mid now result
  pub leaves : EvictsAtMost was pid now g.tells (error_of refusal)
  pub stuck : was.fault ≡ true → mid ≡ was → now ≡ was

module _ {L : Type 0} (g : Ghosts L) {next : ℕ} {config : Config} {recovered : Bool} {before after : StickyLog L} {table pages : List Page} {free free_then : List ℕ} {accesses between then : Accesses}
    (is : IsSettled g next config recovered before table free accesses) (clear : before.fault ≡ false) {pid : ℕ} {q page : Page} (at : slice_get table pid ≡ Some q) {update : Update} where
  -- it was made, and the table stays beside its log
  pub after-whole : {T : Type 0} {next_then : ℕ} (result : Result T Error) {held : PageContent} → MakesAppend g pid update before after accesses between q page held → is_resident held ≡ true
      → IsWhole g.tells g.state config.idgen_persist_interval next_then after (slice_set table pid page) free_then → Evicts between None (slice_set table pid page) pages then
      → AfterMade g
      (view next config recovered accesses.lru before table)
      (view next_then config recovered accesses.lru after (slice_set table pid page))
      (view next_then config recovered then.lru after pages)
      (IsSettled g next_then config recovered after pages free_then then) pid result
  after-whole {next_then = next_then} result made there whole evicts =
      let behind = settles is whole evicts in
      let takes = takes-page next config recovered accesses.lru before after table pid q page at accesses between made.accessed in
      let it = taken behind pid refl (record { size = takes.size; only = takes.only; accessed = takes.accessed; others = λ other apart. let stays = takes.others other apart in record { resident = stays.resident; node = stays.node } }) in
      record {
        is = settled is whole evicts it.bounded;
        evicted = evicted behind result it.bounded;
        accessed = it.accessed;
        resident = it.stays.resident ∙ resident-set table pid page (slice_get_within table pid q at) (ap is_resident made.holds ∙ there);
        none = λ none size has. none size (behind.out.nodes pid size has);
      }

  pub after-made : {T : Type 0} (result : Result T Error) {held : PageContent} → MakesAppend g pid update before after accesses between q page held → IsFreeOrNode held → is_resident held ≡ true → 2 ≤ pid
      → free_then ≡ free_ids 0 (slice_set table pid page) → Evicts between None (slice_set table pid page) pages then
      → AfterMade g
      (view next config recovered accesses.lru before table)
      (view next config recovered accesses.lru after (slice_set table pid page))
      (view next config recovered then.lru after pages)
      (IsSettled g next config recovered after pages free_then then) pid result
  after-made result made own there behind frees evicts =
      let other = behind-counter pid behind in
      after-whole result made there
      (whole-then g is.whole clear (spares-other g other made.went) (other-at table pid page other)
      (consistent-put g before after table free free_then is.whole.consistent clear pid (message_of update) made.went page (subst IsFreeOrNode (sym made.holds) own)
      (one-short page made.stamps) made.kept made.sized behind made.others frees)) evicts

  pub after-refused : {T : Type 0} (result : Result T Error) {why : Refusal → Type 0} {refusal : Refusal} → RefusesAppend g pid update before after accesses between why (page ≡ q) refusal
      → free_then ≡ free → Evicts between (Some pid) (slice_set table pid page) pages then
      → AfterRefused g
      (view next config recovered accesses.lru before table)
      (view next config recovered accesses.lru after (slice_set table pid page))
      (view next config recovered then.lru after pages)
      (IsSettled g next config recovered after pages free_then then) pid refusal result
  after-refused result {why} {refusal} refused unfreed evicts =
      let changed = slice_set table pid page in
      let told : Result (Unit {0}) Refusal = Err refusal in
      let back : changed ≡ table = put-back table pid page (at ∙ ap (λ page. Some page) (sym refused.left)) in
      let whole : IsWhole g.tells g.state config.idgen_persist_interval next after changed free_then =
      rw (back, unfreed)
      (whole-then g is.whole clear (spares-refused g (Unit {0}) refusal (Change pid (message_of update) ∷ []) (refused.went, refused.cause.fault)) refl
      (consistent-same g before after table free free is.whole.consistent clear (begun_by told (Change pid (message_of update) ∷ [])) refused.went
      (marks-begun told pid (message_of update)) refused.same)) in
      let behind = settles is whole evicts in
      let it = untaken behind pid (error_of refusal)
      (loses-none g.tells _ accesses pid _ between clear refusal refused.touched (stay-view next next config recovered accesses.lru before after table changed back) refused.unasked) (inl refl) in
      record { is = settled is whole evicts it.bounded; evicted = evicted behind result it.bounded; leaves = it.leaves; stuck = it.stuck }

-- ---- the page of a token

-- All that a swap promises that puts a content in place of another.
abbrev pub SwapPromises : {L R : Type 0} → Ghosts L → Cache L → ℕ → Token → R → Call → (Swapped R → Answer) → (Cache L → Type 0) → Cache L → Swapped R → Type 0
SwapPromises g was pid old given call answered LiesThere now result = record {
  step : Acts g was call (answered result) now;
  blame : IsBlamed g was now result;
  keeps : Keeps was now result (stamps_after_swap was.stamps);
  token : IfOk result (IsAnswered was.stamps old given);
  unread : ReadsNothing g was now;
  length : g.tells → IfOk result (λ swapped. OnOk swapped (chain_length g.state now pid ≡ 1));
  resident : IfOk result (λ swapped. OnOk swapped (LiesThere now));
  bounded : IsBounded g now;
  accesses : IfOk result (λ swapped. OnOk swapped (AccessesPage was pid now));
  same : IfOk result (λ swapped. OnErr swapped (KeepsMemory was now));
  leaves : IfErr result (EvictsAtMost was pid now g.tells);
  unnamed : IfErr result HasNoName;
}

-- which is what putting a node promises, where the page's node is in memory then
pub puts-alone : {L : Type 0} (g : Ghosts L) (was now : Cache L) (pid : ℕ) (old : Token) (node : WholeNode) (result : Swapped WholeNode) → SwapPromises g was pid old node (Replace old node) Replaced (λ cache. IsResident cache pid) now result
    → PutsAlone g was pid old node result now
puts-alone g was now pid old node result all = record {
  step = all.step;
  left = record { blame = all.blame; keeps = all.keeps; token = all.token; resident = all.resident; accesses = all.accesses; same = all.same; leaves = all.leaves; bounded = all.bounded; unnamed = all.unnamed };
  length = all.length;
  unread = all.unread;
}

-- whether it was written or refused
pub either-way : {T E P Q : Type 0} (written : Result T E) → P → Q → OnOk written P × OnErr written Q
either-way (Ok done) p q = (p, tt)
either-way (Err refusal) p q = (tt, q)

-- of one whose token was rejected
pub swap-rejected : {L R : Type 0} (g : Ghosts L) (cache : Cache L) {pid : ℕ} {old : Token} {given : R} {call : Call} {answered : Swapped R → Answer} (LiesThere : Cache L → Type 0) (result : Swapped R) → IsBounded g cache
    → Unswapped g cache pid old given call answered result → SwapPromises g cache pid old given call answered LiesThere cache result
swap-rejected g cache LiesThere result bounded kept = record {
  step = kept.step;
  blame = kept.blame;
  keeps = kept.keeps;
  token = kept.token;
  unread = refl;
  length = λ told. unless-made _ result kept.unmade;
  resident = unless-made _ result kept.unmade;
  bounded = bounded;
  accesses = unless-made _ result kept.unmade;
  same = handed-back _ result (keeps-same _);
  leaves = kept.leaves;
  unnamed = kept.unnamed;
}

module _ {L : Type 0} (g : Ghosts L) {next : ℕ} {config : Config} {recovered : Bool} {before after : StickyLog L} {table pages : List Page} {free free_then : List ℕ} {accesses between then : Accesses}
    (is : IsSettled g next config recovered before table free accesses) {pid : ℕ} {old : Token} {q : Page} (fresh : IsFresh before.fault table pid old q) (same : old.pid ≡ pid) {R : Type 0} (given : R) (held : PageContent) (put : IsPut (content_of held))
    (call : Call) (answered : Swapped R → Answer)
    (swap : let cache = view next config recovered accesses.lru before table in IsSwap g cache old given call answered (λ s answer out _. SwapsContent (chain_length g.state cache) (HasNoRoom g before.log) s old (Put (content_of held)) (content_of held) answer out))
    (LiesThere : Cache L → Type 0) where
  -- once what the list dropped for it is paged out
  pub swap-ended : (page : Page) (made : Token) → made ≡ token pid page.stamp → (written : Result (Unit {0}) Refusal) → Puts g pid held (writer before accesses) (writer after between) q page written → IsFreeOrNode held → is_resident held ≡ true
      → OnOk written (page.kept ≡ held → free_then ≡ free_ids 0 (slice_set table pid page)) × OnErr written (free_then ≡ free) → Evicts between (lost_by made.pid written) (slice_set table pid page) pages then
      → (let now = view next config recovered then.lru after pages in page.kept ≡ held → IsResident now pid → (HasNoNode (view next config recovered accesses.lru after (slice_set table pid page)) pid → HasNoNode now pid) → LiesThere now)
      → (let was = view next config recovered accesses.lru before table in let now = view next config recovered then.lru after pages in
      IsSettled g next config recovered after pages free_then then × SwapPromises g was pid old given call answered LiesThere now (answer_behind made written))
  swap-ended page made is_made (Ok done) appended own there frees evicts lies =
      let result : Swapped R = Ok (Ok made) in
      let behind = after-made g is fresh.clear fresh.at result appended own there (behind-own pid fresh.behind) (frees.0 appended.holds) evicts in
      let named : made ≡ token pid (old.stamp + 1) = is_made ∙ ap (token pid) (appended.stamp.1 ∙ ap (λ n. n + 1) fresh.stamp) in (
        behind.is,
        record {
          step = behind.evicted.steps call (answered result)
              (swaps-done g next config recovered accesses.lru before table fresh.clear (is.whole.consistent.beside fresh.clear) old pid given (content_of held) put call answered swap same table refl after fresh.behind q fresh.at fresh.full fresh.stamp
              appended.is (λ last. let below = appended.stamp.0 in omega (arith, below, last)) appended.went appended.fault page appended.stamp.1 made named);
          blame = record { read = λ is. absurd cc; write = λ is. absurd cc };
          keeps = behind.evicted.keeps (stamps_after_swap (stamps_in table)) (keeps-fresh next config recovered accesses.lru before table pid old q fresh R after page appended.fault appended.went.batch appended.stamp.1 _ named) tt;
          token = fresh-answered next config recovered accesses.lru before table pid old q fresh same R given _ (named ∙ ap (λ n. token n (old.stamp + 1)) (sym same));
          unread = appended.reads;
          length = λ told. one-long _ page (appended.kept told) appended.stamps;
          resident = lies appended.holds behind.resident behind.none;
          bounded = behind.evicted.bounded;
          accesses = behind.accessed;
          same = tt;
          leaves = tt;
          unnamed = tt;
        },
      )
  swap-ended page made is_made (Err refusal) refused own there unfreed evicts lies =
      let result : Swapped R = Err (error_of refusal) in
      let behind = after-refused g is fresh.clear fresh.at result refused unfreed.1 (subst (λ t. Evicts between (Some t.pid) (slice_set table pid page) pages then) is_made evicts) in
      let back = put-back table pid page (fresh.at ∙ ap (λ page. Some page) (sym refused.left)) in (
        behind.is,
        record {
          step = behind.evicted.steps call (answered result)
              (steps-known g _ _ (record { config = refl; recovered = refl }) (λ told. swaps-refused g next config recovered accesses.lru before table fresh.clear (is.whole.consistent.beside fresh.clear) old pid given (content_of held) put call answered swap same
              (slice_set table pid page) back after fresh.behind q fresh.at fresh.full fresh.stamp refused.is refusal (refused.refused told) refused.went refused.cause));
          blame = behind.evicted.blame (blamed g _ _ _ refusal refused.cause);
          keeps = behind.evicted.keeps (stamps_after_swap (stamps_in table)) (keeps-err _ _ _ (Unit {0}) refusal fresh.clear refused.cause.fault (ap stamps_in back) refused.went.batch) behind.stuck;
          token = tt;
          unread = refused.reads;
          length = λ told. tt;
          resident = tt;
          bounded = behind.evicted.bounded;
          accesses = tt;
          same = tt;
          leaves = behind.leaves;
          unnamed = no_name refusal;
        },
      )
