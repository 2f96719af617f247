-- A link that was made, or refused, once what the list dropped for it is paged out: what it answers.
use Rattle.sled_pagecache.proofs.Names.{inl, link_answer, link_behind, lost_by, no_name, IfOk, subst, IsFresh, ◌≡◌, ◌+◌, ℕ, Bool, List, nat_lt, Some, Result, Ok, Err, slice_set, refl, sym, ◌∙◌, ap, error_of, Refusal, Ghosts, Cache, Swapped, is_free, chain_length, Token, token, Config, StickyLog, Accesses, Page, NodeLink, Rejection, IsWhole, Evicts, IsSettled, behind-own, view, writer}
use Rattle.sled_pagecache.proofs.Steps.KeptStamps.{keeps-err}
use Rattle.sled_pagecache.proofs.Steps.CacheSteps.{steps-known}
use Rattle.sled_pagecache.proofs.Ids.DurableCounter.{spares-other, behind-counter, other-at, spares-link, whole-then}
use Rattle.sled_pagecache.proofs.Memory.Eviction.{settled, settles}
use Rattle.sled_pagecache.proofs.Memory.SettledCaches.{blamed-moved, damaged-moved, keeps-moved, reads-moved, steps-moved, taken, untaken}
use Rattle.sled_pagecache.proofs.Memory.ResidentPages.{loses-page, takes-page}
use Rattle.sled_pagecache.proofs.Steps.TokenCheck.{fresh-answered, keeps-fresh}
use Rattle.sled_pagecache.proofs.Links.LinkSteps.{link-refused, link-taken}
use Rattle.sled_pagecache.proofs.Links.LinkTables.{refused-consistent, taken-consistent, taken-length, taken-resident, refused-out}
use Rattle.sled_pagecache.proofs.Links.LinkTests.{refused-tests, taken-tests, refused-damage, taken-damage}
use Rattle.sled_pagecache.proofs.Memory.PageIn.{length-before, page-own-at, stamps-same, reads-pulled}
use Rattle.sled_pagecache.proofs.Steps.Puts.{blamed}
use Rattle.sled_pagecache.specs.Inside.LinkWrites.{PutsLink}
use Rattle.sled_pagecache.specs.Swaps.{LinksAlone}

-- All that a link promises.
abbrev pub LinkPromises : {L : Type 0} → Ghosts L → Cache L → ℕ → Token → NodeLink → Cache L → Result (Token × Bool) Rejection → Type 0
LinkPromises g was pid old link now done = record {
  links : LinksAlone g was pid old link (link_answer done link) now;
  joins : g.tells → IfOk done (λ made. made.1 ≡ nat_lt (chain_length g.state was pid) 10);
}

module _ {L : Type 0} (g : Ghosts L) {next : ℕ} {config : Config} {recovered : Bool} {before after : StickyLog L} {table pages : List Page} {free : List ℕ} {accesses between then : Accesses}
    (is : IsSettled g next config recovered before table free accesses) {pid : ℕ} {old : Token} {q : Page} (fresh : IsFresh before.fault table pid old q) (same : old.pid ≡ pid) {link : NodeLink} where
  -- once what the list dropped for it is paged out
  pub link-ended : (page : Page) (made : Token) → made ≡ token pid page.stamp → (written : Result Bool Refusal) → PutsLink g (writer before accesses) pid q link (writer after between) page written
      → Evicts between (lost_by made.pid written) (slice_set table pid page) pages then
      → (let was = view next config recovered accesses.lru before table in let now = view next config recovered then.lru after pages in
      IsSettled g next config recovered after pages free then × LinkPromises g was pid old link now (link_behind made written))
  link-ended page made is_made (Ok joins) done evicts =
      let changed = slice_set table pid page in
      let kept = is.whole.consistent in
      let other = behind-counter pid (behind-own pid fresh.behind) in
      let whole : IsWhole g.tells g.state config.idgen_persist_interval next after changed free =
      whole-then g is.whole fresh.clear (spares-other g other done.taken.tells.went) (other-at table pid page other)
      (taken-consistent g before after table free pid q page kept fresh.clear fresh.behind fresh.at link done.taken (ap is_free done.taken.holds ∙ sym fresh.full)) in
      let result : Swapped NodeLink = Ok (Ok made) in
      let pulled : Result (Unit {0}) Refusal = Ok tt in
      let behind = settles is whole evicts in
      let it = taken behind pid refl (takes-page next config recovered accesses.lru before after table pid q page fresh.at accesses between done.accessed) in
      let named : made ≡ token pid (old.stamp + 1) = is_made ∙ ap (token pid) (done.taken.raised.1 ∙ ap (λ n. n + 1) fresh.stamp) in (
        settled is whole evicts it.bounded,
        record {
          links = record {
            step = steps-moved behind (rw named (link-taken g next config recovered accesses.lru before table free pid kept fresh.clear old same link fresh.behind q fresh.at fresh.full after page fresh.stamp done.taken done.fault));
            left = record {
              blame = record { read = λ is. absurd cc; write = λ is. absurd cc };
              keeps = keeps-moved behind (keeps-fresh next config recovered accesses.lru before table pid old q fresh _ after page done.fault done.taken.tells.went.batch done.taken.raised.1 made named) tt;
              token = fresh-answered next config recovered accesses.lru before table pid old q fresh same _ link made (named ∙ ap (λ n. token n (old.stamp + 1)) (sym same));
              resident = it.stays.resident ∙ taken-resident g before after table free pid q page kept fresh.clear fresh.behind fresh.at link next config recovered accesses.lru done.taken;
              accesses = it.accessed;
              same = tt;
              leaves = tt;
              bounded = it.bounded;
              unnamed = tt;
            };
            tested = taken-tests g next config recovered accesses.lru before table free pid kept old q fresh link same after page done.taken _;
            length = λ told. taken-length g before after table free pid q page kept fresh.clear fresh.behind fresh.at link next config recovered accesses.lru told done.taken;
            reads = reads-moved behind pid (reads-pulled g next config recovered accesses.lru before after table free pid q page kept fresh.clear fresh.behind fresh.at pulled done.unread done.reads (λ away. tt));
            unread = tt;
            kept_out = tt;
            damaged = λ meets stamp. absurd (taken-damage g next config recovered accesses.lru before table free pid kept old q fresh link meets after page done.taken);
          };
          joins = λ told. done.joined ∙ ap (λ n. nat_lt n 10) (length-before g next config recovered accesses.lru before after table free pid q page kept fresh.clear fresh.behind fresh.at told);
        },
      )
  link-ended page made is_made (Err refusal) refused out =
      let evicts = subst (λ t. Evicts between (Some t.pid) (slice_set table pid page) pages then) is_made out in
      let changed = slice_set table pid page in
      let kept = is.whole.consistent in
      let told : Result (Unit {0}) Refusal = Err refusal in
      let whole : IsWhole g.tells g.state config.idgen_persist_interval next after changed free =
      whole-then g is.whole fresh.clear (spares-link g (Unit {0}) pid q link refusal refused.refused refused.cause.fault) (other-at table pid page (behind-counter pid (behind-own pid fresh.behind)))
      (refused-consistent g before after table free pid q page kept fresh.clear fresh.behind fresh.at link
      refused.begun refused.same refused.still refused.infos refused.free (refused.own (page-own-at g before before table free pid q q kept fresh.clear fresh.behind fresh.at))) in
      let result : Swapped NodeLink = Err (error_of refusal) in
      let behind = settles is whole evicts in
      let it = untaken behind pid (error_of refusal) (loses-page g.tells next config recovered accesses.lru before after table pid q page fresh.at accesses between fresh.clear refused.infos refusal refused.lost refused.touched refused.unasked) (inl refl) in
      let stamps = stamps-same g next config recovered accesses.lru before after table free pid q page kept fresh.clear fresh.behind fresh.at refused.stamp in (
        settled is whole evicts it.bounded,
        record {
          links = record {
            step = steps-moved behind (steps-known g _ _ (record { config = refl; recovered = refl }) (λ told. link-refused g next config recovered accesses.lru before table free pid kept fresh.clear old same link fresh.behind q fresh.at fresh.full
                after page fresh.stamp refusal (refused.refused told) refused.cause refused.stamp));
            left = record {
              blame = blamed-moved behind (blamed g _ _ _ refusal refused.cause);
              keeps = keeps-moved behind (keeps-err _ _ _ (Unit {0}) refusal fresh.clear refused.cause.fault stamps refused.begun.went.batch) it.stuck;
              token = tt;
              resident = tt;
              accesses = tt;
              same = tt;
              leaves = it.leaves;
              bounded = it.bounded;
              unnamed = no_name refusal;
            };
            tested = refused-tests g next config recovered accesses.lru before table free pid kept old q fresh link same refusal refused.tested;
            length = λ told. tt;
            reads = reads-moved behind pid
                (reads-pulled g next config recovered accesses.lru before after table free pid q page kept fresh.clear fresh.behind fresh.at told refused.unread (λ away. tt) (λ away. (refused.kept_out away, refused.at_most.0, refused.at_most.1, refused.at_most.2)));
            unread = tt;
            kept_out = λ away. behind.out.away pid (refused-out g before after table free pid q page kept fresh.clear fresh.behind fresh.at link next config recovered accesses.lru refused.kept_out away);
            damaged = λ meets stamp. damaged-moved behind pid result
                (refused-damage g next config recovered accesses.lru before table free pid kept old q fresh link meets after page refusal (refused.refused meets.tells) refused.stamp refused.same);
          };
          joins = λ told. tt;
        },
      )
