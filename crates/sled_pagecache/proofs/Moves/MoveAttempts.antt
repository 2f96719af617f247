-- What an attempt to move a page promises, once what the list dropped for it is paged out.
use Rattle.sled_pagecache.proofs.Names.{past-end, MovesOrNot, move_behind, Result, get_or_past, AllZip-long, lost_by, all-at, map-at, put-back, set-at, error_of, Write, Refusal, no_name, is_one_blob, MovesOne, RefusesOne, is_blob_at, reads_to_move, count_after, IsBounded, is_resident, is_free, PageContent, Err, None, inr, slice_set, false≢true, map-set, get_or_from_slice_get, Evicts, kept-at, DiskPtr, Chain, effect_of_entry, freed_of, Ghosts, Cache, HasNoRoomAgain, due_in, due_page, lies_in, pointers_of, segment_of, pointers_in, reads_of, AttemptsMove, MovesDue, is_there, chain_at, Went, IsKept, place_of_freeing, State, Moves, no_change, stamps_in, Accesses, AttemptedGc, AttemptGc, Config, StickyLog, Page, Bool, List, Ok, Some, ap, arith, cond, false, inl, length, map, refl, slice_get, sym, true, ℕ, ℤ, IsSettled, [], ◌==◌, ◌||◌, ◌∙◌, ◌∷◌, ◌≡◌, ◌≤◌, now as log_holds, view, writer}
use Rattle.sled_base.specs.Pointers.{offset_of}
use Rattle.sled_base.specs.declared.types.Error.TheVariants.{Io}
use Rattle.sled_pagecache.proofs.Steps.KeptStamps.{keeps-err, keeps-ok, keeps-stuck}
use Rattle.sled_pagecache.proofs.Steps.CacheSteps.{steps-known, steps-stuck, steps-went}
use Rattle.sled_pagecache.proofs.Steps.CallOutcomes.{leads-same}
use Rattle.sled_pagecache.proofs.Ids.DurableCounter.{spares-none, whole-then}
use Rattle.sled_pagecache.proofs.Memory.Eviction.{kept-settled, leaves-same, settled, settles}
use Rattle.sled_pagecache.proofs.Memory.ResidentPages.{free-resident, loses-page, takes-page}
use Rattle.sled_pagecache.proofs.Table.PageChains.{kept-long}
use Rattle.sled_pagecache.proofs.Moves.MovedPages.{free-then, moved-acts, refused-acts, whole-moved, whole-unmoved}
use Rattle.sled_pagecache.proofs.Steps.Puts.{blamed, unless-clear}
use Rattle.sled_pagecache.proofs.Memory.SettledCaches.{blamed-moved, keeps-moved, steps-moved, taken, untaken}
use Rattle.sled_pagecache.proofs.Table.StatePages.{one-long}
use Rattle.sled_pagecache.proofs.Table.ChangedTables.{consistent-same}
use Rattle.sled_pagecache.specs.Step.{Nothing, Outdated, Page as IsDue}
use Rattle.std.specs.List.{list_any}
use Rattle.std.proofs.lemmas.Simd.{map-map}
use Rattle.sled_pagecache.specs.Inside.PageMoves.{lie_in}

-- ---- the pointers of a page are those of its chain

any-map : {X Y : Type 0} (p : Y → Bool) (f : X → Y) (xs : List X) → list_any p (map f xs) ≡ list_any (λ x. p (f x)) xs
any-map p f [] = refl
any-map p f (x ∷ xs) = ap (λ b. p (f x) || b) (any-map p f xs)

abbrev second : ℤ × DiskPtr → DiskPtr
second place = place.1

pub kept-pointers : (chain : Chain) (q : Page) → IsKept chain q → pointers_of chain ≡ pointers_in q.infos.items
kept-pointers chain q is = sym (map-map second freed_of chain) ∙ ap (map second) is.at ∙ map-map second place_of_freeing q.infos.items

lies-kept : (config : Config) (place : ℕ) (chain : Chain) (q : Page) → IsKept chain q → lies_in config place (pointers_of chain) ≡ lie_in config place q.infos.items
lies-kept config place chain q is = ap (lies_in config place) (kept-pointers chain q is) ∙ any-map (λ pointer. segment_of config (offset_of pointer) == segment_of config place) (λ info. info.pointer) q.infos.items

few-reads : (q : Page) → length q.infos.items ≤ 10 → reads_of q ≤ 10
few-reads q short = grind arith

-- with a write fault kept nothing is done
pub stuck-attempt : {L : Type 0} (g : Ghosts L) (cache : Cache L) → cache.fault ≡ true → IsBounded g cache → AttemptsMove g cache (Err (Io Write)) cache
stuck-attempt g cache kept bounded = record {
  step = steps-stuck g cache AttemptGc (AttemptedGc (Err (Io Write))) kept (λ s stuck. rw stuck (refl, refl));
  blame = record { read = λ is. absurd cc; write = λ is ready. absurd (false≢true (sym ready ∙ kept)) };
  keeps = keeps-stuck cache cache (λ _. cache.stamps) kept refl;
  named = tt;
  moves = λ told ready. absurd (false≢true (sym ready ∙ kept));
  accesses = (0, leaves-same cache g.tells 0 (Io Write));
  times = 0;
  most = omega arith;
  reads = refl;
  bounded = bounded;
  unnamed = tt;
}

module _ {L : Type 0} (g : Ghosts L) {next : ℕ} {config : Config} {recovered : Bool} {before : StickyLog L} {table : List Page} {free : List ℕ} {accesses : Accesses}
    (is : IsSettled g next config recovered before table free accesses) (clear : before.fault ≡ false) where
  abbrev was : Cache L
  was = view next config recovered accesses.lru before table

  kept-of : (pid : ℕ) (q : Page) → slice_get table pid ≡ Some q → g.tells → IsKept (chain_at (g.state before.log) pid) q
  kept-of pid q at told = kept-at (log_holds effect_of_entry (g.state before.log)) table pid q ((is.whole.consistent.beside clear).kept told) at

  pub due-is : (pid place : ℕ) (q : Page) → slice_get table pid ≡ Some q → g.due before.log ≡ Some (pid, place) → (b : Bool) → lie_in config place q.infos.items ≡ b → g.tells → due_in g config before.log ≡ cond b (IsDue pid) Outdated
  due-is pid place q at named b lies told =
      ap (λ due. due_page config due (log_holds effect_of_entry (g.state before.log))) named
      ∙ ap (λ b. cond b (IsDue pid) Outdated) (lies-kept config place (chain_at (g.state before.log) pid) q (kept-of pid q at told) ∙ lies)

  -- ---- nothing is moved

  module _ {mid : StickyLog L} (went : Went g before mid []) (free_mid : mid.fault ≡ false) (state : g.state mid.log ≡ g.state before.log) (counts : g.counts mid.log ≡ g.counts before.log) where
    abbrev idle_now : Cache L
    idle_now = view next config recovered accesses.lru mid table

    pub idle-settled : IsSettled g next config recovered mid table free accesses
    idle-settled =
        kept-settled g _ _ _ _ _ _ _ _ _ is
        (whole-then g is.whole clear (spares-none g went) refl
        (consistent-same g before mid table free free is.whole.consistent clear [] went (λ was. refl) (λ _ _. ap (log_holds effect_of_entry) state)))

    pub idle : (moved : Bool) → moved ≡ is_there (g.due before.log) → (g.tells → due_in g config before.log ≡ cond moved Outdated Nothing) → AttemptsMove g was (Ok moved) idle_now
    idle moved named due = record {
      step = steps-went g was idle_now before mid AttemptGc (AttemptedGc (Ok moved)) [] (record { config = refl; recovered = refl }) refl refl refl clear went
          (λ held s is clear. leads-same g was idle_now held s is clear AttemptGc (AttemptedGc (Ok moved)) refl (unless-clear s (Ok moved) _ _ clear (rw (due is.tells) (by moved s))) refl free_mid);
      blame = record { read = λ is. absurd cc; write = λ is. absurd cc };
      keeps = keeps-ok was idle_now (λ _. stamps_in table) moved clear free_mid refl went.batch;
      named = named;
      moves = λ told ready. rw (due told) (still moved);
      accesses = inl (record { stay = λ pid. record { resident = refl; node = refl }; lru = refl });
      times = 0;
      most = omega arith;
      reads = ap (λ n. n.reads) counts;
      bounded = idle-settled.bounded;
      unnamed = tt;
    }
      where
        by : (moved : Bool) (s : State) → Moves (due_in g config) (HasNoRoomAgain g) before.log s (cond moved Outdated Nothing) (Ok moved) (no_change s)
        by true s = (refl, refl)
        by false s = (refl, refl)

        still : (b : Bool) → MovesDue g was (cond b Outdated Nothing) (Ok moved) idle_now
        still true = (record { stay = λ pid. record { resident = refl; node = refl }; lru = refl }, ap (λ n. n.reads) counts)
        still false = (record { stay = λ pid. record { resident = refl; node = refl }; lru = refl }, ap (λ n. n.reads) counts)

  -- ---- a page that is due

  module _ {pid place : ℕ} {q : Page} (at : slice_get table pid ≡ Some q) (named : g.due before.log ≡ Some (pid, place)) (lies : lie_in config place q.infos.items ≡ true) (after : StickyLog L) (page : Page) (between : Accesses) where
    abbrev mid_cache : Cache L
    mid_cache = view next config recovered accesses.lru after (slice_set table pid page)

    due : g.tells → due_in g config before.log ≡ IsDue pid
    due = due-is pid place q at named true lies

    blob-same : g.tells → is_blob_at g was pid ≡ is_one_blob (pointers_in q.infos.items)
    blob-same told = ap is_one_blob (kept-pointers (chain_at (g.state before.log) pid) q (kept-of pid q at told))

    -- how often its messages are read
    reads-same : g.tells → reads_of q ≡ reads_to_move g was pid
    reads-same told =
        let there = get_or_from_slice_get was.resident pid (is_resident q.kept) true (map-at (λ (p : Page). is_resident p.kept) table pid q at) in
        let long = kept-long (chain_at (g.state before.log) pid) q (kept-of pid q at told) in
        rw (there, blob-same told, long) refl

    resident-mid : slice_get mid_cache.resident pid ≡ Some (is_resident page.kept)
    resident-mid = map-at (λ (p : Page). is_resident p.kept) (slice_set table pid page) pid page (set-at table pid q page at)

    stamps-mid : page.stamp ≡ q.stamp → stamps_in (slice_set table pid page) ≡ stamps_in table
    stamps-mid stamp =
        map-set (λ (p : Page). p.stamp) table pid page ∙ ap (λ (n : ℕ). slice_set (stamps_in table) pid n) stamp ∙ put-back (stamps_in table) pid q.stamp (map-at (λ (p : Page). p.stamp) table pid q at)

    few : reads_of q ≤ 10
    few = few-reads q (all-at (λ (p : Page). length p.infos.items ≤ 10) table pid q is.whole.consistent.short at)

    -- it was moved
    pub moved-ended : {pages : List Page} {then : Accesses} → MovesOne g before pid q after accesses between page → Evicts between None (slice_set table pid page) pages then
        → (let now = view next config recovered then.lru after pages in IsSettled g next config recovered after pages free then × AttemptsMove g was (Ok true) now)
    moved-ended {pages} {then} moved evicts =
        let now = view next config recovered then.lru after pages in
        let behind = settles is (whole-moved g next config recovered accesses.lru before table free is.whole clear pid q at after page accesses between moved) evicts in
        let it = taken behind pid refl (takes-page next config recovered accesses.lru before after table pid q page at accesses between moved.accessed) in
        let freed = free-then g next config recovered accesses.lru before table free is.whole clear pid q at after page accesses between moved in
        let resident : slice_get now.resident pid ≡ Some (is_resident page.kept) = it.stays.resident ∙ resident-mid in (
          settled is (whole-moved g next config recovered accesses.lru before table free is.whole clear pid q at after page accesses between moved) evicts it.bounded,
          record {
            step = steps-moved behind (moved-acts g next config recovered accesses.lru before table free is.whole clear pid q at due after page moved);
            blame = record { read = λ is. absurd cc; write = λ is. absurd cc };
            keeps = keeps-moved behind (keeps-ok was mid_cache (λ _. stamps_in table) true clear moved.fault (stamps-mid moved.stamp) moved.went.batch) tt;
            named = sym (ap is_there named);
            moves = λ told ready. rw (due told) (record {
              accessed = it.accessed;
              there = λ no_blob. resident ∙ ap (λ (b : Bool). Some b) (lies-there moved freed (is_free q.kept) refl (sym (blob-same told) ∙ no_blob));
              stays = λ blob. resident ∙ ap (λ (k : PageContent). Some (is_resident k)) (stays-there moved (is_free q.kept) refl (sym (blob-same told) ∙ blob)) ∙ sym (map-at (λ (p : Page). is_resident p.kept) table pid q at);
              length = one-long (chain_at (g.state after.log) pid) page (moved.kept told) moved.stamps;
              reads = moved.reads ∙ ap (λ n. count_after n (g.counts before.log).reads) (reads-same told);
            });
            accesses = inr ((pid, place), named, it.accessed);
            times = reads_of q;
            most = few;
            reads = moved.reads;
            bounded = it.bounded;
            unnamed = tt;
          },
        )
      where
        lies-there : MovesOne g before pid q after accesses between page → is_free page.kept ≡ is_free q.kept → (b : Bool) → is_free q.kept ≡ b → is_one_blob (pointers_in q.infos.items) ≡ false → is_resident page.kept ≡ true
        lies-there moved freed true full no_blob = free-resident page.kept (freed ∙ full)
        lies-there moved freed false full no_blob = moved.there full no_blob

        stays-there : MovesOne g before pid q after accesses between page → (b : Bool) → is_free q.kept ≡ b → is_one_blob (pointers_in q.infos.items) ≡ true → page.kept ≡ q.kept
        stays-there moved false full blob = moved.stays full blob
        stays-there moved true full blob = elim moved.holds [ inl same ↦ same | inr read ↦ absurd (false≢true (sym (ap is_free read.0) ∙ full)) ]

    -- it was refused
    pub unmoved-ended : {pages : List Page} {then : Accesses} {refusal : Refusal} → RefusesOne g before pid q after accesses between page refusal → Evicts between (Some pid) (slice_set table pid page) pages then
        → (let now = view next config recovered then.lru after pages in IsSettled g next config recovered after pages free then × AttemptsMove g was (Err (error_of refusal)) now)
    unmoved-ended {pages} {then} {refusal} refused evicts =
        let whole = whole-unmoved g next config recovered accesses.lru before table free is.whole clear pid q at after page accesses between refusal refused in
        let behind = settles is whole evicts in
        let loses = loses-page g.tells next config recovered accesses.lru before after table pid q page at accesses between clear refused.infos refusal (inl refused.stays) refused.touched
        (λ told. elim (refused.unasked told) [ inl of ↦ inl of | inr same ↦ inr (refused.stays, same) ]) in
        let it = untaken behind pid (error_of refusal) loses (inl refl) in
        let batch : after.batch ≡ before.batch = elim refused.begun [ inl none ↦ none.batch | inr some ↦ some.3.batch ] in (
          settled is whole evicts it.bounded,
          record {
            step = steps-moved behind (steps-known g was mid_cache (record { config = refl; recovered = refl })
                (λ told. refused-acts g next config recovered accesses.lru before table free is.whole clear pid q at due after page accesses between refusal refused told));
            blame = blamed-moved behind (blamed g was mid_cache _ refusal refused.cause);
            keeps = keeps-moved behind (keeps-err was mid_cache (λ _. stamps_in table) (Unit {0}) refusal clear refused.cause.fault (stamps-mid refused.stamp) batch) it.stuck;
            named = tt;
            moves = λ told ready. rw (due told) (record {
              leaves = it.leaves;
              kept_out = λ away. behind.out.away pid (resident-mid ∙ ap (λ (k : PageContent). Some (is_resident k)) refused.stays ∙ sym (map-at (λ (p : Page). is_resident p.kept) table pid q at) ∙ away);
              times = refused.times;
              most = rw (← reads-same told) refused.most;
              reads = refused.reads;
            });
            accesses = (pid, it.leaves);
            times = refused.times;
            most = let most = refused.most in omega (arith, most, few);
            reads = refused.reads;
            bounded = it.bounded;
            unnamed = no_name refusal;
          },
        )

    pub move-ended : {pages : List Page} {then : Accesses} (written : Result (Unit {0}) Refusal) → MovesOrNot g (writer before accesses) pid q (writer after between) page written → Evicts between (lost_by pid written) (slice_set table pid page) pages then
        → (let now = view next config recovered then.lru after pages in IsSettled g next config recovered after pages free then × AttemptsMove g was (move_behind written) now)
    move-ended (Ok done) moved evicts = moved-ended moved evicts
    move-ended (Err refusal) refused evicts = unmoved-ended refused evicts

  -- no page stands there
  pub due-past : (pid place : ℕ) → slice_get table pid ≡ None → g.due before.log ≡ Some (pid, place) → g.tells → due_in g config before.log ≡ Outdated
  due-past pid place none named told =
      let chains = log_holds effect_of_entry (g.state before.log) in
      let long = AllZip-long IsKept chains table ((is.whole.consistent.beside clear).kept told) in
      let past = past-end table pid none in
      ap (λ due. due_page config due chains) named ∙ ap (λ (c : Chain). cond (lies_in config place (pointers_of c)) (IsDue pid) Outdated) (get_or_past chains pid [] (omega (arith, long, past)))
