-- Measuring the pages of a cache: how often the log is read, and the call as a step of the machine.
use Rattle.sled_pagecache.proofs.Names.{◌≡◌, ◌≤◌, ◌<◌, ◌+◌, ℕ, zero, suc, Bool, false, List, [], ◌∷◌, ◌++◌, length, map, take, Some, Result, Ok, Err, slice_get, slice_index_or, refl, sym, ◌∙◌, ap, arith, AllZip, get_or_from_slice_get, Ghosts, Recency, Config, StickyLog, Page, Cache, Steps, Went, Went-then, IsCaused, IsCaused-handed_on, IsCaused-since, IsKept, IsWhole, IsWrongAt, DiskPtr, Makes, WholeNode, Error, Refusal, Chain, Content, Free, Counter, Roots, Node, Damaged, Holds, Hold, Counts, HasRead, messages_of, effect_of_entry, now, view, error_of, chain_at, count_after, resident_in, is_reserved, AreOwn, State, StampedPage, contents_of, page, page_at, IsHindered, IsCorruption, Amplified, SpaceAmplification, holds-made, most_pages, zip-second, map-at, slice_get_within, sum_by, sum_by-cons, sum_by_push}
use Rattle.std.proofs.lemmas.List.Sums.{sum_by_more, sum_by_more_le}
use Rattle.sled_pagecache.proofs.Steps.CacheSteps.{steps-went}
use Rattle.sled_pagecache.proofs.Memory.ChainReads.{more-add}
use Rattle.sled_pagecache.proofs.Steps.CallOutcomes.{leads-unread, steps-untold}
use Rattle.sled_pagecache.proofs.Ids.DurableCounter.{spares-none, whole-then as whole-behind}
use Rattle.sled_pagecache.proofs.Memory.FoundMessages.{wrong-none}
use Rattle.sled_pagecache.proofs.Table.StateChains.{full-stands, state-holds, unread, unread-content}
use Rattle.sled_pagecache.proofs.Table.PageChains.{kept-long}
use Rattle.sled_pagecache.proofs.Steps.Puts.{unless-clear}
use Rattle.sled_pagecache.proofs.Memory.ReadCounts.{read-then}
use Rattle.sled_pagecache.proofs.Opening.RecoveredPages.{zip-more}
use Rattle.sled_pagecache.proofs.Table.StatePages.{holds-free}
use Rattle.sled_pagecache.proofs.Table.ChangedTables.{consistent-same}
use Rattle.sled_pagecache.specs.Damage.{ReportsSomeWrong}
use Rattle.sled_pagecache.specs.Inside.Measurements.{HasContent, IsSizeOf, ReadsLog, RefusesSome, Weighs, messages_to_read}
use Rattle.sled_pagecache.specs.Memory.{messages_away}
use Rattle.sled_pagecache.specs.Sizes.{HasDamaged, content_size}
use Rattle.sled_pagecache.specs.Step.{Measures}

-- ---- one page after another

pub next-read : (table : List Page) (pid : ℕ) (q : Page) → slice_get table pid ≡ Some q
    → (sum_by messages_to_read (take (pid + 1) table) ≡ sum_by messages_to_read (take pid table) + messages_to_read q)
    × (sum_by messages_to_read (take pid table) + messages_to_read q ≤ sum_by messages_to_read table)
next-read table pid q at =
    let within = slice_get_within table pid q at in
    rw (sym (get_or_from_slice_get table pid q q at)) (sum_by_more messages_to_read table pid q within, sum_by_more_le messages_to_read table pid q within)

pub weighs-more : (chains : List Chain) (pid total size : ℕ) → pid < length chains → Weighs (take pid chains) total → IsSizeOf (slice_index_or chains pid []) size → Weighs (take (pid + 1) chains) (total + size)
weighs-more chains pid total size within (contents, have, sum) (content, has, is) =
    (contents ++ content ∷ [], zip-more HasContent chains contents pid [] content within have has, rw (sum_by_push content_size contents content, sum, is) refl)

module _ {L T U V : Type 0} (g : Ghosts L) (old mid new : StickyLog L) (n m k : ℕ) {a : T} (one : (let ok : Result T Refusal = Ok a in ReadsLog g old mid n ok)) where
  pub read-more : {b : U} {c : V} → (let ok : Result U Refusal = Ok b in ReadsLog g mid new m ok) → k ≡ n + m → (let ok : Result V Refusal = Ok c in ReadsLog g old new k ok)
  read-more two is = record {
    went = Went-then g old mid new [] [] one.went one.cause.fault two.went;
    cause = record { fault = two.cause.fault; read = λ h. cc; write = λ h. cc; full = λ h. cc };
    same = λ told clear. two.same told clear ∙ one.same told one.cause.fault;
    reads = record {
      whole = two.reads.whole ∙ ap (count_after m) one.reads.whole ∙ more-add m n (g.counts old.log).reads ∙ ap (λ times. count_after times (g.counts old.log).reads) (let e : m + n ≡ k = omega (arith, is) in e);
      part = tt;
    };
  }

  pub read-refused : (refusal : Refusal) → (let err : Result U Refusal = Err refusal in ReadsLog g mid new m err) → n + m ≤ k → (let err : Result V Refusal = Err refusal in ReadsLog g old new k err)
  read-refused refusal two le = record {
    went = Went-then g old mid new [] [] one.went one.cause.fault two.went;
    cause = IsCaused-handed_on g old new ⊥ refusal (IsCaused-since g old mid new [] ⊥ (Err refusal) one.went two.cause);
    same = λ told clear. two.same told clear ∙ one.same told one.cause.fault;
    reads = read-then g.counts old.log mid.log new.log n m k refusal refusal (omega (arith, le)) one.reads.whole two.reads;
  }

-- ---- how often the log is read, in the words of the model

away-is : (chains : List Chain) (table : List Page) → AllZip IsKept chains table → messages_away chains (resident_in table) ≡ sum_by messages_to_read table
away-is [] [] kept = refl
away-is (chain ∷ chains) (q ∷ table) kept =
    let rest = away-is chains table kept.1 in
    let long = kept-long chain q kept.0 in
    grind (arith, sum_by-cons messages_to_read q table)
away-is chains table kept = absurd (grind arith)

module _ {L T U : Type 0} (counts : L → Counts) (chains : List Chain) (table : List Page) (old new : L) (kept : AllZip IsKept chains table) where
  pub read-all-of : (a : T) (b : U) → (let ok : Result T Refusal = Ok a in HasRead counts old new (sum_by messages_to_read table) ok)
      → (let ok : Result U Error = Ok b in HasRead counts old new (messages_away chains (resident_in table)) ok)
  read-all-of a b read = record { whole = rw (away-is chains table kept) read.whole; part = tt }

  pub read-part-of : (refusal : Refusal) (e : Error) → (let err : Result T Refusal = Err refusal in HasRead counts old new (sum_by messages_to_read table) err)
      → (let err : Result U Error = Err e in HasRead counts old new (messages_away chains (resident_in table)) err)
  read-part-of refusal e read = record { whole = tt; part = rw (away-is chains table kept) read.part }

-- the log held what it holds, and so the table is as it always is
pub whole-read : {L : Type 0} (g : Ghosts L) {k next : ℕ} {before after : StickyLog L} {table : List Page} {free : List ℕ} → IsWhole g.tells g.state k next before table free → before.fault ≡ false → Went g before after []
    → (g.tells → after.fault ≡ false → now effect_of_entry (g.state after.log) ≡ now effect_of_entry (g.state before.log)) → IsWhole g.tells g.state k next after table free
whole-read g {before = before} {after = after} {table = table} {free = free} whole ready went same =
    whole-behind g whole ready (spares-none g went) refl (consistent-same g before after table free free whole.consistent ready [] went (λ was. refl) same)

-- ---- the contents that are weighed are those of the state

has-one : (chain : Chain) (held content : Content) → Holds (messages_of chain) held → HasContent chain content → held ≡ content
has-one chain held Free holds has = let free = holds-free chain held holds in grind arith
has-one chain held (Counter n) holds has = holds-made (messages_of chain) held (Counter n) holds has
has-one chain held (Roots roots) holds has = holds-made (messages_of chain) held (Roots roots) holds has
has-one chain held (Node node) holds has = holds-made (messages_of chain) held (Node node) holds has
has-one chain held Damaged holds has = absurd has

have-one : (chains : List Chain) (held contents : List Content) → Hold (map messages_of chains) held → AllZip HasContent chains contents → held ≡ contents
have-one [] [] [] hold have = refl
have-one (chain ∷ chains) (h ∷ held) (content ∷ contents) hold have =
    let first = has-one chain h content hold.0 have.0 in
    let rest = have-one chains held contents hold.1 have.1 in
    cc
have-one chains held contents hold have = absurd (grind arith)

-- the same of the first of them
pub have-taken : (many : ℕ) (chains : List Chain) (held contents : List Content) → Hold (map messages_of chains) held → AllZip HasContent (take many chains) contents → contents ≡ take many held
have-taken zero chains held [] hold have = refl
have-taken (suc many) [] [] [] hold have = refl
have-taken (suc many) (chain ∷ chains) (h ∷ held) (content ∷ contents) hold have =
    let first = has-one chain h content hold.0 have.0 in
    let rest = have-taken many chains held contents hold.1 have.1 in
    cc
have-taken many chains held contents hold have = absurd (grind arith)

none-damaged : (chains : List Chain) (contents : List Content) → AllZip HasContent chains contents → ¬ HasDamaged contents
none-damaged chains contents have (pid, at) = zip-second HasContent chains contents pid Damaged [] have at

-- ---- a page that couldn't be read

module _ (chain : ℕ → Chain) (table : List Page) (refusal : Refusal) (own : AreOwn table) (refuses : RefusesSome chain table refusal) where
  -- it isn't the cache's own
  away-behind : 2 ≤ refuses.0
  away-behind = let is = own refuses.0 in let at = refuses.2 in let away = refuses.3.0 in grind arith

  pub damage-told : length table ≤ most_pages → ReportsSomeWrong chain (error_of refusal)
  damage-told few =
      let within = slice_get_within table refuses.0 refuses.1 refuses.2 in
      let behind : is_reserved refuses.0 ≡ false = let from = away-behind in grind arith in
      let full = refuses.3.1 in
      let why = refuses.3.2 in
      grind (arith, λ (pointer : DiskPtr) (wrong : IsWrongAt (chain refuses.0) pointer) (node : WholeNode) (made : Makes (messages_of (chain refuses.0)) (Node node)). wrong-none _ _ (chain refuses.0) pointer wrong (node, made))

-- what the machine answers then
module _ (segment_size : ℕ) (s : State) (refusal : Refusal) where
  abbrev IsTold : Type 0
  IsTold = let answer : Result (ℕ × ℕ) Error = Err (error_of refusal) in Measures segment_size s answer (unread s refusal)

  hindered-told : IsHindered s (error_of refusal) (unread s refusal) → IsTold
  hindered-told h = grind arith

  damaged-told : (pid stamp : ℕ) → page_at s pid ≡ Some (page stamp Damaged) → (let answer : Result (ℕ × ℕ) Error = Err (error_of refusal) in IsCorruption s answer (unread s refusal)) → IsTold
  damaged-told pid stamp at h = let damaged : HasDamaged (contents_of s) = (pid, map-at (λ (p : StampedPage). p.content) s.pages pid (page stamp Damaged) at) in grind arith

-- ---- the step

module _ {L : Type 0} (g : Ghosts L) (next : ℕ) (config : Config) (recovered : Bool) (lru : Recency) (before : StickyLog L) (table : List Page) (ready : before.fault ≡ false) (after : StickyLog L) (went : Went g before after []) where
  abbrev cache : StickyLog L → Cache L
  cache sticky_log = view next config recovered lru sticky_log table

  abbrev chains : List Chain
  chains = now effect_of_entry (g.state before.log)

  pub measures : (on_disk total : ℕ) → after.fault ≡ false → (g.tells → Weighs chains total)
      → Steps g (cache before) SpaceAmplification (Amplified (Ok (on_disk, total + config.segment_size))) (cache after)
  measures on_disk total free weighs =
      steps-untold g next config recovered lru before table ready SpaceAmplification after table refl (Amplified (Ok (on_disk, total + config.segment_size))) went free
      (λ held s is clear.
      let weight = weighs is.tells in
      let same = have-one chains (contents_of s) weight.0 (state-holds g (cache before) held s is clear 0) weight.1 in
      rw (clear, same) (refl, (none-damaged chains weight.0 weight.1, ap (λ n. n + config.segment_size) weight.2)))

  pub unmeasured : (refusal : Refusal) → (let err : Result ℕ Refusal = Err refusal in IsCaused g before after ⊥ err) → AreOwn table → (g.tells → RefusesSome (chain_at (g.state before.log)) table refusal)
      → Steps g (cache before) SpaceAmplification (Amplified (Err (error_of refusal))) (cache after)
  unmeasured refusal cause own refuses =
      let answer = Amplified (Err (error_of refusal)) in
      steps-went g (cache before) (cache after) before after SpaceAmplification answer [] (record { config = refl; recovered = refl }) refl refl refl ready went
      (λ held s is clear.
      let refused = refuses is.tells in
      let pid = refused.0 in
      let chain = chain_at (g.state before.log) pid in
      let stands = full-stands g (cache before) held s is clear pid (away-behind (chain_at (g.state before.log)) table refusal own refused) refused.3.1 in
      leads-unread g (cache before) (cache after) held s is clear SpaceAmplification answer refl refusal
      (unless-clear s (Err (error_of refusal)) (unread s refusal) (IsTold config.segment_size s refusal) clear
      (unread-content s pid chain stands (λ content. page_at s pid ≡ Some (page stands.stamp content) → IsTold config.segment_size s refusal) (ℕ × ℕ) refusal refused.3.2
      (λ node h at. hindered-told config.segment_size s refusal h) (λ h at. damaged-told config.segment_size s refusal pid stands.stamp at h) stands.there))
      refl cause.fault)
