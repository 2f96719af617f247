-- What moving a page makes of it: what is written again counts as what the page holds.
use Rattle.sled_pagecache.proofs.Names.{MovesOrNot, HasNoRoomAgain, RefusesRewrite, now, get_or, freed_of, chains_from, chains_with_change, IsTouched, WasAccessed, capped_size, IsCaused, size_in, cond, ne_eqb, sum_by-cons, AllByRecursion, ◌++◌, LogKind, Blob, DiskPtr, is_chain, is_empty, is_freeing, may_follow, Entry, effect_of, effect_of_entry, placed_entry, IsSized, said_of, HoldsAgain, IsBlobOf, place_of, IsKept, place_of_freeing, CacheInfo, map, ℤ, ◌<◌, [], Read, Write, Io, Change, Event, counts-read, Message, Went, begun_by, IsCaused-since, List, Result, length, ◌∷◌, Refusal, Content, Put, holds-made, Chain, messages_of, Holds, IsUpdate, message_of, WholeNode, Appended, RefusesAppend, is_one_blob, MovesOne, RefusesOne, pointers_in, reads_of, chain_at, count_after, IsOfLog, Went-then, HoldsChain, is_resident, is_free, content_of, IsFreeOrNode, Accesses, StickyLog, PageContent, Page, Bool, Err, Ok, ap, arith, false, inl, inr, refl, slice_set, subst, sym, true, ℕ, false≢true, ◌∙◌, ◌≡◌, ◌⊎◌, Ghosts, writer}
use Rattle.sled_log.specs.Contents as content
use Rattle.sled_log.specs.Inside.HoldingLaws.{holds-counts}
use Rattle.sled_log.specs.Messages.{message_size}
use Rattle.sled_log.specs.Moves.{HasBlob, IsBlob, NamesBlob, first_message, message_at}
use Rattle.sled_log.specs.Reading.{CountsAs}
use Rattle.sled_base.specs.declared.kinds.LogKind.TheVariants as effects
use Rattle.sled_pagecache.proofs.Table.PageChains.{kept-long, placed-at}
use Rattle.sled_pagecache.proofs.Table.StatePages.{kept-free}
use Rattle.sled_pagecache.proofs.Table.SwappedChains.{at-page, other-pages}
use Rattle.sled_pagecache.specs.Inside.PageIn.{PullsPage}
use Rattle.sled_pagecache.specs.State.{is_free as leaves_free}
use Rattle.sled_pagecache.specs.declared.pagecache.table.page_entry.PageContent.TheVariants as page_content

-- ---- what lies in memory

only-free : (c : Content) → leaves_free c ≡ true → c ≡ content.Free
only-free c free = grind arith

-- what the page holds is that
pub content-kept : (chain : Chain) (k : PageContent) (c : Content) → HoldsChain chain k → is_resident k ≡ true → leaves_free c ≡ is_free k → Holds (messages_of chain) c → c ≡ content_of k
content-kept chain page_content.Free c holds there same stands = only-free c same
content-kept chain page_content.OnLog c holds there same stands = absurd (false≢true there)
content-kept chain (page_content.Counter n) c holds there same stands = holds-made (messages_of chain) c (content.Counter n) stands holds
content-kept chain (page_content.Roots roots) c holds there same stands = holds-made (messages_of chain) c (content.Roots roots) stands holds
content-kept chain (page_content.Node node) c holds there same stands = holds-made (messages_of chain) c (content.Node node) stands holds

pub counts-kept : (chain : Chain) (k : PageContent) (c : Content) → HoldsChain chain k → is_resident k ≡ true → IsUpdate (message_of (Put (content_of k))) (Put (content_of k))
    → leaves_free c ≡ is_free k → Holds (messages_of chain) c → CountsAs (message_of (Put (content_of k))) (Put c)
counts-kept chain k c holds there is same stands =
    subst (λ c. CountsAs (message_of (Put (content_of k))) (Put c)) (sym (content-kept chain k c holds there same stands)) (counts-read (message_of (Put (content_of k))) (Put (content_of k)) is)

-- a page that was read is a node
read-node : (k : PageContent) → is_resident k ≡ true → is_free k ≡ false → IsFreeOrNode k → (node : WholeNode) × (k ≡ page_content.Node node)
read-node (page_content.Node node) there full own = (node, refl)
read-node page_content.Free there full own = absurd (false≢true (sym full))
read-node page_content.OnLog there full own = absurd (false≢true there)
read-node (page_content.Counter n) there full own = absurd own
read-node (page_content.Roots roots) there full own = absurd own

pub not-resident : (k : PageContent) → is_resident k ≡ false → k ≡ page_content.OnLog
not-resident k away = grind arith

-- ---- a page that is read and written again

begun-or-none : {L : Type 0} {g : Ghosts L} {old new : StickyLog L} (refusal : Refusal) (events : List (Event Message)) → (let told : Result (Unit {0}) Refusal = Err refusal in Went g old new (begun_by told events))
    → Went g old new [] ⊎ ((refusal ≡ Io Write) × Went g old new events)
begun-or-none (Io Write) events went = inr (refl, went)
begun-or-none (Io Read) events went = inl went
begun-or-none refusal events went = inl went

-- what was begun behind a call that told nothing
begun-either : {L : Type 0} {g : Ghosts L} {old mid new : StickyLog L} (refusal : Refusal) (events : List (Event Message)) → Went g old mid [] → mid.fault ≡ false
    → (let told : Result (Unit {0}) Refusal = Err refusal in Went g mid new (begun_by told events)) → Went g old new [] ⊎ ((refusal ≡ Io Write) × Went g old new events)
begun-either {g = g} {old} {mid} {new} (Io Write) events first clear second = inr (refl, Went-then g old mid new [] events first clear second)
begun-either {g = g} {old} {mid} {new} (Io Read) events first clear second = inl (Went-then g old mid new [] [] first clear second)
begun-either {g = g} {old} {mid} {new} refusal events first clear second = inl (Went-then g old mid new [] [] first clear second)

module _ {L : Type 0} (g : Ghosts L) {old mid : StickyLog L} {pid : ℕ} {q page : Page} where
  -- how often it is read
  reads-pulled : PullsPage g old pid q mid page (Ok tt) → (is_free q.kept ≡ false → is_one_blob (pointers_in q.infos.items) ≡ false) → (g.counts mid.log).reads ≡ count_after (reads_of q) (g.counts old.log).reads
  reads-pulled pulled no_blob = by (is_resident q.kept) refl
    where
      by : (b : Bool) → is_resident q.kept ≡ b → (g.counts mid.log).reads ≡ count_after (reads_of q) (g.counts old.log).reads
      by true there = ap (λ (l : StickyLog L). (g.counts l.log).reads) (pulled.unread there) ∙ rw there refl
      by false away = pulled.reads away ∙ rw (away, no_blob (ap is_free (not-resident q.kept away))) refl

  pub moved-read : {new : StickyLog L} {accesses after : Accesses} {page_then : Page} → PullsPage g old pid q mid page (Ok tt) → (is_free q.kept ≡ false → is_one_blob (pointers_in q.infos.items) ≡ false)
      → Appended g pid (Put (content_of page.kept)) mid new accesses after page_then page.kept (page_then.stamp ≡ page.stamp) → MovesOne g old pid q new accesses after page_then
  moved-read {new} {accesses} {after} {page_then} pulled no_blob put = by (is_resident q.kept) refl
    where
      clear : mid.fault ≡ false
      clear = pulled.cause.fault

      holds : (b : Bool) → is_resident q.kept ≡ b → (page_then.kept ≡ q.kept) ⊎ ((q.kept ≡ page_content.OnLog) × (node : WholeNode) × (page_then.kept ≡ page_content.Node node))
      holds true there = inl (put.holds ∙ pulled.stays there)
      holds false away =
          let is = not-resident q.kept away in
          let node = read-node page.kept pulled.resident (pulled.free ∙ ap is_free is) (pulled.own (subst IsFreeOrNode (sym is) tt)) in
          inr (is, node.0, put.holds ∙ node.1)

      by : (b : Bool) → is_resident q.kept ≡ b → MovesOne g old pid q new accesses after page_then
      by b is = record {
        message = message_of (Put (content_of page.kept));
        again = λ told c same stands. counts-kept (chain_at (g.state old.log) pid) page.kept c (pulled.kept told).holds pulled.resident put.is (same ∙ sym pulled.free) stands;
        went = Went-then g old mid new [] _ pulled.went clear put.went;
        fault = put.fault;
        reads = put.reads ∙ reads-pulled pulled no_blob;
        sized = put.sized;
        others = λ told. put.others told ∙ ap (λ l. slice_set l pid (chain_at (g.state new.log) pid)) (pulled.same told clear);
        kept = put.kept;
        stamp = put.stamp ∙ pulled.stamp;
        stamps = put.stamps;
        holds = holds b is;
        there = λ _ _. ap is_resident put.holds ∙ pulled.resident;
        stays = λ full blob. absurd (false≢true (sym (no_blob full) ∙ blob));
        accessed = put.accessed;
      }

  -- it couldn't be read
  pub unmoved-read : {accesses : Accesses} {refusal : Refusal} → PullsPage g old pid q mid page (Err refusal) → is_resident q.kept ≡ false → (is_free q.kept ≡ false → is_one_blob (pointers_in q.infos.items) ≡ false)
      → RefusesOne g old pid q mid accesses accesses page refusal
  unmoved-read pulled away no_blob = record {
    begun = inl pulled.went;
    cause = record { fault = pulled.cause.fault; read = pulled.cause.read; write = pulled.cause.write; full = λ is. absurd (pulled.cause.full is) };
    refused = λ told. inr (away, pulled.refused told);
    same = pulled.same;
    stamp = pulled.stamp;
    infos = pulled.infos;
    stays = pulled.err;
    times = pulled.at_most.0;
    most = rw (away, no_blob (ap is_free (not-resident q.kept away))) pulled.at_most.1;
    reads = pulled.at_most.2;
    touched = inl refl;
    unasked = λ told. inr refl;
  }

  -- it was read, and then not written again
  pub unmoved-written : {new : StickyLog L} {accesses after : Accesses} {page_then : Page} {refusal : Refusal} {stays : Type 0} → PullsPage g old pid q mid page (Ok tt) → (is_free q.kept ≡ false → is_one_blob (pointers_in q.infos.items) ≡ false)
      → RefusesAppend g pid (Put (content_of page.kept)) mid new accesses after IsOfLog stays refusal
      → page_then.stamp ≡ q.stamp → page_then.infos.items ≡ q.infos.items → page_then.kept ≡ q.kept → RefusesOne g old pid q new accesses after page_then refusal
  unmoved-written {new} {refusal = refusal} pulled no_blob refused stamp infos kept =
      let message = message_of (Put (content_of page.kept)) in
      let chain = chain_at (g.state old.log) pid in
      let told : Result (Unit {0}) Refusal = Err refusal in
      let cause = IsCaused-since g old mid new [] (g.is_full mid.log (length message.payload)) told pulled.went refused.cause in
      record {
        begun = elim (begun-either refusal (Change pid message ∷ []) pulled.went pulled.cause.fault refused.went) [
          | inl none ↦ inl none
          | inr some ↦ inr (some.0, message, (λ told c same stands. counts-kept chain page.kept c (pulled.kept told).holds pulled.resident refused.is (same ∙ sym pulled.free) stands), some.1)
        ];
        cause = record {
          fault = cause.fault;
          read = cause.read;
          write = cause.write;
          full = λ is told c same stands. inl (subst (λ c. g.is_full old.log (length (message_of (Put c)).payload)) (sym (content-kept chain page.kept c (pulled.kept told).holds pulled.resident (same ∙ sym pulled.free) stands))
              (pulled.room (length message.payload) (cause.full is)));
        };
        refused = λ told. inl (refused.refused told);
        same = λ told clear. refused.same told clear ∙ pulled.same told pulled.cause.fault;
        stamp = stamp;
        infos = infos;
        stays = kept;
        times = reads_of q;
        most = omega arith;
        reads = refused.reads ∙ reads-pulled pulled no_blob;
        touched = refused.touched;
        unasked = refused.unasked;
      }

-- ---- a page that is one blob

one-entry : (chain : Chain) (q : Page) {info : CacheInfo} → IsKept chain q → q.infos.items ≡ info ∷ [] → (entry : Entry) × (chain ≡ entry ∷ []) × (entry.place.pointer ≡ info.pointer)
one-entry [] q is one = let long = kept-long [] q is ∙ ap length one in absurd (omega (arith, long))
one-entry (entry ∷ []) q is one = (entry, refl, ap (λ (l : List (ℤ × DiskPtr)). (get_or l 0 (freed_of entry)).1) (is.at ∙ ap (map place_of_freeing) one))
one-entry (entry ∷ next ∷ chain) q is one = let long = kept-long (entry ∷ next ∷ chain) q is ∙ ap length one in absurd (omega (arith, long))

-- the one message of a page that isn't free puts something there
puts-of : (entry : Entry) → is_chain effect_of_entry (entry ∷ []) ≡ true → is_empty effect_of_entry (entry ∷ []) ≡ false → effect_of entry.message ≡ effects.Replace
puts-of entry chain full = by (effect_of entry.message) chain full
  where
    by : (kind : LogKind) → may_follow effect_of_entry kind [] ≡ true → is_freeing kind ≡ false → kind ≡ effects.Replace
    by kind chain full = grind arith

alone : (info : CacheInfo) → size_in (info ∷ []) ≡ info.log_size
alone info = grind (arith, sum_by-cons (λ (info : CacheInfo). info.log_size) info [])

-- the same message at another place makes the same
holds-again : (entry : Entry) (said : ℤ × DiskPtr × ℕ) (k : PageContent) → HoldsChain (entry ∷ []) k → HoldsChain (placed_entry entry.message said ∷ []) k
holds-again entry said page_content.Free holds = holds
holds-again entry said page_content.OnLog holds = holds
holds-again entry said (page_content.Counter n) holds = holds
holds-again entry said (page_content.Roots roots) holds = holds
holds-again entry said (page_content.Node node) holds = holds

module _ {L : Type 0} (g : Ghosts L) (old new : StickyLog L) (pid : ℕ) (q page_then : Page) (blob : ℤ) (is : IsBlobOf q blob)
    (there : g.tells → pid < length (now effect_of_entry (g.state old.log))) (kept : g.tells → IsKept (chain_at (g.state old.log) pid) q)
    (chain_is : g.tells → is_chain effect_of_entry (chain_at (g.state old.log) pid) ≡ true) (sized : g.tells → IsSized (chain_at (g.state old.log) pid)) where
  abbrev chains : List Chain
  chains = now effect_of_entry (g.state old.log)

  abbrev again_message : Message
  again_message = message_at chains pid

  record IsOne : Type 0 where
    entry : Entry
    one : chain_at (g.state old.log) pid ≡ entry ∷ []
    pointer : entry.place.pointer ≡ Blob is.place blob
    message : again_message ≡ entry.message
    puts : effect_of entry.message ≡ effects.Replace
    size : message_size entry.message ≡ is.info.log_size
    holds : HoldsChain (entry ∷ []) q.kept

  one : g.tells → IsOne
  one told =
      let found = one-entry (chain_at (g.state old.log) pid) q (kept told) is.one in
      let full : is_empty effect_of_entry (found.0 ∷ []) ≡ false = ap (is_empty effect_of_entry) (sym found.1) ∙ kept-free (chain_at (g.state old.log) pid) q.kept (kept told).holds ∙ is.full in
      let place = ap (map said_of) (sym found.1) ∙ (kept told).places is.full ∙ ap (map place_of) is.one in
      let each = subst (λ (c : Chain). IsSized c) found.1 (sized told) in
      record {
        entry = found.0;
        one = found.1;
        pointer = found.2 ∙ is.pointer;
        message = ap first_message found.1;
        puts = puts-of found.0 (ap (is_chain effect_of_entry) (sym found.1) ∙ chain_is told) full;
        size = sym each.each.0 ∙ ap (λ (l : List (ℤ × DiskPtr × ℕ)). (get_or l 0 (said_of found.0)).2) place;
        holds = subst (λ (c : Chain). HoldsChain c q.kept) found.1 (kept told).holds;
      }

  pub blob-held : g.tells → HasBlob chains pid blob
  blob-held told = let o = one told in subst (IsBlob blob) (sym o.one) (refl, subst (NamesBlob blob) (sym o.pointer) refl)

  blob-again : HoldsAgain g old pid q again_message
  blob-again told c same stands =
      let o = one told in
      subst (λ m. CountsAs m (Put c)) (sym o.message) (holds-counts o.entry.message c o.puts (subst (λ (l : Chain). Holds (messages_of l) c) o.one stands))

  is-blob : is_one_blob (pointers_in q.infos.items) ≡ true
  is-blob = ap (λ (l : List CacheInfo). is_one_blob (pointers_in l)) is.one ∙ ap (λ p. is_one_blob (p ∷ [])) is.pointer

  no-reads : reads_of q ≡ 0
  no-reads = by (is_resident q.kept) refl
    where
      by : (b : Bool) → is_resident q.kept ≡ b → reads_of q ≡ 0
      by true there = rw there refl
      by false away = rw (away, is-blob) refl

  module _ (said : ℤ × DiskPtr × ℕ) (told_chains : g.tells → now effect_of_entry (g.state new.log) ≡ chains_from effect_of_entry chains (Change pid (placed_entry again_message said)))
      (told_size : g.tells → said.2 ≡ message_size again_message) where
    again_entry : g.tells → now effect_of_entry (g.state new.log) ≡ slice_set chains pid (placed_entry again_message said ∷ [])
    again_entry told =
        let o = one told in
        told_chains told ∙ ap (λ kind. chains_with_change effect_of_entry kind chains pid (placed_entry again_message said)) (ap effect_of o.message ∙ o.puts)
        ∙ ap (λ b. cond b (chains ++ (placed_entry again_message said ∷ []) ∷ []) (slice_set chains pid (placed_entry again_message said ∷ []))) (ne_eqb pid (length chains) (λ e. absurd (let lt = there told in omega (arith, e, lt))))

    again-kept : {info : CacheInfo} → page_then.infos.items ≡ info ∷ [] → info.lsn ≡ said.0 → info.pointer ≡ said.1 → info.log_size ≡ is.info.log_size → page_then.kept ≡ q.kept → g.tells → IsKept (chain_at (g.state new.log) pid) page_then
    again-kept {info} infos lsn pointer log_size holds told =
        let o = one told in
        let chain = at-page chains pid (there told) _ _ (again_entry told) in
        let size : said.2 ≡ info.log_size = told_size told ∙ ap message_size o.message ∙ o.size ∙ sym log_size in
        let placed : map said_of (placed_entry again_message said ∷ []) ≡ map place_of (info ∷ []) = cc in
        let places = placed ∙ ap (map place_of) (sym infos) in
        subst (λ (c : Chain). IsKept c page_then) (sym chain) (record {
          places = λ _. places;
          at = placed-at (placed_entry again_message said ∷ []) page_then.infos.items places;
          holds = subst (HoldsChain (placed_entry again_message said ∷ [])) (sym holds) (subst (λ m. HoldsChain (placed_entry m said ∷ []) q.kept) (sym o.message) (holds-again o.entry said q.kept o.holds));
        })

    pub moved-blob : {accesses after : Accesses} {info : CacheInfo} → Went g old new (Change pid again_message ∷ []) → new.fault ≡ false → (g.counts new.log).reads ≡ (g.counts old.log).reads
        → (g.tells → AllByRecursion IsSized (now effect_of_entry (g.state new.log))) → page_then.stamp ≡ q.stamp → page_then.infos.items ≡ info ∷ [] → info.ts ≡ q.stamp → info.lsn ≡ said.0 → info.pointer ≡ said.1
        → info.log_size ≡ is.info.log_size → page_then.kept ≡ q.kept → WasAccessed accesses pid (capped_size is.info.log_size) after → MovesOne g old pid q new accesses after page_then
    moved-blob {accesses} {after} {info} went fault reads sized_then stamp infos ts lsn pointer log_size holds accessed = record {
      message = again_message;
      again = blob-again;
      went = went;
      fault = fault;
      reads = reads ∙ ap (λ n. count_after n (g.counts old.log).reads) (sym no-reads);
      sized = sized_then;
      others = λ told. other-pages chains pid (there told) _ _ (again_entry told);
      kept = again-kept infos lsn pointer log_size holds;
      stamp = stamp;
      stamps = ap (map (λ (info : CacheInfo). info.ts)) infos ∙ ap (λ n. n ∷ []) (ts ∙ sym stamp);
      holds = inl holds;
      there = λ full no_blob. absurd (false≢true (sym no_blob ∙ is-blob));
      stays = λ _ _. holds;
      accessed = subst (λ n. WasAccessed accesses pid n after) (ap capped_size (sym log_size ∙ sym (ap size_in infos ∙ alone info))) accessed;
    }

  -- it was refused: memory ran out, or the log refused it
  pub unmoved-blob : {accesses after : Accesses} {refusal : Refusal} → (g.tells → IsOfLog refusal) → (let told : Result (Unit {0}) Refusal = Err refusal in Went g old new (begun_by told (Change pid again_message ∷ [])))
      → (let told : Result (Unit {0}) Refusal = Err refusal in IsCaused g old new (g.tells → g.is_full old.log (length again_message.payload)) told) → (g.counts new.log).reads ≡ (g.counts old.log).reads
      → (g.tells → new.fault ≡ false → now effect_of_entry (g.state new.log) ≡ now effect_of_entry (g.state old.log)) → page_then.stamp ≡ q.stamp → page_then.infos.items ≡ q.infos.items → page_then.kept ≡ q.kept → IsTouched accesses pid after
      → RefusesOne g old pid q new accesses after page_then refusal
  unmoved-blob {refusal = refusal} of went cause reads same stamp infos holds touched = record {
    begun = elim (begun-or-none refusal (Change pid again_message ∷ []) went) [ inl none ↦ inl none | inr some ↦ inr (some.0, again_message, blob-again, some.1) ];
    cause = record { fault = cause.fault; read = cause.read; write = cause.write; full = λ is told c _ _. inr (cause.full is told) };
    refused = λ told. inl (of told);
    same = same;
    stamp = stamp;
    infos = infos;
    stays = holds;
    times = 0;
    most = omega arith;
    reads = reads;
    touched = touched;
    unasked = λ told. inl (of told);
  }

-- ---- behind a call that changed nothing

module _ {L : Type 0} (g : Ghosts L) {old mid : StickyLog L} (before : Went g old mid []) (ready : mid.fault ≡ false) (state : g.state mid.log ≡ g.state old.log) (counts : g.counts mid.log ≡ g.counts old.log)
    (room : (n : ℕ) → g.is_full mid.log n → g.is_full old.log n) (pid : ℕ) (q : Page) where
  again-since : (m : Message) → HoldsAgain g mid pid q m → HoldsAgain g old pid q m
  again-since m again told c same stands = again told c same (subst (λ st. Holds (messages_of (chain_at st pid)) c) (sym state) stands)

  pub moved-since : {new : StickyLog L} {accesses after : Accesses} {page : Page} → MovesOne g mid pid q new accesses after page → MovesOne g old pid q new accesses after page
  moved-since {new} moved = record {
    message = moved.message;
    again = again-since moved.message moved.again;
    went = Went-then g old mid new [] _ before ready moved.went;
    fault = moved.fault;
    reads = moved.reads ∙ ap (λ n. count_after (reads_of q) n.reads) counts;
    sized = moved.sized;
    others = λ told. moved.others told ∙ ap (λ st. slice_set (now effect_of_entry st) pid (chain_at (g.state new.log) pid)) state;
    kept = moved.kept;
    stamp = moved.stamp;
    stamps = moved.stamps;
    holds = moved.holds;
    there = moved.there;
    stays = moved.stays;
    accessed = moved.accessed;
  }

  room-since : (c : Content) → HasNoRoomAgain g mid.log pid c → HasNoRoomAgain g old.log pid c
  room-since c (inl full) = inl (room _ full)
  room-since c (inr full) = inr (subst (λ st. g.is_full old.log (length (message_at (now effect_of_entry st) pid).payload)) state (room _ full))

  pub unmoved-since : {new : StickyLog L} {accesses after : Accesses} {page : Page} {refusal : Refusal} → RefusesOne g mid pid q new accesses after page refusal → RefusesOne g old pid q new accesses after page refusal
  unmoved-since {new} {refusal = refusal} refused =
      let told : Result (Unit {0}) Refusal = Err refusal in
      let cause = IsCaused-since g old mid new [] _ told before refused.cause in
      record {
        begun = elim refused.begun [
          | inl none ↦ inl (Went-then g old mid new [] [] before ready none)
          | inr some ↦ inr (some.0, some.1, again-since some.1 some.2, Went-then g old mid new [] _ before ready some.3)
        ];
        cause = record {
          fault = cause.fault;
          read = cause.read;
          write = cause.write;
          full = λ is told c same stands. room-since c (cause.full is told c same (subst (λ st. Holds (messages_of (chain_at st pid)) c) (sym state) stands));
        };
        refused = λ told. subst (λ st. RefusesRewrite (chain_at st pid) q refusal) state (refused.refused told);
        same = λ told clear. refused.same told clear ∙ ap (now effect_of_entry) state;
        stamp = refused.stamp;
        infos = refused.infos;
        stays = refused.stays;
        times = refused.times;
        most = refused.most;
        reads = refused.reads ∙ ap (λ n. count_after refused.times n.reads) counts;
        touched = refused.touched;
        unasked = refused.unasked;
      }

  pub since : (new : StickyLog L) (accesses after : Accesses) (page : Page) (result : Result (Unit {0}) Refusal) → MovesOrNot g (writer mid accesses) pid q (writer new after) page result → MovesOrNot g (writer old accesses) pid q (writer new after) page result
  since new accesses after page (Ok done) moved = moved-since moved
  since new accesses after page (Err refusal) refused = unmoved-since refused
