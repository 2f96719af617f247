-- Rewriting a cache into another log: its pages are copied one after another, and what that leaves of both.
use Rattle.sled_pagecache.proofs.Names.{◌≡◌, ◌≢◌, ◌≤◌, ◌<◌, ◌+◌, ℕ, true, false, List, [], ◌∷◌, ◌++◌, length, map, take, drop, Option, None, Some, Result, Ok, Err, refl, sym, ◌∙◌, ap, subst, inl, inr, ⊎_elim, arith, append_assoc, length-append, length-map, slice_get, slice_get_within, slice_index_or, sum_by, take-append-drop, take_all, AllByRecursion, AllZip, AllZip-long, CrashesSinceLeave, Cache, Chain, Comes, Content, Event, Ghosts, Holds, HoldsChain, IsKept, PageContent, Makes, Node, Page, WholeNode, content_of, is_resident, IsCaused, IsLeft, IsLogged, IsOfLog, LogFull, LogState, Logged, Message, Messages, Proceeds, Refusal, StickyLog, Update, Went-last, Went-none, IsCaused-since, chain_at, chains_after, effect_of, effect_of_entry, holds_now, is_open, message_in, message_of, messages_of, now, now-unplaced, now-Went, refusal_in, seen_event, stable_state, stable_contents, unplaced_state}
use Rattle.sled_base.specs.declared.types.Refusal.TheVariants.{Unsupported}
use Rattle.sled_log.specs.Events.{seen_events}
use Rattle.sled_pagecache.proofs.CacheLog.ToldContents.{proper-now}
use Rattle.sled_pagecache.proofs.Rewrites.CopiedPages.{chains-pages, changes-append, kept-alone, messages-push, open-pages}
use Rattle.sled_pagecache.proofs.Sizes.Measurements.{have-taken, next-read, read-more, read-refused}
use Rattle.sled_pagecache.proofs.CacheLog.LogCalls.{proceeds-ended, proceeds-none, proceeds-then}
use Rattle.sled_pagecache.proofs.CacheLog.ProperPages.{all-append}
use Rattle.sled_pagecache.proofs.Opening.RecoveredPages.{zip-more}
use Rattle.sled_pagecache.proofs.Crash.ReopenedCaches.{kept-logged}
use Rattle.sled_pagecache.proofs.Opening.OpenedPages.{stays-closed}
use Rattle.sled_pagecache.specs.Inside.LogCalls.{LacksRoom}
use Rattle.sled_pagecache.specs.Inside.PageCopies.{AreCopied, Copies, CopiesContent, CopiesPage, IsReadable, PutsCopy}
use Rattle.sled_pagecache.specs.Inside.Measurements.{HasContent, ReadsLog, RefusesAway, messages_to_read}
use Rattle.sled_pagecache.specs.Logged.{now as held_now}
use Rattle.sled_pagecache.specs.Opening.{LacksRoomFor}
use Rattle.sled_pagecache.specs.declared.pagecache.table.page_entry.PageContent.TheVariants as page_content
use Rattle.sled_pagecache.specs.Rewriting.{IsRewritten, RanFull, alone, changes_of_page, changes_of_pages, messages_of_pages}

-- ---- one page

has-kept : (chain : Chain) (kept : PageContent) → is_resident kept ≡ true → HoldsChain chain kept → HasContent chain (content_of kept)
has-kept chain page_content.Free is holds = holds
has-kept chain (page_content.Counter n) is holds = holds
has-kept chain (page_content.Roots roots) is holds = holds
has-kept chain (page_content.Node node) is holds = holds
has-kept chain page_content.OnLog is holds = (let e = is in absurd cc)

module _ {L : Type 0} (g : Ghosts L) (old new : StickyLog L) (n : ℕ) where
  -- a call that reads hands on what another answered
  read-ok : {T U : Type 0} {a : T} {b : U} → (let ok : Result T Refusal = Ok a in ReadsLog g old new n ok) → (let ok : Result U Refusal = Ok b in ReadsLog g old new n ok)
  read-ok read = record {
    went = read.went;
    cause = record { fault = read.cause.fault; read = λ h. cc; write = λ h. cc; full = λ h. cc };
    same = read.same;
    reads = record { whole = read.reads.whole; part = tt };
  }

module _ {L : Type 0} (g : Ghosts L) (old : StickyLog L) (clear : old.fault ≡ false) (usable : (g.state old.log).usable ≡ true)
    (only : (pages : List Messages) → g.tells → (g.state old.log).usable ≡ true → g.left_since old.log (g.moment old.log) pages → IsLeft effect_of (unplaced_state (g.state old.log)) [] pages) where
  -- nothing was read
  pub read-none : (n : ℕ) → n ≡ 0 → (let ok : Result (Unit {0}) Refusal = Ok tt in ReadsLog g old old n ok)
  read-none n none = rw none (record {
    went = Went-none g old usable only;
    cause = record { fault = clear; read = λ h. cc; write = λ h. cc; full = λ h. cc };
    same = λ told free. refl;
    reads = record { whole = refl; part = tt };
  })

module _ {L M : Type 0} (g : Ghosts L) (h : Ghosts M) (pid : ℕ) (page : Page) (old : StickyLog L) (copy : StickyLog M) where
  abbrev chain : Chain
  chain = chain_at (g.state old.log) pid

  puts-page : (new : StickyLog L) (then : StickyLog M) (content : Content) (result : Result (Unit {0}) Refusal) → (let ok : Result (Unit {0}) Refusal = Ok tt in ReadsLog g old new (messages_to_read page) ok) → (g.tells → HasContent chain content) → PutsCopy h pid content copy then result
      → CopiesPage g h pid page old new copy then result
  puts-page new then content (Ok done) read has puts = (read, record { content = content; has = has; puts = puts })
  puts-page new then content (Err refusal) read has puts = inr (read, record { content = content; has = has; puts = puts })

  -- what is in memory of the page was copied, or that was refused
  pub copies-kept : (then : StickyLog M) (result : Result (Unit {0}) Refusal) → is_resident page.kept ≡ true → (let ok : Result (Unit {0}) Refusal = Ok tt in (n : ℕ) → n ≡ 0 → ReadsLog g old old n ok) → (g.tells → IsKept chain page) → PutsCopy h pid (content_of page.kept) copy then result
      → CopiesPage g h pid page old old copy then result
  copies-kept then result resident none kept puts = puts-page old then (content_of page.kept) result (none (messages_to_read page) (grind (arith, resident))) (λ told. has-kept chain page.kept resident (kept told).holds) puts

  module _ (away : page.kept ≡ page_content.OnLog) (new : StickyLog L) where
    -- the node that was read was
    pub copies-read : (then : StickyLog M) (node : WholeNode) (result : Result (Unit {0}) Refusal) (n : ℕ) → n ≡ length page.infos.items → (let ok : Result WholeNode Refusal = Ok node in ReadsLog g old new n ok) → (g.tells → Makes (messages_of chain) (Node node))
        → PutsCopy h pid (Node node) copy then result → CopiesPage g h pid page old new copy then result
    copies-read then node result n many read made puts =
        let all : n ≡ messages_to_read page = grind (arith, away, many) in
        puts-page new then (Node node) result (read-ok g old new (messages_to_read page) (subst (λ k. (let ok : Result WholeNode Refusal = Ok node in ReadsLog g old new k ok)) all read)) made puts

-- ---- one page after another

-- pages are told by some messages
some-told : (contents : List Content) → 0 < length contents → messages_of_pages 0 contents ≢ []
some-told [] some none = omega (arith, some)
some-told (content ∷ contents) some none = grind arith

module _ {L M : Type 0} (g : Ghosts L) (h : Ghosts M) (chains : List Chain) (copy : StickyLog M) where
  Copied : ℕ → StickyLog M → Option Refusal → Type 0
  Copied many then refusal = AreCopied g h chains many copy then refusal

  -- none yet
  pub copied-none : (only : (pages : List Messages) → h.tells → (h.state copy.log).usable ≡ true → h.left_since copy.log (h.moment copy.log) pages → IsLeft effect_of (unplaced_state (h.state copy.log)) [] pages)
      → copy.fault ≡ false → (h.state copy.log).usable ≡ true → AreCopied g h chains 0 copy copy None
  copied-none only clear usable = record { contents = []; long = refl; have = λ told. tt; readable = tt; proceeds = proceeds-none h copy only clear usable }

  -- one more, or that was refused
  pub copied-more : (pid : ℕ) (mid then : StickyLog M) (result : Result (Unit {0}) Refusal) → AreCopied g h chains pid copy mid None → CopiesContent g h (slice_index_or chains pid []) pid mid then result
      → (g.tells → pid < length chains) → AreCopied g h chains (pid + 1) copy then (refusal_in result)
  copied-more pid mid then result so_far one within = record {
    contents = so_far.contents ++ one.content ∷ [];
    long = length-append so_far.contents (one.content ∷ []) ∙ ap (λ n. n + 1) so_far.long;
    have = λ told. zip-more HasContent chains so_far.contents pid [] one.content (within told) (so_far.have told) (one.has told);
    readable = all-append IsReadable so_far.contents (one.content ∷ []) so_far.readable (one.puts.readable, tt);
    proceeds =
        subst (λ (l : List (Event Message)). Proceeds h copy then l (refusal_in result)) (sym (messages-push so_far.contents one.content))
        (proceeds-then h copy mid then (messages_of_pages 0 so_far.contents) (map (seen_event message_of) (changes_of_page (length so_far.contents) one.content)) (refusal_in result) so_far.proceeds
        (subst (λ n. Proceeds h mid then (map (seen_event message_of) (changes_of_page n one.content)) (refusal_in result)) (sym so_far.long) one.puts.proceeds));
  }

  module _ (many : ℕ) (mid : StickyLog M) (all : AreCopied g h chains many copy mid None) where
    -- no batch is open then
    pub copied-closed : is_open (h.state copy.log).pending ≡ false → is_open (h.state mid.log).pending ≡ false
    copied-closed closed = stays-closed h copy mid (messages_of_pages 0 all.contents) all.proceeds closed (open-pages false 0 all.contents)

    -- each page is its one message
    pub copied-now : h.tells → now effect_of_entry (h.state copy.log) ≡ [] → now effect_of (unplaced_state (h.state mid.log)) ≡ map alone all.contents
    copied-now told empty =
        now-Went h copy mid (messages_of_pages 0 all.contents) all.proceeds.reaches told all.proceeds.fault
        ∙ ap (λ (l : List Messages). chains_after effect_of l (messages_of_pages 0 all.contents)) (sym (now-unplaced (h.state copy.log)) ∙ ap (map messages_of) empty)
        ∙ chains-pages [] all.contents all.readable

    pub copied-long : h.tells → now effect_of_entry (h.state copy.log) ≡ [] → many ≡ length (now effect_of_entry (h.state mid.log))
    copied-long told empty =
        sym all.long ∙ sym (length-map all.contents alone) ∙ ap length (sym (copied-now told empty) ∙ sym (now-unplaced (h.state mid.log))) ∙ length-map (now effect_of_entry (h.state mid.log)) messages_of

    -- and then all is made stable, or that is refused
    pub copied-stable : {T : Type 0} (then : StickyLog M) (result : Result T Refusal) → 0 < many → Comes h mid then [] → IsCaused h mid then ⊥ result → AreCopied g h chains many copy then (refusal_in result)
    copied-stable then result some went cause =
        let events = messages_of_pages 0 all.contents in
        record {
          contents = all.contents;
          long = all.long;
          have = all.have;
          readable = all.readable;
          proceeds =
              proceeds-ended h copy then events result (Went-last h copy mid then events all.proceeds.reaches all.proceeds.fault went) (IsCaused-since h copy mid then events ⊥ result all.proceeds.reaches cause)
              (λ none. absurd (some-told all.contents (omega (arith, some, all.long)) none));
        }

-- ---- the next page

content-at : {L M : Type 0} (g : Ghosts L) (h : Ghosts M) (mids chains : List Chain) (pid : ℕ) (copy then : StickyLog M) (result : Result (Unit {0}) Refusal) → (g.tells → mids ≡ chains) → CopiesContent g h (slice_index_or mids pid []) pid copy then result
    → CopiesContent g h (slice_index_or chains pid []) pid copy then result
content-at g h mids chains pid copy then result same one =
    record { content = one.content; has = λ told. subst (λ (l : List Chain). HasContent (slice_index_or l pid []) one.content) (same told) (one.has told); puts = one.puts }

module _ {L M : Type 0} (g : Ghosts L) (h : Ghosts M) (table : List Page) (start mid new : StickyLog L) (copy between then : StickyLog M) (pid : ℕ) (page : Page) (at : slice_get table pid ≡ Some page)
    (kept : g.tells → AllZip IsKept (now effect_of_entry (g.state start.log)) table) (read : (let ok : Result (Unit {0}) Refusal = Ok tt in ReadsLog g start mid (sum_by messages_to_read (take pid table)) ok))
    (copied : AreCopied g h (now effect_of_entry (g.state start.log)) pid copy between None) where
  abbrev all_chains : List Chain
  all_chains = now effect_of_entry (g.state start.log)

  same-chains : g.tells → now effect_of_entry (g.state mid.log) ≡ all_chains
  same-chains told = read.same told read.cause.fault

  within-chains : g.tells → pid < length all_chains
  within-chains told = omega (arith, slice_get_within table pid page at, AllZip-long IsKept all_chains table (kept told))

  next-copied : (result : Result (Unit {0}) Refusal) → CopiesContent g h (chain_at (g.state mid.log) pid) pid between then result → AreCopied g h all_chains (pid + 1) copy then (refusal_in result)
  next-copied result one = copied-more g h all_chains copy pid between then result copied (content-at g h (now effect_of_entry (g.state mid.log)) all_chains pid between then result same-chains one) within-chains

  -- it was copied
  pub copies-next : CopiesPage g h pid page mid new between then (Ok tt)
      → (let ok : Result (Unit {0}) Refusal = Ok tt in ReadsLog g start new (sum_by messages_to_read (take (pid + 1) table)) ok) × AreCopied g h all_chains (pid + 1) copy then None
  copies-next one = (read-more g start mid new (sum_by messages_to_read (take pid table)) (messages_to_read page) (sum_by messages_to_read (take (pid + 1) table)) read one.0 (next-read table pid page at).0, next-copied (Ok tt) one.1)

  -- or that was refused
  pub copies-refused : (refusal : Refusal) → CopiesPage g h pid page mid new between then (Err refusal) → Copies g h table start new copy then (Err refusal)
  copies-refused refusal one =
      let within = slice_get_within table pid page at in
      let most = (next-read table pid page at).1 in
      ⊎_elim
      (λ unread. inl (
        read-refused g start mid new (sum_by messages_to_read (take pid table)) (messages_to_read page) (sum_by messages_to_read table) read refusal unread.0 most,
        λ told. (pid, page, at, subst (λ (l : List Chain). RefusesAway (slice_index_or l pid []) page refusal) (same-chains told) (unread.1 told)),
        pid,
        omega (arith, within),
        subst (λ t. AreCopied g h all_chains pid copy t None) (sym unread.2) copied,
      ))
      (λ unwritten. inr (
        sum_by messages_to_read (take pid table) + messages_to_read page,
        most,
        read-more g start mid new (sum_by messages_to_read (take pid table)) (messages_to_read page) (sum_by messages_to_read (take pid table) + messages_to_read page) read unwritten.0 refl,
        unwritten.1.puts.of_log,
        pid + 1,
        omega (arith, within),
        next-copied (Err refusal) unwritten.1,
      )) one

-- ---- behind the last page

module _ {L M : Type 0} (g : Ghosts L) (h : Ghosts M) (table : List Page) (start new : StickyLog L) (copy between then : StickyLog M) (pid : ℕ) (ended : pid ≡ length table) (some : 0 < length table)
    (read : (let ok : Result (Unit {0}) Refusal = Ok tt in ReadsLog g start new (sum_by messages_to_read (take pid table)) ok)) (copied : AreCopied g h (now effect_of_entry (g.state start.log)) pid copy between None) (went : Comes h between then []) where
  all-read : (let ok : Result (Unit {0}) Refusal = Ok tt in ReadsLog g start new (sum_by messages_to_read table) ok)
  all-read = subst (λ (l : List Page). (let ok : Result (Unit {0}) Refusal = Ok tt in ReadsLog g start new (sum_by messages_to_read l) ok)) (take_all pid table (omega (arith, ended))) read

  all-copied : {T : Type 0} (result : Result T Refusal) → IsCaused h between then ⊥ result → AreCopied g h (now effect_of_entry (g.state start.log)) (length table) copy then (refusal_in result)
  all-copied result cause =
      subst (λ n. AreCopied g h (now effect_of_entry (g.state start.log)) n copy then (refusal_in result)) ended
      (copied-stable g h (now effect_of_entry (g.state start.log)) copy pid between copied then result (omega (arith, some, ended)) went cause)

  -- all is stable
  pub stable-done : {T : Type 0} (answer : T) → (let ok : Result T Refusal = Ok answer in IsCaused h between then ⊥ ok) → (h.state then.log).pending ≡ [] → Copies g h table start new copy then (Ok tt)
  stable-done {T} answer cause none = (all-read, all-copied {T = T} (Ok answer) cause, none)

  -- or that was refused
  pub stable-refused : {T : Type 0} (refusal : Refusal) → (let err : Result T Refusal = Err refusal in IsCaused h between then ⊥ err) → (h.tells → IsOfLog refusal) → Copies g h table start new copy then (Err refusal)
  stable-refused {T} refusal cause of_log = inr (sum_by messages_to_read table, omega arith, all-read, of_log, length table, omega arith, all-copied {T = T} (Err refusal) cause)

-- ---- what the other log holds then

state-is : (s : LogState Message) (pages : List Messages) → s.stable ≡ pages → s.pending ≡ [] → s.usable ≡ true → s ≡ stable_state pages true
state-is s pages h1 h2 h3 = grind arith

-- the changes that messages are told by, in two parts
changes-parts : (changes : List (Event Update)) (came rest : List (Event Message)) → came ++ rest ≡ seen_events message_of changes
    → (begun : List (Event Update)) × (others : List (Event Update)) × (begun ++ others ≡ changes) × (seen_events message_of begun ≡ came) × (seen_events message_of others ≡ rest)
changes-parts changes [] rest is = ([], changes, refl, refl, sym is)
changes-parts [] (event ∷ came) rest is = absurd (grind arith)
changes-parts (change ∷ changes) (event ∷ came) rest is =
    let parts = changes-parts changes came rest (grind arith) in
    (change ∷ parts.0, parts.1, ap (λ l. change ∷ l) parts.2, grind arith, parts.4)

lacks-room : {M : Type 0} (h : Ghosts M) (log : M) (changes others : List (Event Update)) → LacksRoom h log (seen_events message_of changes) → LacksRoomFor h log (changes ++ others)
lacks-room h log [] others lacks = absurd lacks
lacks-room h log (change ∷ changes) others lacks = grind arith

module _ {L M : Type 0} (g : Ghosts L) (h : Ghosts M) (before : StickyLog L) (copy then : StickyLog M) where
  abbrev chains : List Chain
  chains = now effect_of_entry (g.state before.log)

  module _ (held : Logged) (logged : IsLogged (unplaced_state (g.state before.log)) held) (tells : g.tells) where
    -- the contents that were copied are those that the cache has
    copied-are : (many : ℕ) (refusal : Option Refusal) (all : AreCopied g h chains many copy then refusal) → all.contents ≡ take many (held_now held)
    copied-are many refusal all = have-taken many chains (held_now held) all.contents (holds_now (g.state before.log) held logged) (all.have tells)

    -- the other log was full
    pub ran-full : (many : ℕ) → AreCopied g h chains many copy then (Some (Unsupported LogFull)) → h.tells → now effect_of_entry (h.state copy.log) ≡ [] → RanFull h copy.log (held_now held)
    ran-full many all told empty =
        let cut = all.proceeds.reaches in
        let full = cut.full refl in
        let others = changes_of_pages (length all.contents) (drop many (held_now held)) in
        let parts = changes-parts (changes_of_pages 0 all.contents) cut.came cut.rest cut.is in
        let e : length all.contents ≡ 0 + length all.contents = omega arith in
        let whole : changes_of_pages 0 all.contents ++ others ≡ changes_of_pages 0 (held_now held) =
        ap (λ n. changes_of_pages 0 all.contents ++ changes_of_pages n (drop many (held_now held))) e
        ∙ sym (changes-append 0 all.contents (drop many (held_now held))) ∙ ap (λ (l : List Content). changes_of_pages 0 (l ++ drop many (held_now held))) (copied-are many _ all) ∙ ap (changes_of_pages 0) (take-append-drop many (held_now held)) in
        record {
          begun = parts.0;
          rest = parts.1 ++ others;
          are = sym (append_assoc parts.0 parts.1 others) ∙ ap (λ (l : List (Event Update)). l ++ others) parts.2 ∙ whole;
          at_once = λ none. lacks-room h copy.log parts.1 others (subst (LacksRoom h copy.log) (sym parts.4) (full.given (sym parts.3 ∙ ap (seen_events message_of) none)));
          moment = full.at.log;
          reached = subst (λ (l : List (Event Message)). CrashesSinceLeave h.moment h.left_since copy.log full.at.log (IsLeft effect_of (unplaced_state (h.state copy.log)) l)) (sym parts.3) (full.went.crash told);
          holds =
              now-Went h copy full.at cut.came full.went told full.clear
              ∙ ap (λ (l : List Messages). chains_after effect_of l cut.came) (sym (now-unplaced (h.state copy.log)) ∙ ap (map messages_of) empty)
              ∙ ap (chains_after effect_of []) (sym parts.3);
          no_room = lacks-room h full.at.log parts.1 others (subst (LacksRoom h full.at.log) (sym parts.4) full.room);
        }

  module _ (many : ℕ) (long : g.tells → length chains ≤ many) (all : AreCopied g h chains many copy then None) (none : (h.state then.log).pending ≡ []) (empty : h.tells → now effect_of_entry (h.state copy.log) ≡ []) where
    holds-alone : h.tells → unplaced_state (h.state then.log) ≡ stable_state (map alone all.contents) true
    holds-alone told =
        let pending = ap (map (seen_event message_in)) none in
        state-is (unplaced_state (h.state then.log)) (map alone all.contents) (ap (chains_after effect_of (unplaced_state (h.state then.log)).stable) (sym pending) ∙ copied-now g h chains copy many then all told (empty told))
        pending (all.proceeds.reaches.usable all.proceeds.fault)

    whole-are : (held : Logged) → IsLogged (unplaced_state (g.state before.log)) held → g.tells → all.contents ≡ held_now held
    whole-are held logged tells =
        let same = AllZip-long Holds (map messages_of chains) (held_now held) (holds_now (g.state before.log) held logged) in
        copied-are held logged tells many None all ∙ take_all many (held_now held) (omega (arith, same, long tells, length-map chains messages_of))

    pub is-rewritten : (cache : Cache L) → cache.log ≡ before.log → IsRewritten g h cache then.log
    is-rewritten cache same = rw same (record {
      usable = all.proceeds.reaches.usable all.proceeds.fault;
      none = none;
      messages = λ tells told held logged. holds-alone told ∙ ap (λ (l : List Content). stable_state (map alone l) true) (whole-are held logged tells);
      contents = λ tells told held logged.
          let proper = proper-now (unplaced_state (g.state before.log)) held logged in
          let same = whole-are held logged tells in
          subst (λ (s : LogState Message). IsLogged s (stable_contents (held_now held))) (sym (holds-alone told ∙ ap (λ (l : List Content). stable_state (map alone l) true) same))
          (kept-logged (map alone (held_now held)) (held_now held) (kept-alone (held_now held) (subst (AllByRecursion IsReadable) same all.readable) proper.own proper.few) true);
    })
