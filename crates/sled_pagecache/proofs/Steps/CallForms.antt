-- What a call of the machine leaves, in a few forms: most change at most one page, which isn't the counter's, and use no id.
use Rattle.sled_pagecache.proofs.Names.{IsBehind, TidiesBehind, TidiesIfSwapped, Err, Amplified, SpaceAmplification, TakeFuzzySnapshot, TookSnapshot, slice_get_within, length-map, CasRoot, FoundRoot, MetaPidForName, RootSwapped, AllByRecursion, Allocate, Allocated, Allocates, Answer, Bool, Cache, Call, Change, Content, Counter, Does, Error, Event, Flush, Flushed, Free, Freed, GenerateId, Generated, Get, GetIdgen, GetMeta, Ghosts, Got, GotIdgen, GotMeta, HasNoRoom, IsRefused, Linked, Links, LinksContent, List, MatchBool, Node, Ok, None, Option, Outcome, Put, Replace, Replaced, Result, Roots, SizeOnDisk, Sized, Some, State, StepOver, Swapped, Swaps, SwapsContent, SwapsPage, Token, Update, WholeNode, [], ap, arith, chain_length, contents_of, false, false≢true, free_token, greatest_free, is_reserved, later_token, length, ltb-true, none-some, outcome, page_at, refl, same_Some, slice_get, subst, suc, sym, token, true, no_change, ℕ, ⊤, ◌+◌, ◌-◌, ◌==◌, ◌^◌, ◌∙◌, ◌∷◌, ◌≡◌, ◌≢◌, ◌≤◌, ◌⊎◌, nat_lt, Pin, Seal, Cancel, NodeLink, ClosesNone, SparesCounter, id_in, Pinned, Sealed, Cancelled, map-at, HasNoRoomAgain, due_in, more-at, inl, inr, eqb_tells, slice_get-map, option_map, ◌++◌, other-at, Due, Tidies, WritesAgain, AttemptedGc, AttemptGc}
use Rattle.sled_node.specs.Meta as meta
use Rattle.sled_pagecache.proofs.CacheLog.ProperPages.{all-append}
use Rattle.sled_pagecache.specs.Limits.{most_messages}
use Rattle.sled_pagecache.proofs.Ids.RisingCounter.{Again, Spare, CountsTo, start-above}
use Rattle.sled_pagecache.specs.State.{StampedPage, is_free, page, with_page}
use Rattle.sled_pagecache.specs.Step.{Generates, HoldsCounter, HoldsRoots, interval_start, with_next_id}
use Rattle.sled_pagecache.specs.declared.pagecache.handles.call.Call.TheVariants as call

split : {A B X : Type 0} (test : Bool) → MatchBool test A B → (test ≡ true → A → X) → (test ≡ false → B → X) → X
split true h where_true where_false = where_true refl h
split false h where_true where_false = where_false refl h

-- a change of a page, and no mark
abbrev pub IsChange : {E : Type 0} → Event E → Type 0
IsChange (Change id said) = ⊤
IsChange Pin = ⊥
IsChange Seal = ⊥
IsChange Cancel = ⊥

-- the batch stays open or closed, and no mark is written
pub record IsInside (s : State) (out : Outcome) : Type 0 where
  pub batch : out.state.batch ≡ s.batch
  pub changes : AllByRecursion IsChange out.changes

-- no id is used, and no change is one of the counter, wherever it counts
pub record IsQuiet (s : State) (out : Outcome) : Type 0 where
  pub next : out.state.next ≡ s.next
  pub spares : (n : ℕ) → CountsTo (contents_of s) n → Spare n out.changes
  pub own : (n : ℕ) → CountsTo (contents_of s) n → page_at out.state 1 ≡ page_at s 1

-- the counter of page 1 is raised
pub record IsRaised (s : State) (ids : List ℕ) (out : Outcome) : Type 0 where
  pub stamp : ℕ
  pub old : ℕ
  pub new : ℕ
  pub counts : CountsTo (contents_of s) old
  pub up : old ≤ new
  pub stands : (p : StampedPage) × (page_at s 1 ≡ Some p) × (p.stamp ≡ stamp)
  pub changes : out.changes ≡ Change 1 (Put (Counter new)) ∷ []
  pub end : ((ids ≡ []) × (out.state ≡ record s { fault = true }))
      ⊎ ((ids ≡ s.next ∷ []) × (s.fault ≡ false) × (out.state ≡ with_next_id (with_page s 1 (page (stamp + 1) (Counter new)))))

-- no id is used, and nothing is written but changes, none of which is one of the counter
pub data IsPlain (s : State) (out : Outcome) : Type 0 where
  Stays : IsQuiet s out → IsInside s out → IsPlain s out

pub quiet_of : {s : State} {out : Outcome} → IsPlain s out → IsQuiet s out
quiet_of (Stays quiet inside) = quiet

-- The forms: a call that changes a page or nothing, one that writes a mark, and an id with a new counter or without.
pub data Form (s : State) (call : Call) (ids : List ℕ) (out : Outcome) : Type 0 where
  Plain : ids ≡ [] → IsPlain s out → Form s call ids out
  Marks : ids ≡ [] → IsQuiet s out → (s.batch ≡ true → ClosesNone call → ⊥) → Form s call ids out
  Next : s.fault ≡ false → ids ≡ s.next ∷ [] → out ≡ no_change (with_next_id s) → Form s call ids out
  Raises : IsRaised s ids out → Form s call ids out

-- ---- what a step reads

-- the named roots that are read
pub roots-read : {P : Type 0} (s : State) (holds : ℕ → meta.Roots → Type 0) → HoldsRoots (page_at s 0) holds → ((stamp : ℕ) (roots : meta.Roots) → page_at s 0 ≡ Some (page stamp (Roots roots)) → holds stamp roots → P) → P
roots-read s holds h then = grind arith

-- the counter that is read
counter-read : {P : Type 0} (s : State) (holds : ℕ → ℕ → Type 0) → HoldsCounter (page_at s 1) holds → ((p : StampedPage) (n : ℕ) → page_at s 1 ≡ Some p → p.content ≡ Counter n → holds p.stamp n → P) → P
counter-read s holds h then = grind arith

-- ---- the page of a free id isn't the counter's

pub record IsFreeAt (first : ℕ) (pages : List StampedPage) (free : Token) : Type 0 where
  pub place : ℕ
  pub is : free.pid ≡ first + place
  pub page : StampedPage
  pub at : slice_get pages place ≡ Some page
  pub empty : is_free page.content ≡ true

pub free-at : (first : ℕ) (pages : List StampedPage) (free : Token) → greatest_free first pages ≡ Some free → IsFreeAt first pages free
free-at first [] free is = absurd (none-some free is)
free-at first (p ∷ pages) free is = by is (free-at (first + 1) pages free)
  where
    here : is_free p.content ≡ true → Some (token first p.stamp) ≡ Some free → IsFreeAt first (p ∷ pages) free
    here empty is = record { place = 0; is = let same = ap (λ t. t.pid) (same_Some (token first p.stamp) free is) in omega (arith, same); page = p; at = refl; empty = empty }

    behind : IsFreeAt (first + 1) pages free → IsFreeAt first (p ∷ pages) free
    behind rest = record { place = suc rest.place; is = omega (arith, rest.is); page = rest.page; at = rest.at; empty = rest.empty }

    by : later_token (greatest_free (first + 1) pages) (free_token first p) ≡ Some free → (greatest_free (first + 1) pages ≡ Some free → IsFreeAt (first + 1) pages free) → IsFreeAt first (p ∷ pages) free
    by is others = grind (arith, here, behind)

not-free : (s : State) (free : Token) → greatest_free 0 s.pages ≡ Some free → (n : ℕ) → CountsTo (contents_of s) n → free.pid ≢ 1
not-free s free greatest n counts is = grind (arith, free-at 0 s.pages free greatest, map-at (λ (p : StampedPage). p.content) s.pages 1)

not-past : (s : State) (n : ℕ) → CountsTo (contents_of s) n → length s.pages ≢ 1
not-past s n counts is = omega (arith, slice_get_within (contents_of s) 1 (Counter n) counts, length-map s.pages (λ (p : StampedPage). p.content))

-- pages behind it leave the page
at-behind : (s : State) (more : List StampedPage) (n : ℕ) → CountsTo (contents_of s) n → slice_get (s.pages ++ more) 1 ≡ slice_get s.pages 1
at-behind s more n counts = by (slice_get s.pages 1) refl
  where
    by : (o : Option StampedPage) → slice_get s.pages 1 ≡ o → slice_get (s.pages ++ more) 1 ≡ slice_get s.pages 1
    by None none = absurd (none-some (Counter n) (sym (ap (option_map (λ (p : StampedPage). p.content)) none) ∙ sym (slice_get-map (λ (p : StampedPage). p.content) s.pages 1) ∙ counts))
    by (Some p) at = more-at s.pages more 1 p at ∙ sym at

-- the counter stands where its page is as it was
still-counts : (s t : State) (n : ℕ) → page_at t 1 ≡ page_at s 1 → CountsTo (contents_of s) n → CountsTo (contents_of t) n
still-counts s t n own counts = slice_get-map (λ (p : StampedPage). p.content) t.pages 1 ∙ ap (option_map (λ (p : StampedPage). p.content)) own ∙ sym (slice_get-map (λ (p : StampedPage). p.content) s.pages 1) ∙ counts

-- what a page holds, it holds again
spares-again : (s : State) (n pid : ℕ) (p : StampedPage) (content : Content) → page_at s pid ≡ Some p → p.content ≡ content → CountsTo (contents_of s) n → SparesCounter (Again n) (Change pid (Put content))
spares-again s n pid p content there is counts = elim (eqb_tells pid 1) [
  | inl same ↦ inr (ap (λ c. Put c) (sym is ∙ same_Some p.content (Counter n) (sym (map-at (λ (q : StampedPage). q.content) s.pages 1 p (sym (ap (page_at s) same.1) ∙ there)) ∙ counts)))
  | inr apart ↦ inl apart.1
]

-- ---- the calls that leave the counter and the batch alone

module _ (s : State) (out : Outcome) where
  stays : out ≡ no_change s → IsPlain s out
  stays is = subst (IsPlain s) (sym is) (Stays (record { next = refl; spares = λ n counts. tt; own = λ n counts. refl }) (record { batch = refl; changes = tt }))

  fails : out ≡ outcome (record s { fault = true }) [] → IsPlain s out
  fails is = subst (IsPlain s) (sym is) (Stays (record { next = refl; spares = λ n counts. tt; own = λ n counts. refl }) (record { batch = refl; changes = tt }))

  swaps-page : {R : Type 0} (old : Token) (rejected : R) (answer : Swapped R) (goes_on : Content → Type 0) → ((content : Content) → goes_on content → IsPlain s out)
      → (found : Option StampedPage) → SwapsPage s old rejected found answer out goes_on → IsPlain s out
  swaps-page old rejected answer goes_on plain None h = stays h.1
  swaps-page old rejected answer goes_on plain (Some found) h =
      split (is_free found.content) h (λ _ h. stays h.1) (λ _ h. split (found.stamp == old.stamp) h (λ _ h. plain found.content h) (λ _ h. stays h.1))

  swaps : {R : Type 0} (old : Token) (rejected : R) (answer : Swapped R) (goes_on : Content → Type 0)
      → Swaps s old rejected answer out goes_on → (old.pid ≢ 1 → (content : Content) → goes_on content → IsPlain s out) → IsPlain s out
  swaps old rejected answer goes_on step plain =
      split s.fault step (λ _ h. stays h.1) (λ _ h.
      split (is_reserved old.pid) h (λ _ h. stays h.1) (λ free h. swaps-page old rejected answer goes_on (plain (λ is. false≢true (sym free ∙ ap is_reserved is))) (page_at s old.pid) h))

  module _ (messages : ℕ → ℕ) (no_room : Event Update → Type 0) where
    -- a page is changed, which isn't the counter's
    changes : {T : Type 0} (id : ℕ) (update : Update) (answer : Result T Error) (work : T → State → Type 0) → ((n : ℕ) → CountsTo (contents_of s) n → id ≢ 1)
        → Does messages no_room s (Change id update) answer out work → ((value : T) → work value out.state → (pages : List StampedPage) × (out.state ≡ record s { pages = pages }) × ((n : ℕ) → CountsTo (contents_of s) n → slice_get pages 1 ≡ slice_get s.pages 1)) → IsPlain s out
    changes id update answer work other h leaves = grind (arith, stays, fails)

    allocates : (node : WholeNode) (answer : Result (ℕ × Token) Error) → Allocates messages no_room s node answer out → IsPlain s out
    allocates node answer step = grind (arith, stays, fails, changes, not-past, not-free, at-behind, other-at {A = StampedPage})

    swaps-content : {R : Type 0} (old : Token) (update : Update) (content : Content) (answer : Swapped R) → SwapsContent messages no_room s old update content answer out → old.pid ≢ 1 → IsPlain s out
    swaps-content old update content answer step other = grind (arith, stays, changes, other-at s.pages old.pid 1 (page (old.stamp + 1) content) (λ e. other (sym e)))

    links : (old : Token) (link : NodeLink) (answer : Swapped NodeLink) → Links messages no_room s old link answer out → IsPlain s out
    links old link answer step = swaps old link answer (LinksContent messages no_room s old link answer out) step (λ other content h. grind (arith, stays, fails, swaps-content))

  -- ---- a move: the content that is written again is the page's

  module _ {L : Type 0} (due : L → Due) (no_room_again : L → ℕ → Content → Type 0) (log : L) where
    changed : (pid : ℕ) (content : Content) (p : StampedPage) → page_at s pid ≡ Some p → p.content ≡ content → out.changes ≡ Change pid (Put content) ∷ [] → (out.state ≡ s) ⊎ (out.state ≡ record s { fault = true }) → IsPlain s out
    changed pid content p there is changes state =
        let next : out.state.next ≡ s.next = grind arith in
        let batch : out.state.batch ≡ s.batch = grind arith in
        let pages : out.state.pages ≡ s.pages = grind arith in
        Stays (record { next = next; spares = λ n counts. rw changes (spares-again s n pid p content there is counts, tt); own = λ n counts. ap (λ (l : List StampedPage). slice_get l 1) pages })
        (record { batch = batch; changes = rw changes (tt, tt) })

    again : (pid : ℕ) (content : Content) (p : StampedPage) (answer : Result Bool Error) → page_at s pid ≡ Some p → p.content ≡ content → WritesAgain due no_room_again log s pid content answer out → IsPlain s out
    again pid content p answer there is h = grind (arith, stays, fails, changed)

    tidies : (answer : Result Bool Error) → Tidies due no_room_again log s answer out → IsPlain s out
    tidies answer step = grind (arith, stays, fails, again)

-- ---- a swap with the move behind it

module _ {L : Type 0} (due : L → Due) (no_room_again : L → ℕ → Content → Type 0) (Behind : List (Event Update) → L → Type 0) (s : State) (swap out : Outcome) where
  -- both are plain, one after the other
  both : (move : Outcome) → IsPlain s swap → IsPlain swap.state move → out ≡ outcome move.state (swap.changes ++ move.changes) → IsPlain s out
  both move (Stays first inside) (Stays second inside_then) is =
      let still : (n : ℕ) → CountsTo (contents_of s) n → CountsTo (contents_of swap.state) n = λ n counts. still-counts s swap.state n (first.own n counts) counts in
      subst (IsPlain s) (sym is) (Stays
      (record {
        next = second.next ∙ first.next;
        spares = λ n counts. all-append _ swap.changes move.changes (first.spares n counts) (second.spares n (still n counts));
        own = λ n counts. second.own n (still n counts) ∙ first.own n counts;
      })
      (record { batch = inside_then.batch ∙ inside.batch; changes = all-append _ swap.changes move.changes inside.changes inside_then.changes }))

  behind : IsPlain s swap → TidiesBehind due no_room_again Behind swap out → IsPlain s out
  behind plain h = both h.move plain (tidies swap.state h.move due no_room_again h.mid h.answer h.tidies) h.is

  pub if-swapped : {R : Type 0} (answer : Swapped R) → IsPlain s swap → TidiesIfSwapped due no_room_again Behind answer swap out → IsPlain s out
  if-swapped (Ok (Ok made)) plain h = behind plain h
  if-swapped (Ok (Err back)) plain h = subst (IsPlain s) (sym h) plain
  if-swapped (Err e) plain h = subst (IsPlain s) (sym h) plain

module _ (s : State) (out : Outcome) (call : Call) where
  as-it-was : out ≡ no_change s → Form s call [] out
  as-it-was is = Plain refl (stays s out is)

  faulty : out ≡ outcome (record s { fault = true }) [] → Form s call [] out
  faulty is = Plain refl (fails s out is)

-- ---- the marks of batches, and ids

module _ (s : State) (out : Outcome) (call : Call) where
  module _ (leaves : s.batch ≡ true → ClosesNone call → ⊥) where
    marks : (mark : Event Update) → ((n : ℕ) → SparesCounter (Again n) mark) → out.changes ≡ mark ∷ [] → out.state.next ≡ s.next → page_at out.state 1 ≡ page_at s 1 → Form s call [] out
    marks mark spares is next own = Marks refl (record { next = next; own = λ n counts. own; spares = λ n counts. subst (Spare n) (sym is) (spares n, tt) }) leaves

  module _ (messages : ℕ → ℕ) (no_room : Event Update → Type 0) where
    refused : (answer : Result ℕ Error) {e : Error} → IsRefused s answer out e → Form s call (id_in (Generated answer)) out
    refused answer h1 = grind arith

    module _ (p : StampedPage) (old new : ℕ) (there : page_at s 1 ≡ Some p) (is : p.content ≡ Counter old) (up : old ≤ new) where
      raised : (ids : List ℕ) → out.changes ≡ Change 1 (Put (Counter new)) ∷ []
          → ((ids ≡ []) × (out.state ≡ record s { fault = true })) ⊎ ((ids ≡ s.next ∷ []) × (s.fault ≡ false) × (out.state ≡ with_next_id (with_page s 1 (page (p.stamp + 1) (Counter new))))) → Form s call ids out
      raised ids changes end =
          Raises (record { stamp = p.stamp; old = old; new = new; counts = map-at (λ (q : StampedPage). q.content) s.pages 1 p there ∙ ap Some is; up = up; stands = (p, there, refl); changes = changes; end = end })

    puts : (p : StampedPage) (old new : ℕ) (answer : Result ℕ Error) → page_at s 1 ≡ Some p → p.content ≡ Counter old → old ≤ new → s.fault ≡ false
        → Does messages no_room s (Change 1 (Put (Counter new))) answer out (λ id t. (id ≡ s.next) × (t ≡ with_next_id (with_page s 1 (page (p.stamp + 1) (Counter new))))) → Form s call (id_in (Generated answer)) out
    puts p old new answer there is up clear h = grind (arith, refused, as-it-was s out call, faulty s out call, raised p old new there is up)

    next : s.fault ≡ false → (answer : Result ℕ Error) → answer ≡ Ok s.next → out ≡ no_change (with_next_id s) → Form s call (id_in (Generated answer)) out
    next clear answer is then = subst (λ a. Form s call (id_in (Generated a)) out) (sym is) (Next clear refl then)

    generates : (interval : ℕ) (answer : Result ℕ Error) → Generates messages no_room interval s answer out → Form s call (id_in (Generated answer)) out
    generates interval answer step =
        split s.fault step (λ _ h. refused answer h) (λ clear h.
        split (nat_lt (2 ^ 64 - 1) s.next) h (λ _ h. refused answer h) (λ _ h. counter-read s _ h (λ p n there is h.
        split (nat_lt (interval_start interval n) (interval_start interval s.next)) h (λ lt h.
        split s.batch h (λ _ h. refused answer h) (λ _ h.
        split (p.stamp == 2 ^ 64 - 1) h (λ _ h. refused answer h) (λ _ h. puts p n (interval_start interval s.next) answer there is (start-above interval n s.next (ltb-true _ _ lt)) clear h)))
        (λ _ h. next clear answer h.0 h.1))))

-- ---- each call

module _ {L : Type 0} (g : Ghosts L) (cache : Cache L) (s : State) where
  abbrev lengths : ℕ → ℕ
  lengths = chain_length g.state cache

  abbrev no_room : Event Update → Type 0
  no_room = HasNoRoom g cache.log

  pub call-form : (call : Call) (answer : Answer) (out : Outcome) → StepOver g cache s call answer out → Form s call (id_in answer) out
  call-form (Allocate node) (Allocated answer) out step = Plain refl (allocates s out lengths no_room node answer step)
  call-form (Get pid) (Got answer) out step = grind (arith, as-it-was s out (Get pid), faulty s out (Get pid))
  call-form (call.Link old link) (Linked answer) out (swap, act, behind) = Plain refl (by (nat_lt (lengths old.pid) most_messages) behind)
    where
      plain : IsPlain s swap
      plain = links s swap lengths no_room old link answer act

      by : (joins : Bool) → MatchBool joins (out ≡ swap) (TidiesIfSwapped (due_in g cache.config) (HasNoRoomAgain g) (IsBehind g cache.log) answer swap out) → IsPlain s out
      by true is = subst (IsPlain s) (sym is) plain
      by false is = if-swapped (due_in g cache.config) (HasNoRoomAgain g) (IsBehind g cache.log) s swap out answer plain is
  call-form (Replace old node) (Replaced answer) out (swap, act, behind) =
      Plain refl (if-swapped (due_in g cache.config) (HasNoRoomAgain g) (IsBehind g cache.log) s swap out answer
      (swaps s swap old node answer _ act (λ other content h. swaps-content s swap lengths no_room old (Put (Node node)) (Node node) answer h other)) behind)
  call-form (call.Free old) (Freed answer) out step =
      Plain refl (swaps s out old tt answer _ step (λ other content h. swaps-content s out lengths no_room old (Put Free) Free answer h other))
  call-form GetMeta (GotMeta answer) out step = grind (arith, as-it-was s out GetMeta)
  call-form (MetaPidForName name) (FoundRoot answer) out step = grind (arith, as-it-was s out (MetaPidForName name))
  call-form (CasRoot name old new) (RootSwapped answer) out step =
      Plain refl (grind (arith, stays s out, fails s out, changes s out lengths no_room, other-at))
  call-form GetIdgen (GotIdgen answer) out step = grind (arith, as-it-was s out GetIdgen)
  call-form GenerateId (Generated answer) out step = generates s out GenerateId lengths no_room cache.config.idgen_persist_interval answer step
  call-form Flush (Flushed answer) out step = grind (arith, as-it-was s out Flush, faulty s out Flush)
  call-form SizeOnDisk (Sized answer) out step = grind (arith, as-it-was s out SizeOnDisk)
  call-form SpaceAmplification (Amplified answer) out step = grind (arith, as-it-was s out SpaceAmplification, faulty s out SpaceAmplification)
  call-form TakeFuzzySnapshot (TookSnapshot answer) out step = grind (arith, as-it-was s out TakeFuzzySnapshot)
  call-form call.Pin (Pinned answer) out step = grind (arith, as-it-was s out call.Pin, faulty s out call.Pin, marks s out call.Pin)
  call-form call.Seal (Sealed answer) out step = grind (arith, marks s out call.Seal)
  call-form call.Cancel (Cancelled answer) out step = grind (arith, marks s out call.Cancel)
  call-form AttemptGc (AttemptedGc answer) out step = Plain refl (tidies s out (due_in g cache.config) (HasNoRoomAgain g) cache.log answer step)
  call-form asked answer out step = absurd step

  -- a call inside a batch, which doesn't close it
  pub call-inside : s.batch ≡ true → (call : Call) (answer : Answer) (out : Outcome) → ClosesNone call → StepOver g cache s call answer out → IsInside s out
  call-inside opened call answer out none step = grind (arith, call-form call answer out step)
