-- The calls of a book, made of a cache that had its opening shape, are steps of the machine from a state of that shape.
use Rattle.std.proofs.Common.{◌≡◌, ◌==◌, ◌⊎◌, inl, inr, ℕ, ◌-◌, ◌^◌, Bool, true, false, MatchBool, MatchOption, List, [], ◌∷◌, ◌++◌, length, map, Option, None, Some, Result, Ok, Err, refl, sym, ◌∙◌, ap, subst, arith, ◌<◌}
use Rattle.std.proofs.lemmas.Bool.{false≢true}
use Rattle.std.specs.Prelude.{nat_lt, ◌≢◌}
use Rattle.sled_base.specs.Order.{Bytes}
use Rattle.sled_base.specs.declared.types.Device.TheVariants.{Write}
use Rattle.sled_base.specs.declared.types.Error.{Error}
use Rattle.sled_base.specs.declared.types.Error.TheVariants as error
use Rattle.sled_base.specs.declared.types.Why.TheVariants.{LogFull}
use Rattle.sled_log.specs.Contents.{Content, Free, Counter, Roots, Node, Damaged, Update, Put}
use Rattle.sled_log.specs.Events.{Event, Change, Pin}
use Rattle.sled_log.specs.declared.log.Log.{Ghosts}
use Rattle.sled_node.specs.Links.{applied}
use Rattle.sled_node.specs.Meta as meta
use Rattle.sled_node.specs.Node.{WholeNode}
use Rattle.sled_node.specs.declared.node.link.Link.{Link as NodeLink}
use Rattle.sled_pagecache.specs.Cache.{Cache, chain_length, Represents}
use Rattle.sled_pagecache.specs.Calls.{HasNoRoom, HasNoRoomAgain, IsBehind}
use Rattle.sled_pagecache.specs.Due.{due_in}
use Rattle.sled_pagecache.specs.Limits.{most_messages}
use Rattle.sled_pagecache.specs.Step.{link_update}
use Rattle.sled_pagecache.specs.Logged.{Logged}
use Rattle.sled_pagecache.specs.Rows.{AreMade}
use Rattle.sled_pagecache.specs.Shapes.{Shape, Shows, shape_of, shape_of_page, kind_of}
use Rattle.sled_pagecache.specs.State.{StampedPage, State, page, page_at, is_free, greatest_free}
use Rattle.sled_pagecache.specs.Step.{Due, Nothing, Outdated, Page as IsDue, Moves, MovesContent, MovesPage, WritesAgain, AddsPage, Allocates, Does, Fails, Frees, Generates, HoldsCounter, HoldsRoots, IsCounterAnd, AreRoots, Links, LinksContent, Outcome, Pins, PutsCounter, PutsRoots, Replaces, ReusesPage, RootSwap, SetsRoot, Step, Swapped, Swaps, SwapsContent, SwapsPage, SwapsRoot, TidiesIfSwapped, interval_start, is_reserved, no_change, with_next_id}
use Rattle.sled_pagecache.specs.State.{Token}
use Rattle.sled_pagecache.specs.Trees.{IsKnown, MadeCalls}
use Rattle.sled_pagecache.specs.declared.pagecache.handles.call.Answer.{Answer}
use Rattle.sled_pagecache.specs.declared.pagecache.handles.call.Answer.TheVariants.{Allocated, Got, Linked, Replaced, Freed, GotMeta, GotIdgen, Generated, Flushed, Sized, Amplified, TookSnapshot, FoundRoot, RootSwapped, Pinned, Sealed, Cancelled, AttemptedGc}
use Rattle.sled_pagecache.specs.declared.pagecache.handles.call.Call.{Call}
use Rattle.sled_pagecache.specs.declared.pagecache.handles.call.Call.TheVariants.{Allocate, Get, Link, Replace, GetMeta, GetIdgen, GenerateId, Flush, SizeOnDisk, SpaceAmplification, TakeFuzzySnapshot, MetaPidForName, CasRoot, AttemptGc}
use Rattle.sled_pagecache.specs.declared.pagecache.handles.call.Call.TheVariants as call
use Rattle.sled_pagecache.specs.declared.pagecache.handles.config.Config.{Config}
use Rattle.sled_pagecache.specs.declared.pagecache.handles.shape.Kind.{Kind}
use Rattle.sled_pagecache.specs.declared.pagecache.handles.shape.Kind.TheVariants as kinds
use Rattle.sled_pagecache.specs.declared.pagecache.handles.shape.PageShape.{PageShape}
use Rattle.sled_shared.proofs.Ids.{book_rises}
use Rattle.sled_shared.specs.Book.{Book, AreEntries, AreRounds, RisesWithin, any_behind, any_room, any_room_again, book, ids_of, RunsCalls, Runs}
use Rattle.sled_shared.specs.Calls.{Entry}
use Rattle.sled_shared.specs.Held.{EndsBefore, Held, IsBookOf, IsSound, ReplaysIn, calls_of, held}

-- ---- a step over a log is one over a log that may have room for nothing

pub both : {A B C D : Type 0} (test : Bool) → (A → C) → (B → D) → MatchBool test A B → MatchBool test C D
both true f k h = f h
both false f k h = k h

module _ (messages : ℕ → ℕ) (no_room : Event Update → Type 0) where
  fails : (s : State) (change : Event Update) (e : Error) (out : Outcome) → Fails messages no_room s change e out → Fails messages any_room s change e out
  fails s change (error.Unsupported LogFull) out h = (tt, h.1)
  fails s change (error.Io Write) out h = h
  fails s change e out h = h

  does : {T : Type 0} (s : State) (change : Event Update) (answer : Result T Error) (out : Outcome) (work : T → State → Type 0) → Does messages no_room s change answer out work → Does messages any_room s change answer out work
  does s change (Ok value) out work h = h
  does s change (Err e) out work h = fails s change e out h

  allocates : (s : State) (node : WholeNode) (answer : Result (ℕ × Token) Error) (out : Outcome) → Allocates messages no_room s node answer out → Allocates messages any_room s node answer out
  allocates s node answer out = both s.fault (λ h. h) (by (greatest_free 0 s.pages))
    where
      by : (free : Option Token) → MatchOption free (AddsPage messages no_room s node answer out) (λ free. ReusesPage messages no_room s node free answer out)
          → MatchOption free (AddsPage messages any_room s node answer out) (λ free. ReusesPage messages any_room s node free answer out)
      by None h = both (length s.pages == 2 ^ 37) (λ h. h) (does s (Change (length s.pages) (Put (Node node))) answer out _) h
      by (Some free) h = both (free.stamp == 2 ^ 64 - 1) (λ h. h) (does s (Change free.pid (Put (Node node))) answer out _) h

  swaps : {R : Type 0} (s : State) (old : Token) (rejected : R) (answer : Swapped R) (out : Outcome) (goes goes_on : Content → Type 0) → ((content : Content) → goes content → goes_on content)
      → Swaps s old rejected answer out goes → Swaps s old rejected answer out goes_on
  swaps {R} s old rejected answer out goes goes_on f = both s.fault (λ h. h) (both (is_reserved old.pid) (λ h. h) (by (page_at s old.pid)))
    where
      by : (found : Option StampedPage) → SwapsPage s old rejected found answer out goes → SwapsPage s old rejected found answer out goes_on
      by None h = h
      by (Some found) h = both (is_free found.content) (λ h. h) (both (found.stamp == old.stamp) (f found.content) (λ h. h)) h

  swaps-content : {R : Type 0} (s : State) (old : Token) (update : Update) (content : Content) (answer : Swapped R) (out : Outcome)
      → SwapsContent messages no_room s old update content answer out → SwapsContent messages any_room s old update content answer out
  swaps-content s old update content answer out = both (old.stamp == 2 ^ 64 - 1) (λ h. h) (does s (Change old.pid update) answer out _)

  links : (s : State) (old : Token) (link : NodeLink) (answer : Swapped NodeLink) (out : Outcome) → Links messages no_room s old link answer out → Links messages any_room s old link answer out
  links s old link answer out = swaps s old link answer out _ _ by
    where
      by : (content : Content) → LinksContent messages no_room s old link answer out content → LinksContent messages any_room s old link answer out content
      by (Node node) (inl h) = inl h
      by (Node node) (inr (inl h)) = inr (inl h)
      by (Node node) (inr (inr h)) = inr (inr (h.0, swaps-content s old (link_update (messages old.pid) link (applied link node)) (Node (applied link node)) answer out h.1))
      by Free h = h
      by (Counter n) h = h
      by (Roots roots) h = h
      by Damaged h = h

  replaces : (s : State) (old : Token) (node : WholeNode) (answer : Swapped WholeNode) (out : Outcome) → Replaces messages no_room s old node answer out → Replaces messages any_room s old node answer out
  replaces s old node answer out = swaps s old node answer out _ _ (λ content. swaps-content s old (Put (Node node)) (Node node) answer out)

  frees : (s : State) (old : Token) (answer : Swapped (Unit {0})) (out : Outcome) → Frees messages no_room s old answer out → Frees messages any_room s old answer out
  frees s old answer out = swaps s old tt answer out _ _ (λ content. swaps-content s old (Put Free) Free answer out)

  puts-roots : (s : State) (stamp : ℕ) (roots : meta.Roots) (answer : RootSwap) (out : Outcome) → PutsRoots messages no_room s stamp roots answer out → PutsRoots messages any_room s stamp roots answer out
  puts-roots s stamp roots answer out = both (stamp == 2 ^ 64 - 1) (λ h. h) (does s (Change 0 (Put (Roots roots))) answer out _)

  swaps-root : (s : State) (name : Bytes) (old new : Option ℕ) (answer : RootSwap) (out : Outcome) → SwapsRoot messages no_room s name old new answer out → SwapsRoot messages any_room s name old new answer out
  swaps-root s name old new answer out = both s.fault (λ h. h) (finds (page_at s 0))
    where
      Goes : ℕ → meta.Roots → Type 0
      Goes stamp roots = ((meta.root_of name roots ≢ old) × (answer ≡ Ok (Err (meta.root_of name roots))) × (out ≡ no_change s)) ⊎ ((meta.root_of name roots ≡ old) × SetsRoot messages no_room s stamp name new roots answer out)

      On : ℕ → meta.Roots → Type 0
      On stamp roots = ((meta.root_of name roots ≢ old) × (answer ≡ Ok (Err (meta.root_of name roots))) × (out ≡ no_change s)) ⊎ ((meta.root_of name roots ≡ old) × SetsRoot messages any_room s stamp name new roots answer out)

      goes : (stamp : ℕ) (roots : meta.Roots) → Goes stamp roots → On stamp roots
      goes stamp roots (inl h) = inl h
      goes stamp roots (inr (same, inl h)) = inr (same, inl h)
      goes stamp roots (inr (same, inr (inl h))) = inr (same, inr (inl h))
      goes stamp roots (inr (same, inr (inr h))) = inr (same, inr (inr (h.0, puts-roots s stamp (meta.changed_roots name new roots) answer out h.1)))

      by : (stamp : ℕ) (content : Content) → AreRoots content (λ roots. Goes stamp roots) → AreRoots content (λ roots. On stamp roots)
      by stamp (Roots roots) h = goes stamp roots h
      by stamp other h = absurd h

      finds : (found : Option StampedPage) → HoldsRoots found Goes → HoldsRoots found On
      finds None h = h
      finds (Some found) h = by found.stamp found.content h

  generates : (interval : ℕ) (s : State) (answer : Result ℕ Error) (out : Outcome) → Generates messages no_room interval s answer out → Generates messages any_room interval s answer out
  generates interval s answer out = both s.fault (λ h. h) (both (nat_lt (2 ^ 64 - 1) s.next) (λ h. h) (finds (page_at s 1)))
    where
      Goes : ℕ → ℕ → Type 0
      Goes stamp n = MatchBool (nat_lt (interval_start interval n) (interval_start interval s.next)) (PutsCounter messages no_room s stamp (interval_start interval s.next) answer out) ((answer ≡ Ok s.next) × (out ≡ no_change (with_next_id s)))

      On : ℕ → ℕ → Type 0
      On stamp n = MatchBool (nat_lt (interval_start interval n) (interval_start interval s.next)) (PutsCounter messages any_room s stamp (interval_start interval s.next) answer out) ((answer ≡ Ok s.next) × (out ≡ no_change (with_next_id s)))

      goes : (stamp n : ℕ) → Goes stamp n → On stamp n
      goes stamp n = both (nat_lt (interval_start interval n) (interval_start interval s.next)) (both s.batch (λ h. h) (both (stamp == 2 ^ 64 - 1) (λ h. h) (does s (Change 1 (Put (Counter (interval_start interval s.next)))) answer out _))) (λ h. h)

      by : (stamp : ℕ) (content : Content) → IsCounterAnd content (λ n. Goes stamp n) → IsCounterAnd content (λ n. On stamp n)
      by stamp (Counter n) h = goes stamp n h
      by stamp other h = absurd h

      finds : (found : Option StampedPage) → HoldsCounter found Goes → HoldsCounter found On
      finds None h = h
      finds (Some found) h = by found.stamp found.content h

  pins : (s : State) (answer : Result (Unit {0}) Error) (out : Outcome) → Pins messages no_room s answer out → Pins messages any_room s answer out
  pins s answer out = both s.fault (λ h. h) (both s.batch (λ h. h) (does s Pin answer out _))

  module _ {L : Type 0} (due : L → Due) (no_room_again : L → ℕ → Content → Type 0) (l : L) where
    again : (s : State) (pid : ℕ) (content : Content) (answer : Result Bool Error) (out : Outcome) → WritesAgain due no_room_again l s pid content answer out → WritesAgain (λ due. due) any_room_again (due l) s pid content answer out
    again s pid content answer out (inl h) = inl h
    again s pid content (Ok moved) out (inr h) = inr h
    again s pid content (Err (error.Unsupported LogFull)) out (inr h) = inr (tt, h.1)
    again s pid content (Err (error.Io device)) out (inr h) = inr h
    again s pid content (Err e) out (inr h) = inr h

    moves : (of : Due) (s : State) (answer : Result Bool Error) (out : Outcome) → Moves due no_room_again l s of answer out → Moves (λ due. due) any_room_again (due l) s of answer out
    moves Nothing s answer out h = h
    moves Outdated s answer out h = h
    moves (IsDue pid) s answer out h = by (page_at s pid) h
      where
        of_content : (content : Content) → MovesContent due no_room_again l s pid content answer out → MovesContent (λ due. due) any_room_again (due l) s pid content answer out
        of_content Damaged (inl h) = inl h
        of_content Damaged (inr h) = inr (again s pid Damaged answer out h)
        of_content Free h = again s pid Free answer out h
        of_content (Counter n) h = again s pid (Counter n) answer out h
        of_content (Roots roots) h = again s pid (Roots roots) answer out h
        of_content (Node node) h = again s pid (Node node) answer out h

        by : (found : Option StampedPage) → MovesPage due no_room_again l s pid found answer out → MovesPage (λ due. due) any_room_again (due l) s pid found answer out
        by None h = h
        by (Some found) h = of_content found.content h

  module _ {L : Type 0} (due : L → Due) (no_room_again : L → ℕ → Content → Type 0) (Behind : List (Event Update) → L → Type 0) where
    tidies : {R : Type 0} (answer : Swapped R) (swap out : Outcome) → TidiesIfSwapped due no_room_again Behind answer swap out → TidiesIfSwapped (λ due. due) any_room_again any_behind answer swap out
    tidies (Ok (Ok made)) swap out h = record {
      mid = due h.mid;
      behind = tt;
      answer = h.answer;
      move = h.move;
      tidies = both swap.state.fault (λ h. h) (moves due no_room_again h.mid (due h.mid) swap.state h.answer h.move) h.tidies;
      is = h.is;
    }
    tidies (Ok (Err back)) swap out is = is
    tidies (Err e) swap out is = is

  module _ {L : Type 0} (due : L → Due) (no_room_again : L → ℕ → Content → Type 0) (l : L) (Behind : List (Event Update) → L → Type 0) where
    pub whatever-room : (interval segment_size : ℕ) (s : State) (asked : Call) (answer : Answer) (out : Outcome) → Step due no_room_again messages no_room interval segment_size l Behind s asked answer out
        → Step (λ due. due) any_room_again messages any_room interval segment_size (due l) any_behind s asked answer out
    whatever-room interval segment_size s (Allocate node) (Allocated answer) out h = allocates s node answer out h
    whatever-room interval segment_size s (Get pid) (Got answer) out h = h
    whatever-room interval segment_size s (Link old link) (Linked answer) out (swap, act, ends) =
        (swap, links s old link answer swap act, both (nat_lt (messages old.pid) most_messages) (λ is. is) (tidies due no_room_again Behind answer swap out) ends)
    whatever-room interval segment_size s (Replace old node) (Replaced answer) out (swap, act, ends) = (swap, replaces s old node answer swap act, tidies due no_room_again Behind answer swap out ends)
    whatever-room interval segment_size s (call.Free old) (Freed answer) out h = frees s old answer out h
    whatever-room interval segment_size s GetMeta (GotMeta answer) out h = h
    whatever-room interval segment_size s (MetaPidForName name) (FoundRoot answer) out h = h
    whatever-room interval segment_size s (CasRoot name old new) (RootSwapped answer) out h = swaps-root s name old new answer out h
    whatever-room interval segment_size s GetIdgen (GotIdgen answer) out h = h
    whatever-room interval segment_size s GenerateId (Generated answer) out h = generates interval s answer out h
    whatever-room interval segment_size s Flush (Flushed answer) out h = h
    whatever-room interval segment_size s SizeOnDisk (Sized answer) out h = h
    whatever-room interval segment_size s SpaceAmplification (Amplified answer) out h = h
    whatever-room interval segment_size s TakeFuzzySnapshot (TookSnapshot answer) out h = h
    whatever-room interval segment_size s call.Pin (Pinned answer) out h = pins s answer out h
    whatever-room interval segment_size s call.Seal (Sealed answer) out h = h
    whatever-room interval segment_size s call.Cancel (Cancelled answer) out h = h
    whatever-room interval segment_size s AttemptGc (AttemptedGc answer) out h = both s.fault (λ h. h) (moves due no_room_again l (due l) s answer out) h
    whatever-room interval segment_size s asked answer out h = absurd h

-- ---- a state of a shape

abbrev content_of : Kind → Content
content_of kinds.Free = Free
content_of kinds.Counter = Counter 0
content_of kinds.Roots = Roots []
content_of kinds.Node = Damaged

kind-back : (kind : Kind) → kind_of (content_of kind) ≡ kind
kind-back kinds.Free = refl
kind-back kinds.Counter = refl
kind-back kinds.Roots = refl
kind-back kinds.Node = refl

abbrev page_of : PageShape → StampedPage
page_of shape = page shape.stamp (content_of shape.kind)

abbrev state_of : Shape → State
state_of shape = record { pages = map page_of shape.pages; next = shape.next; batch = false; fault = shape.fault }

page-back : (shape : PageShape) → shape_of_page (page_of shape) ≡ shape
page-back shape =
    let made : Kind → PageShape = λ kind. record { stamp = shape.stamp; kind = kind } in
    ap made (kind-back shape.kind)

pages-back : (shapes : List PageShape) → map shape_of_page (map page_of shapes) ≡ shapes
pages-back [] = refl
pages-back (shape ∷ shapes) =
    let made : PageShape → List PageShape → List PageShape = λ x xs. x ∷ xs in
    ap (λ x. made x (map shape_of_page (map page_of shapes))) (page-back shape) ∙ ap (made shape) (pages-back shapes)

shape-back : (shape : Shape) → shape_of (state_of shape) ≡ shape
shape-back shape =
    let made : List PageShape → Shape = λ pages. record { pages = pages; next = shape.next; fault = shape.fault } in
    ap made (pages-back shape.pages)

stamps-back : (shapes : List PageShape) → map (λ (p : StampedPage). p.stamp) (map page_of shapes) ≡ map (λ (p : PageShape). p.stamp) shapes
stamps-back [] = refl
stamps-back (shape ∷ shapes) = ap (λ (l : List ℕ). shape.stamp ∷ l) (stamps-back shapes)

-- ---- calls that were made run

module _ {L : Type 0} (g : Ghosts L) where
  -- From a state in which the cache is they lead to one in which it is then.
  record RunTo (interval : ℕ) (Run : State → Type 0) (old new : Cache L) : Type 0 where
    at : Logged
    last : State
    is : Represents g new at last
    run : Run last
    config : new.config ≡ old.config

  calls-run : (old new : Cache L) (calls : MadeCalls) (held : Logged) (s : State) → AreMade g old calls new → Represents g old held s
      → RunTo old.config.idgen_persist_interval (RunsCalls old.config.idgen_persist_interval s calls) old new
  calls-run old new [] held s same is = record { at = held; last = s; is = subst (λ cache. Represents g cache held s) (sym same) is; run = refl; config = ap (λ (cache : Cache L). cache.config) same }
  calls-run old new (made ∷ calls) held s (mid, first, others) is =
      let one = first.step.from_each held s is in
      let rest = calls-run mid new calls one.held_then one.out.state others one.is in
      let config = first.step.opening.config in
      record {
        at = rest.at;
        last = rest.last;
        is = rest.is;
        run = (
          one.out.state,
          (chain_length g.state old, old.config.segment_size, due_in g old.config old.log, one.out, whatever-room (chain_length g.state old) (HasNoRoom g old.log) (due_in g old.config) (HasNoRoomAgain g) old.log (IsBehind g old.log) old.config.idgen_persist_interval old.config.segment_size s made.0 made.1 one.out one.step, refl),
          subst (λ (c : Config). RunsCalls c.idgen_persist_interval one.out.state calls rest.last) config rest.run,
        );
        config = rest.config ∙ config;
      }

  made-split : (old new : Cache L) (calls others : MadeCalls) → AreMade g old (calls ++ others) new → (mid : Cache L) × AreMade g old calls mid × AreMade g mid others new
  made-split old new [] others made = (old, refl, made)
  made-split old new (call ∷ calls) others (next, first, made) =
      let rest = made-split next new calls others made in
      (rest.0, (next, first, rest.1), rest.2)

  entries-run : (old new : Cache L) (entries : List Entry) (calls : MadeCalls) (held : Logged) (s : State) → AreEntries entries calls → AreMade g old calls new → Represents g old held s
      → RunTo old.config.idgen_persist_interval (Runs old.config.idgen_persist_interval s entries) old new
  entries-run old new [] calls held s none made is =
      let same : new ≡ old = subst (λ (l : MadeCalls). AreMade g old l new) none made in
      record { at = held; last = s; is = subst (λ cache. Represents g cache held s) (sym same) is; run = refl; config = ap (λ (cache : Cache L). cache.config) same }
  entries-run old new (e ∷ entries) calls held s (first, rest, entered, are, others) made is =
      let parts = made-split old new first rest (subst (λ (l : MadeCalls). AreMade g old l new) are made) in
      let one = calls-run old parts.0 first held s parts.1 is in
      let more = entries-run parts.0 new entries rest one.at one.last others parts.2 one.is in
      record {
        at = more.at;
        last = more.last;
        is = more.is;
        run = (first, one.last, entered, one.run, subst (λ (c : Config). Runs c.idgen_persist_interval one.last entries more.last) one.config more.run);
        config = more.config ∙ one.config;
      }

  -- what was known of a cache is known of what its calls leave
  pub known-then : (old new : Cache L) (calls : MadeCalls) → AreMade g old calls new → IsKnown g old → IsKnown g new
  known-then old new calls made (held, s, is) = let run = calls-run old new calls held s made is in (run.at, run.last, run.is)

  -- ---- so the book replays

  module _ (known : Type 0) (b : Book) (cache : Cache L) (of : IsBookOf g known b cache) where
    replays-from : (held : Logged) (s : State) → Represents g of.opened held s → shape_of s ≡ b.opening → ReplaysIn g b cache
    replays-from held s is shape =
        let run = entries-run of.opened cache b.entries of.calls held s of.are of.made is in
        (run.at, run.last, run.is, (s, shape, is.batch ∙ of.closed, subst (λ (c : Config). Runs c.idgen_persist_interval s b.entries run.last) (sym run.config) run.run))

    -- Behind a write error nothing is known of what the pages hold, so any state of the shape will do.
    is-shaped : g.tells → of.opened.fault ≡ true → Represents g of.opened (record { stable = []; pending = [] }) (state_of b.opening)
    is-shaped tells kept = record {
      tells = tells;
      stamps = stamps-back b.opening.pages ∙ of.shows.stamps;
      next = of.shows.next;
      fault = of.shows.fault;
      batch = sym of.closed;
      known = λ clear. absurd (false≢true (sym clear ∙ (of.shows.fault ∙ kept)));
    }

    replays-by : (fault : Bool) → of.opened.fault ≡ fault → known → g.tells → ReplaysIn g b cache
    replays-by false clear k tells =
        let (held, s, is) = of.state k tells in
        replays-from held s is (of.shows.is held s is (is.fault ∙ clear))
    replays-by true kept k tells = replays-from (record { stable = []; pending = [] }) (state_of b.opening) (is-shaped tells kept) (shape-back b.opening)

    pub replays : known → g.tells → ReplaysIn g b cache
    replays = replays-by of.opened.fault refl

    -- and the next one begins with what is known
    pub known-now : known → g.tells → IsKnown g cache
    known-now k tells = known-then of.opened cache of.calls of.made (of.state k tells)

    -- and opens in the shape in which this one ends
    pub ends-before : (next : Book) → Shows g cache next.opening → known → g.tells → EndsBefore g b cache next
    ends-before next shows k tells =
        let (at, last, is, replay) = replays k tells in
        (at, last, is, replay, record { stamps = shows.stamps ∙ sym is.stamps; next = shows.next ∙ sym is.next; fault = shows.fault ∙ sym is.fault; is = shows.is at last is })

    pub ids-rise : (next : Book) → Shows g cache next.opening → known → g.tells → RisesWithin b.opening.next (ids_of b) next.opening.next
    ids-rise next shows k tells =
        let (at, last, is, replay) = replays k tells in
        subst (RisesWithin b.opening.next (ids_of b)) (is.next ∙ sym shows.next) (book_rises cache.config.idgen_persist_interval b last replay)

  -- ---- a new round

  module _ (known : Type 0) {h : Held L} {total parts amount all : ℕ} (s : IsSound g known h total parts amount all) where
    pub sound-anew : (opening : Shape) (earlier : ℕ) (entries : List Entry) → Shows g h.cache opening → earlier ≡ calls_of h.book → entries ≡ [] → IsSound g known (held h.cache (book earlier opening entries) h.limit h.given h.left) total parts amount all
    sound-anew opening earlier entries shows same none =
        let counted = s.counted in
        let fits = s.fits in
        let empty : length entries ≡ 0 = ap (λ (l : List Entry). length l) none in
        record {
          of = record { opened = h.cache; shows = shows; closed = s.closed; state = known-now known h.book h.cache s.of; calls = []; are = subst (λ (l : List Entry). AreEntries l []) (sym none) refl; made = refl };
          closed = s.closed;
          counted = omega arith;
          fits = omega arith;
          left = s.left;
          idle = s.idle;
          some = s.some;
          whole = s.whole;
          bounded = s.bounded;
        }

  -- and the first one
  pub sound-first : (known : Type 0) (cache : Cache L) (opening : Shape) (entries : List Entry) (limit parts total left amount all : ℕ) → Shows g cache opening → cache.batch ≡ false → (known → g.tells → IsKnown g cache) → entries ≡ []
      → total ≡ 0 → left ≡ parts → amount ≡ 0 → 0 < parts → all ≡ parts → parts < 2 ^ 64 → IsSound g known (held cache (book 0 opening entries) limit 0 parts) total left amount all
  sound-first known cache opening entries limit parts total left amount all shows closed state none zero rest idle some whole fits =
      let empty : length entries ≡ 0 = ap (λ (l : List Entry). length l) none in
      record {
        of = record { opened = cache; shows = shows; closed = closed; state = state; calls = []; are = subst (λ (l : List Entry). AreEntries l []) (sym none) refl; made = refl };
        closed = closed;
        counted = omega arith;
        fits = omega arith;
        left = rest;
        idle = idle;
        some = some;
        whole = omega arith;
        bounded = omega arith;
      }

  -- ---- books of one opening

  pub round-last : (b : Book) (cache : Cache L) → ReplaysIn g b cache → AreRounds cache.config.idgen_persist_interval (b ∷ [])
  round-last b cache (at, last, is, replay) = (last, replay, tt, tt)

  pub round-then : (b next : Book) (books : List Book) (cache : Cache L) → EndsBefore g b cache next → AreRounds cache.config.idgen_persist_interval (next ∷ books) → AreRounds cache.config.idgen_persist_interval (b ∷ next ∷ books)
  round-then b next books cache (at, last, is, replay, opens) rounds = (last, replay, opens, rounds)
