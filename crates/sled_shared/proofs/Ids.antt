-- The ids of a book rise, from the next id that it opens with to the one that it closes with.
use Rattle.std.proofs.Common.{get_or, length, zero, suc, ◌≡◌, ◌==◌, ◌⊎◌, inl, inr, ℕ, ◌+◌, ◌-◌, ◌^◌, ◌<◌, ◌≤◌, Bool, true, false, MatchBool, MatchOption, List, [], ◌∷◌, ◌++◌, Option, None, Some, Result, Ok, Err, refl, sym, ◌∙◌, ap, subst, arith, flat_map}
use Rattle.std.specs.Prelude.{AllPairs, IsOkAnd, nat_lt, ◌≢◌}
use Rattle.sled_base.specs.Order.{Bytes}
use Rattle.sled_base.specs.declared.types.Device.TheVariants.{Read, Write}
use Rattle.sled_base.specs.declared.types.Error.{Error}
use Rattle.sled_base.specs.declared.types.Error.TheVariants as error
use Rattle.sled_base.specs.declared.types.Why.TheVariants.{LogFull}
use Rattle.sled_log.specs.Contents.{Content, Free, Counter, Roots, Node, Damaged, Update, Put}
use Rattle.sled_log.specs.Events.{Event, Change, Pin, Seal, Cancel}
use Rattle.sled_node.specs.Links.{applied}
use Rattle.sled_node.specs.Meta as meta
use Rattle.sled_node.specs.Node.{WholeNode}
use Rattle.sled_node.specs.declared.node.link.Link.{Link as NodeLink}
use Rattle.sled_pagecache.specs.Limits.{most_messages}
use Rattle.sled_pagecache.specs.Step.{link_update}
use Rattle.sled_pagecache.specs.Shapes.{Shape}
use Rattle.sled_pagecache.specs.State.{StampedPage, State, page_at, is_free, greatest_free}
use Rattle.sled_pagecache.specs.Step.{Due, Nothing, Outdated, Page as IsDue, Moves, MovesContent, MovesPage, WritesAgain, AddsPage, Allocates, Closes, Does, Fails, Finds, FindsContent, Flushes, Frees, Generates, Gets, HoldsCounter, HoldsRoots, IsCorruption, IsCounterAnd, AreRoots, IsHindered, IsRefused, Links, LinksContent, Outcome, Pins, Measures, PutsCounter, Reads, Replaces, ReusesPage, RootSwap, SetsRoot, Step, Swapped, Swaps, SwapsContent, SwapsPage, SwapsRoot, TidiesIfSwapped, interval_start, is_reserved, no_change, with_next_id}
use Rattle.sled_pagecache.specs.State.{Token}
use Rattle.sled_pagecache.specs.Trees.{MadeCalls}
use Rattle.sled_pagecache.specs.declared.pagecache.handles.call.Answer.{Answer}
use Rattle.sled_pagecache.specs.declared.pagecache.handles.call.Answer.TheVariants.{Allocated, Got, Linked, Replaced, Freed, GotMeta, GotIdgen, Generated, Flushed, Sized, Amplified, TookSnapshot, FoundRoot, RootSwapped, Pinned, Sealed, Cancelled, AttemptedGc}
use Rattle.sled_pagecache.specs.declared.pagecache.handles.call.Call.{Call}
use Rattle.sled_pagecache.specs.declared.pagecache.handles.call.Call.TheVariants.{Allocate, Get, Link, Replace, GetMeta, GetIdgen, GenerateId, Flush, SizeOnDisk, SpaceAmplification, TakeFuzzySnapshot, MetaPidForName, CasRoot, AttemptGc}
use Rattle.sled_pagecache.specs.declared.pagecache.handles.call.Call.TheVariants as call
use Rattle.sled_shared.specs.Book.{Book, any_behind, any_room, any_room_again, StepsTo, RunsCalls, Runs, ReplaysTo, AreRounds, ids_given, ids_of, RisesWithin}
use Rattle.sled_shared.specs.Calls.{Answered, Asked, Batch, Batched, Entry, GetAll, GotAll, IsEntry, OpenTree, Opened, Reply, Request}

-- ---- what a step does to the next id

-- it stays
abbrev Stays : State → Outcome → Type 0
Stays s out = out.state.next ≡ s.next

stays : (s t : State) (out : Outcome) (changes : List (Event Update)) → t.next ≡ s.next → out ≡ record { state = t; changes = changes } → Stays s out
stays s t out changes same is = ap (λ (o : Outcome). o.state.next) is ∙ same

either-way : {A B C : Type 0} (test : Bool) → (A → C) → (B → C) → MatchBool test A B → C
either-way true f k h = f h
either-way false f k h = k h

refused : {T : Type 0} (s : State) (answer : Result T Error) (out : Outcome) (e : Error) → IsRefused s answer out e → Stays s out
refused s answer out e h = stays s s out [] refl h.1

hindered : (s : State) (e : Error) (out : Outcome) → IsHindered s e out → Stays s out
hindered s error.OutOfMemory out h = stays s s out [] refl h
hindered s (error.Io Read) out h = stays s s out [] refl h
hindered s (error.Io Write) out h = stays s (record s { fault = true }) out [] refl h
hindered s e out h = absurd h

reads : {T : Type 0} (s : State) (answer : Result T Error) (out : Outcome) (found : T → Type 0) → Reads s answer out found → Stays s out
reads s (Ok value) out found h = stays s s out [] refl h.0
reads s (Err e) out found h = hindered s e out h

corrupted : {T : Type 0} (s : State) (answer : Result T Error) (out : Outcome) → IsCorruption s answer out → Stays s out
corrupted s (Err (error.Corruption pointer)) out h = stays s s out [] refl h
corrupted s (Ok value) out h = absurd h.1
corrupted s (Err e) out h = hindered s e out h

module _ (messages : ℕ → ℕ) where
  fails : (s : State) (change : Event Update) (e : Error) (out : Outcome) → Fails messages any_room s change e out → Stays s out
  fails s change (error.Unsupported LogFull) out h = stays s s out [] refl h.1
  fails s change (error.Io Write) out h = stays s (record s { fault = true }) out (change ∷ []) refl h
  fails s change e out h = hindered s e out h

  does : {T : Type 0} (s : State) (change : Event Update) (answer : Result T Error) (out : Outcome) (work : T → State → Type 0) → ((value : T) → work value out.state → Stays s out)
      → Does messages any_room s change answer out work → Stays s out
  does s change (Ok value) out work f h = f value h.1
  does s change (Err e) out work f h = fails s change e out h

  of-state : (s t u : State) → t.next ≡ s.next → u ≡ t → u.next ≡ s.next
  of-state s t u same is = ap (λ (v : State). v.next) is ∙ same

  allocates : (s : State) (node : WholeNode) (answer : Result (ℕ × Token) Error) (out : Outcome) → Allocates messages any_room s node answer out → Stays s out
  allocates s node answer out = either-way s.fault (refused s answer out _) (by (greatest_free 0 s.pages))
    where
      by : (free : Option Token) → MatchOption free (AddsPage messages any_room s node answer out) (λ free. ReusesPage messages any_room s node free answer out) → Stays s out
      by None h = either-way (length s.pages == 2 ^ 37) (refused s answer out _) (does s (Change (length s.pages) (Put (Node node))) answer out _ (λ value k. of-state s _ out.state refl k.2)) h
      by (Some free) h = either-way (free.stamp == 2 ^ 64 - 1) (refused s answer out _) (does s (Change free.pid (Put (Node node))) answer out _ (λ value k. of-state s _ out.state refl k.2)) h

  gets : (s : State) (pid : ℕ) (answer : Result (Option (Token × WholeNode)) Error) (out : Outcome) → Gets s pid answer out → Stays s out
  gets s pid answer out = either-way s.fault (refused s answer out _) (either-way (is_reserved pid) (refused s answer out _) (by (page_at s pid)))
    where
      of : (stamp : ℕ) (content : Content) → FindsContent s pid stamp content answer out → Stays s out
      of stamp Free h = stays s s out [] refl h.1
      of stamp (Node node) h = reads s answer out _ h
      of stamp (Counter n) h = corrupted s answer out h
      of stamp (Roots roots) h = corrupted s answer out h
      of stamp Damaged h = corrupted s answer out h

      by : (found : Option StampedPage) → Finds s pid found answer out → Stays s out
      by None h = stays s s out [] refl h.1
      by (Some found) h = of found.stamp found.content h

  swaps : {R : Type 0} (s : State) (old : Token) (rejected : R) (answer : Swapped R) (out : Outcome) (goes : Content → Type 0) → ((content : Content) → goes content → Stays s out)
      → Swaps s old rejected answer out goes → Stays s out
  swaps {R} s old rejected answer out goes f = either-way s.fault (refused s answer out _) (either-way (is_reserved old.pid) (refused s answer out _) (by (page_at s old.pid)))
    where
      by : (found : Option StampedPage) → SwapsPage s old rejected found answer out goes → Stays s out
      by None h = stays s s out [] refl h.1
      by (Some found) h = either-way (is_free found.content) (λ h. stays s s out [] refl h.1) (either-way (found.stamp == old.stamp) (f found.content) (λ h. stays s s out [] refl h.1)) h

  swaps-content : {R : Type 0} (s : State) (old : Token) (update : Update) (content : Content) (answer : Swapped R) (out : Outcome) → SwapsContent messages any_room s old update content answer out → Stays s out
  swaps-content s old update content answer out = either-way (old.stamp == 2 ^ 64 - 1) (refused s answer out _) (does s (Change old.pid update) answer out _ (λ value k. of-state s _ out.state refl k.1))

  links : (s : State) (old : Token) (link : NodeLink) (answer : Swapped NodeLink) (out : Outcome) → Links messages any_room s old link answer out → Stays s out
  links s old link answer out = swaps s old link answer out _ by
    where
      by : (content : Content) → LinksContent messages any_room s old link answer out content → Stays s out
      by (Node node) (inl h) = reads s answer out _ h
      by (Node node) (inr (inl h)) = refused s answer out _ h.1
      by (Node node) (inr (inr h)) = swaps-content s old (link_update (messages old.pid) link (applied link node)) (Node (applied link node)) answer out h.1
      by Free h = corrupted s answer out h
      by (Counter n) h = corrupted s answer out h
      by (Roots roots) h = corrupted s answer out h
      by Damaged h = corrupted s answer out h

  replaces : (s : State) (old : Token) (node : WholeNode) (answer : Swapped WholeNode) (out : Outcome) → Replaces messages any_room s old node answer out → Stays s out
  replaces s old node answer out = swaps s old node answer out _ (λ content. swaps-content s old (Put (Node node)) (Node node) answer out)

  frees : (s : State) (old : Token) (answer : Swapped (Unit {0})) (out : Outcome) → Frees messages any_room s old answer out → Stays s out
  frees s old answer out = swaps s old tt answer out _ (λ content. swaps-content s old (Put Free) Free answer out)

  roots-held : (s : State) (out : Outcome) (goes : ℕ → meta.Roots → Type 0) → ((stamp : ℕ) (roots : meta.Roots) → goes stamp roots → Stays s out) → (found : Option StampedPage) → HoldsRoots found goes → Stays s out
  roots-held s out goes f None h = absurd h
  roots-held s out goes f (Some found) h = by found.stamp found.content h
    where
      by : (stamp : ℕ) (content : Content) → AreRoots content (λ roots. goes stamp roots) → Stays s out
      by stamp (Roots roots) h = f stamp roots h
      by stamp other h = absurd h

  swaps-root : (s : State) (name : Bytes) (old new : Option ℕ) (answer : RootSwap) (out : Outcome) → SwapsRoot messages any_room s name old new answer out → Stays s out
  swaps-root s name old new answer out = either-way s.fault (refused s answer out _) (roots-held s out _ goes (page_at s 0))
    where
      sets : (stamp : ℕ) (roots : meta.Roots) → SetsRoot messages any_room s stamp name new roots answer out → Stays s out
      sets stamp roots (inl h) = refused s answer out _ h.1
      sets stamp roots (inr (inl h)) = refused s answer out _ h.1
      sets stamp roots (inr (inr h)) = either-way (stamp == 2 ^ 64 - 1) (refused s answer out _) (does s (Change 0 (Put (Roots (meta.changed_roots name new roots)))) answer out _ (λ value k. of-state s _ out.state refl k.1)) h.1

      goes : (stamp : ℕ) (roots : meta.Roots)
          → ((meta.root_of name roots ≢ old) × (answer ≡ Ok (Err (meta.root_of name roots))) × (out ≡ no_change s)) ⊎ ((meta.root_of name roots ≡ old) × SetsRoot messages any_room s stamp name new roots answer out) → Stays s out
      goes stamp roots (inl h) = stays s s out [] refl h.2
      goes stamp roots (inr h) = sets stamp roots h.1

  pins : (s : State) (answer : Result (Unit {0}) Error) (out : Outcome) → Pins messages any_room s answer out → Stays s out
  pins s answer out = either-way s.fault (refused s answer out _) (either-way s.batch (refused s answer out _) (does s Pin answer out _ (λ value k. of-state s _ out.state refl k)))

  -- the next id is given, or it stays
  abbrev Gives : State → Result ℕ Error → Outcome → Type 0
  Gives s (Ok id) out = (id ≡ s.next) × (out.state.next ≡ s.next + 1)
  Gives s (Err e) out = Stays s out

  gives-refused : (s : State) (answer : Result ℕ Error) (out : Outcome) (e : Error) → IsRefused s answer out e → Gives s answer out
  gives-refused s (Ok id) out e h = absurd (let k = h.0 in cc)
  gives-refused s (Err other) out e h = stays s s out [] refl h.1

  gives-next : (s t : State) (answer : Result ℕ Error) (out : Outcome) (changes : List (Event Update)) → t.next ≡ s.next → answer ≡ Ok s.next → out ≡ record { state = with_next_id t; changes = changes } → Gives s answer out
  gives-next s t (Ok id) out changes same given is = (let k : id ≡ s.next = cc in k, ap (λ (o : Outcome). o.state.next) is ∙ ap (λ n. n + 1) same)
  gives-next s t (Err e) out changes same given is = absurd cc

  gives-does : (s t : State) (change : Event Update) (answer : Result ℕ Error) (out : Outcome) → t.next ≡ s.next → Does messages any_room s change answer out (λ id u. (id ≡ s.next) × (u ≡ with_next_id t)) → Gives s answer out
  gives-does s t change (Ok id) out same h = (h.1.0, ap (λ (u : State). u.next) h.1.1 ∙ ap (λ n. n + 1) same)
  gives-does s t change (Err e) out same h = fails s change e out h

  generates : (interval : ℕ) (s : State) (answer : Result ℕ Error) (out : Outcome) → Generates messages any_room interval s answer out → Gives s answer out
  generates interval s answer out = either-way s.fault (gives-refused s answer out _) (either-way (nat_lt (2 ^ 64 - 1) s.next) (gives-refused s answer out _) (finds (page_at s 1)))
    where
      Goes : ℕ → ℕ → Type 0
      Goes stamp n = MatchBool (nat_lt (interval_start interval n) (interval_start interval s.next)) (PutsCounter messages any_room s stamp (interval_start interval s.next) answer out) ((answer ≡ Ok s.next) × (out ≡ no_change (with_next_id s)))

      goes : (stamp n : ℕ) → Goes stamp n → Gives s answer out
      goes stamp n =
          either-way (nat_lt (interval_start interval n) (interval_start interval s.next))
          (either-way s.batch (gives-refused s answer out _) (either-way (stamp == 2 ^ 64 - 1) (gives-refused s answer out _) (gives-does s _ _ answer out refl)))
          (λ h. gives-next s s answer out [] refl h.0 h.1)

      by : (stamp : ℕ) (content : Content) → IsCounterAnd content (λ n. Goes stamp n) → Gives s answer out
      by stamp (Counter n) h = goes stamp n h
      by stamp other h = absurd h

      finds : (found : Option StampedPage) → HoldsCounter found Goes → Gives s answer out
      finds None h = absurd h
      finds (Some found) h = by found.stamp found.content h

  counter-held : (s : State) (out : Outcome) (goes : ℕ → ℕ → Type 0) → ((stamp n : ℕ) → goes stamp n → Stays s out) → (found : Option StampedPage) → HoldsCounter found goes → Stays s out
  counter-held s out goes f None h = absurd h
  counter-held s out goes f (Some found) h = by found.stamp found.content h
    where
      by : (stamp : ℕ) (content : Content) → IsCounterAnd content (λ n. goes stamp n) → Stays s out
      by stamp (Counter n) h = f stamp n h
      by stamp other h = absurd h

  flushes : (s : State) (answer : Result ℕ Error) (out : Outcome) → Flushes s answer out → Stays s out
  flushes s (Ok n) out = either-way s.fault (refused {T = ℕ} s (Ok n) out _) (either-way s.batch (refused {T = ℕ} s (Ok n) out _) (λ h. stays s s out [] refl h))
  flushes s (Err e) out = either-way s.fault (refused {T = ℕ} s (Err e) out _) (either-way s.batch (refused {T = ℕ} s (Err e) out _) (λ h. stays s (record s { fault = true }) out [] refl h.1))

  sizes : (s : State) (answer : Result ℕ Error) (out : Outcome) → IsOkAnd answer (λ size. out ≡ no_change s) → Stays s out
  sizes s (Ok n) out h = stays s s out [] refl h
  sizes s (Err e) out h = absurd h

  measures : (segment_size : ℕ) (s : State) (answer : Result (ℕ × ℕ) Error) (out : Outcome) → Measures segment_size s answer out → Stays s out
  measures segment_size s (Ok sizes) out h = stays s s out [] refl h.0
  measures segment_size s (Err (error.Corruption pointer)) out h = stays s s out [] refl h.1
  measures segment_size s (Err e) out h = hindered s e out h

  closes : (mark : Event Update) (s : State) (answer : Result (Unit {0}) Error) (out : Outcome) → Closes mark s answer out → Stays s out
  closes mark s (Ok done) out h = either-way s.fault (λ k. stays s (record s { batch = false }) out [] refl k.1) (λ k. stays s (record s { batch = false }) out (mark ∷ []) refl k) h.1
  closes mark s (Err e) out h = either-way s.fault (λ k. stays s (record s { batch = false }) out [] refl k.1) (λ k. stays s (record s { batch = false; fault = true }) out (mark ∷ []) refl k.1) h.1

  again : (s : State) (due : Due) (pid : ℕ) (content : Content) (answer : Result Bool Error) (out : Outcome) → WritesAgain (λ due. due) any_room_again due s pid content answer out → Stays s out
  again s due pid content answer out (inl h) = reads s answer out _ h
  again s due pid content (Ok moved) out (inr h) = of-state s s out.state refl h.1.1
  again s due pid content (Err e) out (inr h) = fails s (Change pid (Put content)) e out h

  moves : (s : State) (due of : Due) (answer : Result Bool Error) (out : Outcome) → Moves (λ due. due) any_room_again due s of answer out → Stays s out
  moves s due Nothing answer out h = stays s s out [] refl h.1
  moves s due Outdated answer out h = stays s s out [] refl h.1
  moves s due (IsDue pid) answer out h = by (page_at s pid) h
    where
      of_content : (content : Content) → MovesContent (λ due. due) any_room_again due s pid content answer out → Stays s out
      of_content Damaged (inl h) = corrupted s answer out h
      of_content Damaged (inr h) = again s due pid Damaged answer out h
      of_content Free h = again s due pid Free answer out h
      of_content (Counter n) h = again s due pid (Counter n) answer out h
      of_content (Roots roots) h = again s due pid (Roots roots) answer out h
      of_content (Node node) h = again s due pid (Node node) answer out h

      by : (found : Option StampedPage) → MovesPage (λ due. due) any_room_again due s pid found answer out → Stays s out
      by None h = absurd h
      by (Some found) h = of_content found.content h

  -- a move is added where a swap was made
  tidies : {R : Type 0} (s : State) (answer : Swapped R) (swap out : Outcome) → Stays s swap → TidiesIfSwapped (λ due. due) any_room_again any_behind answer swap out → Stays s out
  tidies s (Ok (Ok made)) swap out still h =
      ap (λ (o : Outcome). o.state.next) h.is ∙ either-way swap.state.fault (refused swap.state h.answer h.move _) (moves swap.state h.mid h.mid h.answer h.move) h.tidies ∙ still
  tidies s (Ok (Err back)) swap out still is = ap (λ (o : Outcome). o.state.next) is ∙ still
  tidies s (Err e) swap out still is = ap (λ (o : Outcome). o.state.next) is ∙ still

  -- ---- so its ids rise

  none-given : (s : State) (out : Outcome) → Stays s out → s.next ≤ out.state.next
  none-given s out h = omega arith

  given : (s : State) (answer : Result ℕ Error) (out : Outcome) → Gives s answer out → RisesWithin s.next (ids_given (Answered (Generated answer))) out.state.next
  given s (Ok id) out h = (omega arith, omega arith)
  given s (Err e) out h = omega arith

  step-rises : (interval segment_size : ℕ) (due : Due) (s : State) (asked : Call) (answer : Answer) (out : Outcome) → Step (λ due. due) any_room_again messages any_room interval segment_size due any_behind s asked answer out → RisesWithin s.next (ids_given (Answered answer)) out.state.next
  step-rises interval segment_size due s (Allocate node) (Allocated answer) out h = none-given s out (allocates s node answer out h)
  step-rises interval segment_size due s (Get pid) (Got answer) out h = none-given s out (gets s pid answer out h)
  step-rises interval segment_size due s (Link old link) (Linked answer) out (swap, act, ends) =
      let still = links s old link answer swap act in
      none-given s out (either-way (nat_lt (messages old.pid) most_messages) (λ is. ap (λ (o : Outcome). o.state.next) is ∙ still) (tidies s answer swap out still) ends)
  step-rises interval segment_size due s (Replace old node) (Replaced answer) out (swap, act, ends) = none-given s out (tidies s answer swap out (replaces s old node answer swap act) ends)
  step-rises interval segment_size due s (call.Free old) (Freed answer) out h = none-given s out (frees s old answer out h)
  step-rises interval segment_size due s GetMeta (GotMeta answer) out h = none-given s out (either-way s.fault (refused s answer out _) (roots-held s out _ (λ stamp roots k. stays s s out [] refl k.1) (page_at s 0)) h)
  step-rises interval segment_size due s (MetaPidForName name) (FoundRoot answer) out h = none-given s out (either-way s.fault (refused s answer out _) (roots-held s out _ (λ stamp roots k. stays s s out [] refl k.1) (page_at s 0)) h)
  step-rises interval segment_size due s (CasRoot name old new) (RootSwapped answer) out h = none-given s out (swaps-root s name old new answer out h)
  step-rises interval segment_size due s GetIdgen (GotIdgen answer) out h = none-given s out (either-way s.fault (refused s answer out _) (counter-held s out _ (λ stamp n k. stays s s out [] refl k.1) (page_at s 1)) h)
  step-rises interval segment_size due s GenerateId (Generated answer) out h = given s answer out (generates interval s answer out h)
  step-rises interval segment_size due s Flush (Flushed answer) out h = none-given s out (flushes s answer out h)
  step-rises interval segment_size due s SizeOnDisk (Sized answer) out h = none-given s out (either-way s.fault (refused s answer out _) (sizes s answer out) h)
  step-rises interval segment_size due s SpaceAmplification (Amplified answer) out h = none-given s out (either-way s.fault (refused s answer out _) (measures segment_size s answer out) h)
  step-rises interval segment_size due s TakeFuzzySnapshot (TookSnapshot answer) out h = none-given s out (either-way s.fault (refused s answer out _) (λ k. stays s s out [] refl k.1) h)
  step-rises interval segment_size due s call.Pin (Pinned answer) out h = none-given s out (pins s answer out h)
  step-rises interval segment_size due s call.Seal (Sealed answer) out h = none-given s out (closes Seal s answer out h)
  step-rises interval segment_size due s call.Cancel (Cancelled answer) out h = none-given s out (closes Cancel s answer out h)
  step-rises interval segment_size due s AttemptGc (AttemptedGc answer) out h = none-given s out (either-way s.fault (refused s answer out _) (moves s due due answer out) h)
  step-rises interval segment_size due s asked answer out h = absurd h

-- ---- lists of rising numbers

rises_lower : (low low' : ℕ) (ids : List ℕ) (high : ℕ) → low' ≤ low → RisesWithin low ids high → RisesWithin low' ids high
rises_lower low low' [] high le h = omega arith
rises_lower low low' (id ∷ ids) high le h = (omega (arith, h.0), h.1)

rises_append : (low : ℕ) (xs : List ℕ) (mid : ℕ) (ys : List ℕ) (high : ℕ) → RisesWithin low xs mid → RisesWithin mid ys high → RisesWithin low (xs ++ ys) high
rises_append low [] mid ys high h k = rises_lower mid low ys high h k
rises_append low (x ∷ xs) mid ys high h k = (h.0, rises_append (x + 1) xs mid ys high h.1 k)

rises_le : (low : ℕ) (ids : List ℕ) (high : ℕ) → RisesWithin low ids high → low ≤ high
rises_le low [] high h = h
rises_le low (id ∷ ids) high h = omega (arith, h.0, rises_le (id + 1) ids high h.1)

-- ---- the ids of a book

steps-rise : (interval : ℕ) (s : State) (asked : Call) (answer : Answer) (t : State) → StepsTo interval s asked answer t → RisesWithin s.next (ids_given (Answered answer)) t.next
steps-rise interval s asked answer t (messages, segment_size, due, out, step, is) = subst (λ (u : State). RisesWithin s.next (ids_given (Answered answer)) u.next) (sym is) (step-rises messages interval segment_size due s asked answer out step)

calls-rise : (interval : ℕ) (first : State) (calls : MadeCalls) (last : State) → RunsCalls interval first calls last → first.next ≤ last.next
calls-rise interval first [] last same = omega (arith, ap (λ (s : State). s.next) same)
calls-rise interval first (made ∷ calls) last (mid, step, run) =
    omega (arith, rises_le first.next (ids_given (Answered made.1)) mid.next (steps-rise interval first made.0 made.1 mid step), calls-rise interval mid calls last run)

one-rises : (interval : ℕ) (first : State) (asked : Call) (answer : Answer) (last : State) → RunsCalls interval first ((asked, answer) ∷ []) last → RisesWithin first.next (ids_given (Answered answer)) last.next
one-rises interval first asked answer last (mid, step, same) = subst (λ (u : State). RisesWithin first.next (ids_given (Answered answer)) u.next) (sym same) (steps-rise interval first asked answer mid step)

entry-rises : (interval : ℕ) (first : State) (asked : Request) (answer : Reply) (calls : MadeCalls) (last : State) → IsEntry asked answer calls → RunsCalls interval first calls last → RisesWithin first.next (ids_given answer) last.next
entry-rises interval first (Asked asked) (Answered answer) calls last is run = one-rises interval first asked answer last (subst (λ (l : MadeCalls). RunsCalls interval first l last) is run)
entry-rises interval first (OpenTree name) (Opened result) calls last is run = calls-rise interval first calls last run
entry-rises interval first (Batch swaps) (Batched result) calls last is run = calls-rise interval first calls last run
entry-rises interval first (GetAll pages) (GotAll result) calls last is run = calls-rise interval first calls last run
entry-rises interval first asked answer calls last is run = absurd is

entries-rise : (interval : ℕ) (first : State) (entries : List Entry) (last : State) → Runs interval first entries last → RisesWithin first.next (flat_map (λ e. ids_given e.answer) entries) last.next
entries-rise interval first [] last same = omega (arith, ap (λ (s : State). s.next) same)
entries-rise interval first (e ∷ entries) last (calls, mid, is, run, runs) =
    rises_append first.next (ids_given e.answer) mid.next (flat_map (λ d. ids_given d.answer) entries) last.next (entry-rises interval first e.call e.answer calls mid is run) (entries-rise interval mid entries last runs)

-- they lie between the next id of its opening and that of its end
pub book_rises : (interval : ℕ) (b : Book) (last : State) → ReplaysTo interval b last → RisesWithin b.opening.next (ids_of b) last.next
book_rises interval b last (first, shape, closed, runs) = subst (λ n. RisesWithin n (ids_of b) last.next) (ap (λ (x : Shape). x.next) shape) (entries-rise interval first b.entries last runs)

-- so do the ids of all books of one opening
rounds_rise : (interval : ℕ) (b : Book) (bs : List Book) → AreRounds interval (b ∷ bs) → (high : ℕ) × RisesWithin b.opening.next (flat_map ids_of (b ∷ bs)) high
rounds_rise interval b [] (last, replays, opens, rounds) =
    (last.next, rises_append b.opening.next (ids_of b) last.next [] last.next (book_rises interval b last replays) (omega arith))
rounds_rise interval b (d ∷ bs) (last, replays, opens, rounds) =
    let rest = rounds_rise interval d bs rounds in (
      rest.0,
      rises_append b.opening.next (ids_of b) last.next (flat_map ids_of (d ∷ bs)) rest.0 (book_rises interval b last replays) (subst (λ n. RisesWithin n (flat_map ids_of (d ∷ bs)) rest.0) opens.next rest.1),
    )

rises_from : (low : ℕ) (ids : List ℕ) (high : ℕ) → RisesWithin low ids high → (j d : ℕ) → j < length ids → low ≤ get_or ids j d
rises_from low [] high h j d within = absurd (omega arith)
rises_from low (id ∷ ids) high h zero d within = h.0
rises_from low (id ∷ ids) high h (suc j) d within = omega (arith, h.0, rises_from (id + 1) ids high h.1 j d (omega arith))

-- rising numbers are in order, each below all later ones
rises_pairs : (low : ℕ) (ids : List ℕ) (high : ℕ) → RisesWithin low ids high → AllPairs (λ a b. a < b) ids
rises_pairs low [] high h i j d below within = absurd (omega arith)
rises_pairs low (id ∷ ids) high h i zero d below within = absurd (omega arith)
rises_pairs low (id ∷ ids) high h zero (suc j) d below within = omega (arith, rises_from (id + 1) ids high h.1 j d (omega arith))
rises_pairs low (id ∷ ids) high h (suc i) (suc j) d below within = rises_pairs (id + 1) ids high h.1 i j d (omega arith) (omega arith)

-- each id is below all later ones, whichever book has it
pub rounds_pairs : (interval : ℕ) (books : List Book) → AreRounds interval books → AllPairs (λ a b. a < b) (flat_map ids_of books)
rounds_pairs interval [] rounds = rises_pairs 0 [] 0 (omega arith)
rounds_pairs interval (b ∷ bs) rounds =
    let rise = rounds_rise interval b bs rounds in rises_pairs b.opening.next (flat_map ids_of (b ∷ bs)) rise.0 rise.1
