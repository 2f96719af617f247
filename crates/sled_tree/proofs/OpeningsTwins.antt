-- Two ways in which the machine may answer a call alike: they leave the same state, or pass the same pages.
use Rattle.std.proofs.Common.{◌≡◌, ℕ, Bool, true, false, Option, None, Some, sym, ◌∙◌, ap, arith}
use Rattle.std.specs.Prelude.{◌==◌, MatchBool}
use Rattle.sled_log.specs.Contents.{Content, Free, Node, Update, Put}
use Rattle.sled_log.specs.Events.{Event}
use Rattle.sled_log.specs.declared.log.Log.{Ghosts}
use Rattle.sled_pagecache.specs.Cache.{Cache, chain_length}
use Rattle.sled_pagecache.specs.Calls.{ActOver, HasNoRoom}
use Rattle.sled_pagecache.specs.State.{State, StampedPage, page_at, is_free, Token}
use Rattle.sled_pagecache.specs.Step.{Outcome, Swapped, Swaps, SwapsPage, SwapsContent, no_change, is_reserved}
use Rattle.sled_pagecache.specs.declared.pagecache.handles.call.Answer.{Answer}
use Rattle.sled_pagecache.specs.declared.pagecache.handles.call.Answer.TheVariants.{Allocated, Got, Linked, Replaced, Freed, GotMeta, GotIdgen, Generated, Flushed, Sized, Amplified, TookSnapshot, FoundRoot, RootSwapped, Pinned, Sealed, Cancelled, AttemptedGc}
use Rattle.sled_pagecache.specs.declared.pagecache.handles.call.Call.{Call}
use Rattle.sled_pagecache.specs.declared.pagecache.handles.call.Call.TheVariants as call
use Rattle.sled_pagecache.specs.declared.pagecache.handles.call.Call.TheVariants.{Allocate, Get, Link, Replace, GetMeta, GetIdgen, GenerateId, Flush, SizeOnDisk, SpaceAmplification, TakeFuzzySnapshot, MetaPidForName, CasRoot, AttemptGc}

module _ {L : Type 0} (g : Ghosts L) (cache : Cache L) (s : State) (out other : Outcome) where
  abbrev Same : Call → Answer → Type 0
  Same asked answer = ActOver g cache s asked answer out → ActOver g cache s asked answer other → out.state ≡ other.state

  same-allocate : (node : _) (answer : _) → Same (Allocate node) (Allocated answer)
  same-allocate node answer one two = grind arith

  same-get : (pid : ℕ) (answer : _) → Same (Get pid) (Got answer)
  same-get pid answer one two = grind arith

  both : {A B C D X : Type 0} (test : Bool) → MatchBool test A B → MatchBool test C D → (A → C → X) → (B → D → X) → X
  both true one two so other = so one two
  both false one two so other = other one two

  same-refused : {A B : Type 0} → A × (out ≡ no_change s) → B × (other ≡ no_change s) → out.state ≡ other.state
  same-refused one two = ap (λ (o : Outcome). o.state) (one.1 ∙ sym two.1)

  module _ {R : Type 0} (messages : ℕ → ℕ) (no_room : Event Update → Type 0) (old : Token) (rejected : R) (update : Update) (content : Content) (answer : Swapped R) where
    abbrev Page-so : Option StampedPage → Outcome → Type 0
    Page-so found o = SwapsPage s old rejected found answer o (λ _. SwapsContent messages no_room s old update content answer o)

    abbrev Swaps-so : Outcome → Type 0
    Swaps-so o = Swaps s old rejected answer o (λ _. SwapsContent messages no_room s old update content answer o)

    same-content : SwapsContent messages no_room s old update content answer out → SwapsContent messages no_room s old update content answer other → out.state ≡ other.state
    same-content one two = grind arith

    same-page : (found : Option StampedPage) → Page-so found out → Page-so found other → out.state ≡ other.state
    same-page None one two = same-refused one two
    same-page (Some found) one two = both (is_free found.content) one two same-refused (λ one two. both (found.stamp == old.stamp) one two same-content same-refused)

    same-swap : Swaps-so out → Swaps-so other → out.state ≡ other.state
    same-swap one two = both s.fault one two same-refused (λ one two. both (is_reserved old.pid) one two same-refused (λ one two. same-page (page_at s old.pid) one two))

  same-free : (old : _) (answer : _) → Same (call.Free old) (Freed answer)
  same-free old answer one two = same-swap (chain_length g.state cache) (HasNoRoom g cache.log) old tt (Put Free) Free answer one two

  same-replace : (old : _) (node : _) (answer : _) → Same (Replace old node) (Replaced answer)
  same-replace old node answer one two = same-swap (chain_length g.state cache) (HasNoRoom g cache.log) old node (Put (Node node)) (Node node) answer one two

  same-link : (old : _) (link : _) (answer : _) → Same (Link old link) (Linked answer)
  same-link old link answer one two = grind arith

  same-cas : (name : _) (old new : _) (answer : _) → Same (CasRoot name old new) (RootSwapped answer)
  same-cas name old new answer one two = grind arith

  same-id : (answer : _) → Same GenerateId (Generated answer)
  same-id answer one two = grind arith

  same-gc : (answer : _) → Same AttemptGc (AttemptedGc answer)
  same-gc answer one two = grind arith

  -- the states that both leave, where no move may come behind
  pub same-act : (asked : Call) (answer : Answer) → Same asked answer
  same-act (Allocate node) (Allocated answer) one two = same-allocate node answer one two
  same-act (Get pid) (Got answer) one two = same-get pid answer one two
  same-act (Link old link) (Linked answer) one two = same-link old link answer one two
  same-act (Replace old node) (Replaced answer) one two = same-replace old node answer one two
  same-act (call.Free old) (Freed answer) one two = same-free old answer one two
  same-act GetMeta (GotMeta answer) one two = grind arith
  same-act (MetaPidForName name) (FoundRoot answer) one two = grind arith
  same-act (CasRoot name old new) (RootSwapped answer) one two = same-cas name old new answer one two
  same-act GetIdgen (GotIdgen answer) one two = grind arith
  same-act GenerateId (Generated answer) one two = same-id answer one two
  same-act Flush (Flushed answer) one two = grind arith
  same-act SizeOnDisk (Sized answer) one two = grind arith
  same-act SpaceAmplification (Amplified answer) one two = grind arith
  same-act TakeFuzzySnapshot (TookSnapshot answer) one two = grind arith
  same-act call.Pin (Pinned answer) one two = grind arith
  same-act call.Seal (Sealed answer) one two = grind arith
  same-act call.Cancel (Cancelled answer) one two = grind arith
  same-act AttemptGc (AttemptedGc answer) one two = same-gc answer one two
  same-act asked answer one two = absurd one
