-- The calls of an opening of a tree, one after another; and that the swap of its root finds no other root.
use Rattle.sled_pagecache.proofs.Names.{◌≡◌, ◌||◌, ◌≢◌, ⊤, ℕ, false, List, [], ◌∷◌, Option, Some, None, Result, Ok, Err, slice_get, refl, sym, ◌∙◌, ap, subst, arith, Error, Roots, Ghosts, WholeNode, Cache, StepOver, page, State, page_at, greatest_free, Outcome, Token, Allocated, Allocate, GetMeta, GotMeta, CasRoot, RootSwapped, IsBounded, ReadsNothing, made-row, Bytes, Keeps, Call, Answer, empty_leaf, IsMade, AreMade, OnlyNow, StampedPage, more-at, other-at}
use Rattle.sled_pagecache.proofs.Steps.CallForms.{free-at}
use Rattle.sled_node.specs.Meta as meta
use Rattle.sled_node.specs.Meta.{root_of}
use Rattle.sled_pagecache.specs.Answers.{is_write_fault}
use Rattle.sled_pagecache.specs.Trees.{MadeCalls, FindsTree, IsKnown, IsTreeOpened, MakesTree, OpensTree, Touches, index_over, stamps_after, stamps_then, AreTouched}
use Rattle.sled_pagecache.specs.Inside.TreeOpenings.{GoesOn, Looks}

-- the greatest free id isn't that of a page 0 which holds named roots
above-roots : (pages : List StampedPage) (free : Token) (stamp : ℕ) (roots : meta.Roots) → slice_get pages 0 ≡ Some (page stamp (Roots roots)) → greatest_free 0 pages ≡ Some free → 0 ≢ free.pid
above-roots pages free stamp roots at greatest = let found = free-at 0 pages free greatest in grind arith

module _ {L : Type 0} (g : Ghosts L) where
  abbrev HasRoots : State → ℕ → meta.Roots → Type 0
  HasRoots s stamp roots = page_at s 0 ≡ Some (page stamp (Roots roots))

  -- the named roots stay where a node is allocated
  roots-stay : (cache : Cache L) (s : State) (node : WholeNode) (made : ℕ × Token) (out : Outcome) (stamp : ℕ) (roots : meta.Roots)
      → StepOver g cache s (Allocate node) (Allocated (Ok made)) out → HasRoots s stamp roots → HasRoots out.state stamp roots
  roots-stay cache s node made out stamp roots step at = grind (arith, more-at, other-at, above-roots)

  -- the map of named roots that was answered is that of page 0
  roots-told : (cache : Cache L) (s : State) (told : Token × meta.Roots) (out : Outcome) → StepOver g cache s GetMeta (GotMeta (Ok told)) out → HasRoots out.state told.0.stamp told.1
  roots-told cache s told out step = grind arith

  -- a name that has no root has none in a swap
  no-other : (cache : Cache L) (s : State) (name : Bytes) (root : ℕ) (another : Option ℕ) (out : Outcome) (stamp : ℕ) (roots : meta.Roots)
      → HasRoots s stamp roots → root_of name roots ≡ None → StepOver g cache s (CasRoot name None (Some root)) (RootSwapped (Ok (Err another))) out → ⊥
  no-other cache s name root another out stamp roots at none step = grind arith

  -- ---- the calls of an opening

  -- so in whatever state a cache is, the last call of an opening finds no other root
  finds-no-other : (old new : Cache L) (name : Bytes) (look : Result (Token × meta.Roots) Error) → FindsTree name look (Ok None) → (first second : ℕ × Token) (another : Option ℕ)
      → AreMade g old ((GetMeta, GotMeta look) ∷ (Allocate empty_leaf, Allocated (Ok first)) ∷ (Allocate (index_over first.0), Allocated (Ok second)) ∷ (CasRoot name None (Some second.0), RootSwapped (Ok (Err another))) ∷ []) new
      → ¬ IsKnown g old
  finds-no-other old new name (Err e) finds first second another made known = absurd (let at = finds in cc)
  finds-no-other old new name (Ok told) finds first second another (one, looked, (two, leafed, (three, indexed, (four, swapped, same)))) (held, s, is) =
      let none : root_of name told.1 ≡ None = grind arith in
      let look = looked.step.from_each held s is in
      let put = leafed.step.from_each look.held_then look.out.state look.is in
      let at_leaf = roots-stay one look.out.state empty_leaf first put.out told.0.stamp told.1 put.step (roots-told old s told look.out look.step) in
      let over = indexed.step.from_each put.held_then put.out.state put.is in
      let at_index = roots-stay two put.out.state (index_over first.0) second over.out told.0.stamp told.1 over.step at_leaf in
      let swap = swapped.step.from_each over.held_then over.out.state over.is in
      no-other three over.out.state name second.0 another swap.out told.0.stamp told.1 at_index none swap.step

  -- a node was allocated, and the opening goes on
  pub goes-on : (old mid new : Cache L) (node : WholeNode) (made : ℕ × Token) (result : Result ℕ Error) (Are All : MadeCalls → Type 0)
      → IsMade g old (Allocate node) (Allocated (Ok made)) mid → ReadsNothing g old mid → Touches g old (Allocated (Ok made)) mid
      → GoesOn g mid Are result new → ((calls : MadeCalls) → Are calls → All ((Allocate node, Allocated (Ok made)) ∷ calls)) → GoesOn g old All result new
  goes-on old mid new node made result Are All first unread touches rest all = record {
    calls = (Allocate node, Allocated (Ok made)) ∷ rest.calls;
    are = all rest.calls rest.are;
    made = (mid, first, rest.made);
    batch = rest.batch ∙ first.keeps.batch;
    fault = rest.fault;
    stamps = rest.stamps ∙ ap (λ stamps. stamps_then stamps rest.calls) first.keeps.done;
    touched = (mid, touches, rest.touched);
    unread = rest.unread ∙ unread;
    bounded = rest.bounded;
  }

  -- or the last call was made
  pub ends-with : {old new : Cache L} {call : Call} {answer : Answer} {result : Result ℕ Error} {All : MadeCalls → Type 0} → old.fault ≡ false → IsMade g old call answer new → ReadsNothing g old new → Touches g old answer new → IsBounded g new
      → All ((call, answer) ∷ []) → {T : Type 0} {told : Result T Error} {stamps : T → List ℕ} → Keeps old new told stamps → is_write_fault told ≡ is_write_fault result → new.stamps ≡ stamps_after old.stamps answer → GoesOn g old All result new
  ends-with {old} {new} {call} {answer} clear last unread touches bounded all {told = told} keeps fault stamps = record {
    calls = (call, answer) ∷ [];
    are = all;
    made = (new, last, refl);
    batch = keeps.batch;
    fault = keeps.fault ∙ ap (λ b. b || is_write_fault told) clear ∙ fault;
    stamps = stamps;
    touched = (new, touches, refl);
    unread = unread;
    bounded = bounded;
  }

pub tree-known : (found_another : Type 0) (name : Bytes) (result : Result ℕ Error) (calls : MadeCalls)
    → ((first second : ℕ × Token) (another : Option ℕ)
    → calls ≡ (Allocate empty_leaf, Allocated (Ok first)) ∷ (Allocate (index_over first.0), Allocated (Ok second)) ∷ (CasRoot name None (Some second.0), RootSwapped (Ok (Err another))) ∷ [] → found_another)
    → MakesTree ⊤ name result calls → MakesTree found_another name result calls
tree-known found_another name result calls known made = grind arith

-- an error is a write fault or not, whatever the call answers else
pub same-fault : (A B : Type 0) (e : Error) → is_write_fault {T = A} (Err e) ≡ is_write_fault {T = B} (Err e)
same-fault A B e = grind arith

module _ {L : Type 0} (g : Ghosts L) (cache : Cache L) (name : Bytes) where
  module _ (only_now : OnlyNow g) where
    opens : {found : Result (Option ℕ) Error} {result : Result ℕ Error} {new : Cache L} (looks : Looks g cache name found) (calls : MadeCalls) → OpensTree (¬ IsKnown g cache) name result found calls → AreMade g cache calls new → new.stamps ≡ stamps_then cache.stamps calls
        → AreTouched g cache calls new → (calls ≡ [] → new ≡ cache) → IsTreeOpened g cache name result new
    opens {found} {new = new} looks calls are made stamps touched same = record {
      look = looks.look;
      always = looks.always;
      found = found;
      finds = looks.finds;
      calls = calls;
      are = are;
      made = (cache, looks.made, made);
      row = made-row g cache new ((GetMeta, GotMeta looks.look) ∷ calls) only_now (cache, looks.made, made);
      stamps = stamps;
      touched = touched;
      same = same;
    }

    -- nothing was made
    pub opens-none : {found : Result (Option ℕ) Error} {result : Result ℕ Error} → Looks g cache name found → OpensTree (¬ IsKnown g cache) name result found [] → IsTreeOpened g cache name result cache
    opens-none looks are = opens looks [] are refl refl refl (λ _. refl)

    -- a tree was made, as far as that went
    pub opens-tree : {result : Result ℕ Error} {new : Cache L} → Looks g cache name (Ok None) → GoesOn g cache (MakesTree ⊤ name result) result new → IsTreeOpened g cache name result new
    opens-tree {result} {new} looks rest =
        opens looks rest.calls
        (tree-known (¬ IsKnown g cache) name result rest.calls (λ first second another is. finds-no-other g cache new name looks.look looks.finds first second another (cache, looks.made, subst (λ calls. AreMade g cache calls new) is rest.made)) rest.are)
        rest.made rest.stamps rest.touched (λ none. absurd (let is = sym none ∙ rest.are.2 in cc))
