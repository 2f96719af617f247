-- A swap, and the move that is added to it, as one step.
use Rattle.sled_pagecache.proofs.Names.{IfErr, Linked, nat_lt, true, false≢true, MatchBool, NodeLink, chain_length, ℕ, IfOk, OnOk, WholeNode, ActOver, Replaced, Replace, ◌≡◌, ◌∙◌, ◌++◌, Bool, false, Result, Ok, refl, subst, Error, Ghosts, Cache, State, Outcome, outcome, Token, Swapped, Swaps, Content, Steps, IsDoneInEach, IsBehind, HasNoRoomAgain, due_in, Tidies, TidiesBehind, TidiesIfSwapped, Err, AttemptGc, AttemptedGc, arith, sym}
use Rattle.sled_pagecache.specs.Inside.SequenceLaws.{done-then}
use Rattle.sled_pagecache.specs.Answers.{HasNoName, KeepsSwap, UnlessMade}
use Rattle.sled_pagecache.specs.Calls.{IsBlamed}
use Rattle.sled_pagecache.specs.Moves.{AttemptsMove}
use Rattle.sled_pagecache.specs.Limits.{most_messages}
use Rattle.sled_pagecache.specs.State.{IsAnswered}
use Rattle.sled_pagecache.specs.Swaps.{JoinsOrMoves, MovesBehind, PutsAndMoves, SwapLeaves}
use Rattle.sled_pagecache.specs.declared.pagecache.handles.call.Call.TheVariants as call

module _ {L : Type 0} (g : Ghosts L) (old mid new : Cache L) {One Both : State → Outcome → Type 0} (swapped : IsDoneInEach g One old mid) (moved : Result Bool Error) (move : Steps g mid AttemptGc (AttemptedGc moved) new) where
  pub tidied : ((s : State) (out : Outcome) → One s out → (s.fault ≡ false) × (out.state.fault ≡ false))
      → (g.tells → (s : State) (swap out : Outcome) → One s swap → TidiesBehind (due_in g old.config) (HasNoRoomAgain g) (IsBehind g old.log) swap out → Both s out) → IsDoneInEach g Both old new
  tidied clear joins = record {
    opening = record { config = move.opening.config ∙ swapped.opening.config; recovered = move.opening.recovered ∙ swapped.opening.recovered };
    from_each = λ held s is.
        let first = swapped.from_each held s is in
        let second = move.from_each first.held_then first.out.state first.is in
        let free = clear s first.out first.step in
        done-then g old mid new held s first second free.0 free.1 (joins is.tells s first.out (outcome second.out.state (first.out.changes ++ second.out.changes)) first.step (record {
          mid = mid.log;
          behind = record { held = held; held_then = first.held_then; from = (is.known free.0).logged; added = first.added free.1; is = (first.is.known free.1).logged };
          answer = moved;
          move = second.out;
          tidies = subst (λ config. Tidies (due_in g config) (HasNoRoomAgain g) mid.log first.out.state moved second.out) swapped.opening.config second.step;
          is = refl;
        }));
  }

-- a swap that was made left no write fault, and none was kept
pub swap-clear : {R : Type 0} (s : State) (old : Token) (rejected : R) (made : Token) (out : Outcome) (goes_on : Content → Type 0) → Swaps s old rejected (Ok (Ok made)) out goes_on
    → ((content : Content) → goes_on content → out.state.fault ≡ false) → (s.fault ≡ false) × (out.state.fault ≡ false)
swap-clear s old rejected made out goes_on step on = grind (arith, on)

-- what was done was done so, too
module _ {L : Type 0} (g : Ghosts L) (old new : Cache L) {One Both : State → Outcome → Type 0} (done : IsDoneInEach g One old new) where
  done-so : (g.tells → (s : State) (out : Outcome) → One s out → Both s out) → IsDoneInEach g Both old new
  done-so so = record {
    opening = done.opening;
    from_each = λ held s is.
        let d = done.from_each held s is in
        record { out = d.out; step = so is.tells s d.out d.step; held_then = d.held_then; is = d.is; added = d.added; crash = d.crash; stuck = d.stuck };
  }

module _ {L : Type 0} (g : Ghosts L) (old swap new : Cache L) {R : Type 0} where
  abbrev Tidied : Swapped R → Outcome → Outcome → Type 0
  Tidied answer first out = TidiesIfSwapped (due_in g old.config) (HasNoRoomAgain g) (IsBehind g old.log) answer first out

  -- a move was added where the swap was made, and else nothing
  moves-so : {One Both : State → Outcome → Type 0} (answer : Swapped R) → IsDoneInEach g One old swap → MovesBehind g swap answer new
      → ((made : Token) → answer ≡ Ok (Ok made) → (s : State) (out : Outcome) → One s out → (s.fault ≡ false) × (out.state.fault ≡ false))
      → (g.tells → (s : State) (first out : Outcome) → One s first → Tidied answer first out → Both s out) → IsDoneInEach g Both old new
  moves-so (Ok (Ok made)) act moves clear so = tidied g old swap new act moves.0 moves.1.step (clear made refl) so
  moves-so (Ok (Err back)) act moves clear so = rw moves (done-so g old swap act (λ told s out one. so told s out out one refl))
  moves-so (Err e) act moves clear so = rw moves (done-so g old swap act (λ told s out one. so told s out out one refl))

  -- where the link wrote a whole node
  by-node : (answer : Swapped R) (joins : Bool) (first out : Outcome) → ((made : Token) → answer ≡ Ok (Ok made) → joins ≡ false) → Tidied answer first out → MatchBool joins (out ≡ first) (Tidied answer first out)
  by-node (Ok (Ok made)) joins first out whole moved = rw (whole made refl) moved
  by-node (Ok (Err back)) true first out whole moved = moved
  by-node (Ok (Err back)) false first out whole moved = moved
  by-node (Err e) true first out whole moved = moved
  by-node (Err e) false first out whole moved = moved

  -- where it joined the messages of its page
  by-message : (answer : Swapped R) (joins : Bool) (out : Outcome) → ((made : Token) → answer ≡ Ok (Ok made) → joins ≡ true) → MatchBool joins (out ≡ out) (Tidied answer out out)
  by-message answer true out joined = refl
  by-message (Ok (Ok made)) false out joined = absurd (false≢true (joined made refl))
  by-message (Ok (Err back)) false out joined = refl
  by-message (Err e) false out joined = refl

-- a node that was put, or linked, left no write fault
module _ {L : Type 0} (g : Ghosts L) (cache : Cache L) (s : State) (old made : Token) (out : Outcome) where
  swap-puts : (node : WholeNode) → ActOver g cache s (Replace old node) (Replaced (Ok (Ok made))) out → (s.fault ≡ false) × (out.state.fault ≡ false)
  swap-puts node act = swap-clear s old node made out _ act (λ content h. grind arith)

  swap-links : (link : NodeLink) → ActOver g cache s (call.Link old link) (Linked (Ok (Ok made))) out → (s.fault ≡ false) × (out.state.fault ≡ false)
  swap-links link act = swap-clear s old link made out _ act (λ content h. grind arith)

-- ---- what a swap by itself promises is a step, with the move behind it

module _ {L : Type 0} (g : Ghosts L) (old new : Cache L) (pid : ℕ) (token : Token) where
  puts-step : (node : WholeNode) (answer : Swapped WholeNode) → PutsAndMoves g old pid token node answer new → Steps g old (Replace token node) (Replaced answer) new
  puts-step node answer puts =
      moves-so g old puts.swap new answer puts.puts.step puts.moves
      (λ made is s out act. swap-puts g old s token made out node (subst (λ a. ActOver g old s (Replace token node) (Replaced a) out) is act))
      (λ told s first out act moved. (first, act, moved))

  joins-step : (link : NodeLink) (answer : Swapped NodeLink) → token.pid ≡ pid → JoinsOrMoves g old pid token link answer new → Steps g old (call.Link token link) (Linked answer) new
  joins-step link answer at links = by links.joins refl links.moves
    where
      test : Bool
      test = nat_lt (chain_length g.state old token.pid) most_messages

      joined : g.tells → (made : Token) → answer ≡ Ok (Ok made) → links.joins ≡ test
      joined told made is = rw at (subst (λ a. IfOk a (λ swapped. OnOk swapped (links.joins ≡ nat_lt (chain_length g.state old pid) most_messages))) is (links.joined told))

      by : (joins : Bool) → links.joins ≡ joins → MatchBool joins (new ≡ links.swap) (MovesBehind g links.swap answer new) → Steps g old (call.Link token link) (Linked answer) new
      by true is same = rw same (done-so g old links.swap links.links.step (λ told s out act.
          (out, act, by-message g old links.swap links.swap answer test out (λ made so. sym (joined told made so) ∙ is))))
      by false is moves =
          moves-so g old links.swap new answer links.links.step moves
          (λ made so s out act. swap-links g old s token made out link (subst (λ a. ActOver g old s (call.Link token link) (Linked a) out) so act))
          (λ told s first out act moved. (first, act, by-node g old links.swap new answer test first out (λ made so. sym (joined told made so) ∙ is) moved))

-- ---- what both leave of the stamps, the batch and the fault

module _ {L : Type 0} (g : Ghosts L) (swap new : Cache L) where
  still : (moved : Result Bool Error) → AttemptsMove g swap moved new → new.stamps ≡ swap.stamps
  still (Ok named) move = move.keeps.done
  still (Err e) move = move.keeps.refused

module _ {L : Type 0} (g : Ghosts L) (old swap new : Cache L) {pid : ℕ} {token : Token} {R : Type 0} {given : R} where
  keeps-alone : (answer : Swapped R) → SwapLeaves g old pid token given answer swap → KeepsSwap old swap answer
  keeps-alone answer left = record { batch = left.keeps.batch; fault = by answer left.keeps.fault; stuck = left.keeps.stuck; done = left.keeps.done; refused = left.keeps.refused }
    where
      by : (a : Swapped R) {holds : Type 0} → holds → UnlessMade a holds
      by (Ok (Ok made)) h = tt
      by (Ok (Err back)) h = h
      by (Err e) h = h

  keeps-moved : (answer : Swapped R) → SwapLeaves g old pid token given answer swap → MovesBehind g swap answer new → KeepsSwap old new answer
  keeps-moved (Ok (Ok made)) left moves = record {
    batch = moves.1.keeps.batch ∙ left.keeps.batch;
    fault = tt;
    stuck = λ kept. ((left.keeps.stuck kept).0, grind (arith, left.keeps.stuck kept));
    done = still g swap new moves.0 moves.1 ∙ left.keeps.done;
    refused = tt;
  }
  keeps-moved (Ok (Err back)) left moves = rw moves (keeps-alone (Ok (Err back)) left)
  keeps-moved (Err e) left moves = rw moves (keeps-alone (Err e) left)

  blame-moved : (answer : Swapped R) → SwapLeaves g old pid token given answer swap → MovesBehind g swap answer new → IsBlamed g old new answer
  blame-moved (Ok (Ok made)) left moves = record { read = λ is. grind arith; write = λ is clear. grind arith }
  blame-moved (Ok (Err back)) left moves = rw moves left.blame
  blame-moved (Err e) left moves = rw moves left.blame

module _ {L : Type 0} (g : Ghosts L) (old new : Cache L) (pid : ℕ) (version : Token) where
  puts-keeps : (node : WholeNode) (answer : Swapped WholeNode) → PutsAndMoves g old pid version node answer new → KeepsSwap old new answer
  puts-keeps node answer puts = keeps-moved g old puts.swap new answer puts.puts.left puts.moves

  puts-blame : (node : WholeNode) (answer : Swapped WholeNode) → PutsAndMoves g old pid version node answer new → IsBlamed g old new answer
  puts-blame node answer puts = blame-moved g old puts.swap new answer puts.puts.left puts.moves

  joins-keeps : (link : NodeLink) (answer : Swapped NodeLink) → JoinsOrMoves g old pid version link answer new → KeepsSwap old new answer
  joins-keeps link answer links = by links.joins links.moves
    where
      by : (joins : Bool) → MatchBool joins (new ≡ links.swap) (MovesBehind g links.swap answer new) → KeepsSwap old new answer
      by true same = rw same (keeps-alone g old links.swap links.swap answer links.links.left)
      by false moves = keeps-moved g old links.swap new answer links.links.left moves

  joins-blame : (link : NodeLink) (answer : Swapped NodeLink) → JoinsOrMoves g old pid version link answer new → IsBlamed g old new answer
  joins-blame link answer links = by links.joins links.moves
    where
      by : (joins : Bool) → MatchBool joins (new ≡ links.swap) (MovesBehind g links.swap answer new) → IsBlamed g old new answer
      by true same = rw same links.links.left.blame
      by false moves = blame-moved g old links.swap new answer links.links.left moves

  -- all that both promise
  pub puts-promises : (node : WholeNode) (answer : Swapped WholeNode) → PutsAndMoves g old pid version node answer new → record {
    step : Steps g old (Replace version node) (Replaced answer) new;
    blame : IsBlamed g old new answer;
    keeps : KeepsSwap old new answer;
    token : IfOk answer (IsAnswered old.stamps version node);
    swap : PutsAndMoves g old pid version node answer new;
    unnamed : IfErr answer HasNoName;
  }
  puts-promises node answer puts = record { step = puts-step g old new pid version node answer puts; blame = puts-blame node answer puts; keeps = puts-keeps node answer puts; token = puts.puts.left.token; swap = puts; unnamed = puts.puts.left.unnamed }

  pub joins-promises : (link : NodeLink) (answer : Swapped NodeLink) → version.pid ≡ pid → JoinsOrMoves g old pid version link answer new → record {
    step : Steps g old (call.Link version link) (Linked answer) new;
    blame : IsBlamed g old new answer;
    keeps : KeepsSwap old new answer;
    token : IfOk answer (IsAnswered old.stamps version link);
    swap : JoinsOrMoves g old pid version link answer new;
    unnamed : IfErr answer HasNoName;
  }
  joins-promises link answer at links = record { step = joins-step g old new pid version link answer at links; blame = joins-blame link answer links; keeps = joins-keeps link answer links; token = links.links.left.token; swap = links; unnamed = links.links.left.unnamed }
