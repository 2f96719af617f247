-- Outcomes of the machine that leave the pages: reading, and moves.
use Rattle.std.proofs.Common.{◌≡◌, ◌⊎◌, inl, inr, ℕ, Bool, true, false, cond, List, [], ◌∷◌, ◌++◌, Option, None, Some, Result, Ok, slice_get, slice_set, refl, sym, ◌∙◌, ap, subst, arith}
use Rattle.std.proofs.lemmas.Bool.{false≢true}
use Rattle.sled_base.specs.declared.types.Error.{Error}
use Rattle.sled_log.specs.Contents.{Content, Free, Counter, Roots, Node, Damaged, Put, contents_from}
use Rattle.sled_log.specs.Events.{Change}
use Rattle.sled_node.specs.Node.{WholeNode}
use Rattle.sled_pagecache.specs.State.{StampedPage, State, contents_of, page_at, Token}
use Rattle.sled_pagecache.specs.Step.{Due, Outcome, outcome, no_change, Flushes, Gets, Finds, FindsContent, WritesAgain, Tidies, is_reserved}
use Rattle.sled_tree.specs.Changed.{LeaveSame}
use Rattle.sled_tree.proofs.Lists.{split, map-at, put-back, within}

-- ---- reading

pub record IsQuiet (s : State) (out : Outcome) : Type 0 where
  pub none : out.changes ≡ []
  pub same : contents_of out.state ≡ contents_of s
  pub stuck : s.fault ≡ true → out.state ≡ s

module _ (s : State) (out : Outcome) where
  pub quiet-same : out ≡ no_change s → IsQuiet s out
  quiet-same h = record { none = ap (λ (o : Outcome). o.changes) h; same = ap (λ (o : Outcome). contents_of o.state) h; stuck = λ _. ap (λ (o : Outcome). o.state) h }

  pub quiet-fault : s.fault ≡ false → out ≡ outcome (record s { fault = true }) [] → IsQuiet s out
  quiet-fault clear h = record { none = ap (λ (o : Outcome). o.changes) h; same = ap (λ (o : Outcome). contents_of o.state) h; stuck = λ kept. absurd (false≢true (sym clear ∙ kept)) }

  pub quiet-flushes : (answer : Result ℕ Error) → Flushes s answer out → IsQuiet s out
  quiet-flushes answer step = grind (arith, quiet-same, quiet-fault)

  pub quiet-gets : (pid : ℕ) (answer : Result (Option (Token × WholeNode)) Error) → Gets s pid answer out → IsQuiet s out
  quiet-gets pid answer step = grind (arith, quiet-same, quiet-fault)

-- ---- a node that was found

-- the page has this node, and nothing changed
pub record IsFound (s : State) (pid : ℕ) (token : Token) (node : WholeNode) (out : Outcome) : Type 0 where
  pub there : slice_get (contents_of s) pid ≡ Some (Node node)
  pub same : out ≡ no_change s
  pub clear : s.fault ≡ false

pub found : (s : State) (pid : ℕ) (token : Token) (node : WholeNode) (out : Outcome) → Gets s pid (Ok (Some (token, node))) out → IsFound s pid token node out
found s pid token node out step =
    split s.fault step (λ _ h. absurd (let e = h.0 in cc)) (λ clear h.
    split (is_reserved pid) h (λ _ h. absurd (let e = h.0 in cc)) (λ _ h. finds clear (page_at s pid) refl h))
  where
    by : (stamp : ℕ) (content : Content) → FindsContent s pid stamp content (Ok (Some (token, node))) out → (content ≡ Node node) × (out ≡ no_change s)
    by stamp Free h = absurd (let e = h.0 in cc)
    by stamp (Node other) h =
        let e = h.1 in
        let pair : ◌≡◌ {A = Token × WholeNode} (token, node) (record { pid = pid; stamp = stamp }, other) = cc in
        (ap (λ (p : Token × WholeNode). Node p.1) (sym pair), h.0)
    by stamp (Counter n) h = absurd h.1
    by stamp (Roots roots) h = absurd h.1
    by stamp Damaged h = absurd h.1

    finds : s.fault ≡ false → (there : Option StampedPage) → page_at s pid ≡ there → Finds s pid there (Ok (Some (token, node))) out → IsFound s pid token node out
    finds clear None at h = absurd (let e = h.0 in cc)
    finds clear (Some there) at h =
        let is = by there.stamp there.content h in
        record { there = map-at (λ (p : StampedPage). p.content) s.pages pid there at ∙ ap (λ (c : Content). Some c) is.0; same = is.1; clear = clear }

-- ---- moves

-- the pages stay, and each event leaves them
pub record IsIdle (s : State) (out : Outcome) : Type 0 where
  pub same : contents_of out.state ≡ contents_of s
  pub leave : LeaveSame (contents_of s) out.changes

pub same-again : (contents : List Content) (pid : ℕ) (c : Content) → slice_get contents pid ≡ Some c → contents_from contents (Change pid (Put c)) ≡ contents
same-again contents pid c at = ap (λ b. cond b (contents ++ c ∷ []) (slice_set contents pid c)) (within contents pid c at) ∙ put-back contents pid c at

module _ (s : State) (out : Outcome) where
  idle-same : out ≡ no_change s → IsIdle s out
  idle-same h = record { same = ap (λ (o : Outcome). contents_of o.state) h; leave = subst (λ (o : Outcome). LeaveSame (contents_of s) o.changes) (sym h) tt }

  idle-fault : out ≡ outcome (record s { fault = true }) [] → IsIdle s out
  idle-fault h = record { same = ap (λ (o : Outcome). contents_of o.state) h; leave = subst (λ (o : Outcome). LeaveSame (contents_of s) o.changes) (sym h) tt }

  module _ {L : Type 0} (due : L → Due) (no_room_again : L → ℕ → Content → Type 0) (log : L) where
    idle-changed : (pid : ℕ) (content : Content) (p : StampedPage) → page_at s pid ≡ Some p → p.content ≡ content → out.changes ≡ Change pid (Put content) ∷ []
        → (out.state ≡ s) ⊎ (out.state ≡ record s { fault = true }) → IsIdle s out
    idle-changed pid content p there is changes state =
        let pages : contents_of out.state ≡ contents_of s = state-same state in
        record {
          same = pages;
          leave = subst (LeaveSame (contents_of s)) (sym changes) (same-again (contents_of s) pid content (map-at (λ (q : StampedPage). q.content) s.pages pid p there ∙ ap (λ (c : Content). Some c) is), tt);
        }
      where
        state-same : (out.state ≡ s) ⊎ (out.state ≡ record s { fault = true }) → contents_of out.state ≡ contents_of s
        state-same (inl h) = ap contents_of h
        state-same (inr h) = ap contents_of h

    idle-again : (pid : ℕ) (content : Content) (p : StampedPage) (answer : Result Bool Error) → page_at s pid ≡ Some p → p.content ≡ content → WritesAgain due no_room_again log s pid content answer out → IsIdle s out
    idle-again pid content p answer there is h = grind (arith, idle-same, idle-fault, idle-changed)

    pub idle-tidies : (answer : Result Bool Error) → Tidies due no_room_again log s answer out → IsIdle s out
    idle-tidies answer step = grind (arith, idle-same, idle-fault, idle-again)
