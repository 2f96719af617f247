-- Where the machine may answer a call in two ways alike, there is one that leaves the state of the second and passes the pages of the first.
use Rattle.std.proofs.Common.{◌≡◌, ◌⊎◌, inl, inr, ℕ, Bool, true, false, List, nat_lt, Ok, Err, Option, None, Some, slice_get, slice_set, refl, sym, ◌∙◌, ap, subst}
use Rattle.std.specs.Prelude.{◌==◌, MatchBool}
use Rattle.sled_base.specs.declared.types.Error.{Error}
use Rattle.sled_log.specs.Contents.{Content, Free, Counter, Roots, Node, Damaged, Update}
use Rattle.sled_log.specs.Events.{Event}
use Rattle.sled_log.specs.declared.log.Log.{Ghosts}
use Rattle.sled_node.specs.Links.{applied}
use Rattle.sled_node.specs.Node.{WholeNode}
use Rattle.sled_node.specs.declared.node.link.Link.{Link as NodeLink}
use Rattle.sled_pagecache.specs.Cache.{Cache, chain_length}
use Rattle.sled_pagecache.specs.Calls.{StepOver, HasNoRoom, HasNoRoomAgain, IsBehind}
use Rattle.sled_pagecache.specs.Due.{due_in}
use Rattle.sled_pagecache.specs.Limits.{most_messages}
use Rattle.sled_pagecache.specs.State.{State, StampedPage, page_at, is_free, contents_of, Token}
use Rattle.sled_pagecache.specs.Step.{Outcome, Swapped, SwapsPage, Links, LinksContent, TidiesIfSwapped, is_reserved}
use Rattle.sled_pagecache.specs.declared.pagecache.handles.call.Answer.{Answer}
use Rattle.sled_pagecache.specs.declared.pagecache.handles.call.Answer.TheVariants.{Linked, Replaced}
use Rattle.sled_pagecache.specs.declared.pagecache.handles.call.Call.{Call}
use Rattle.sled_pagecache.specs.declared.pagecache.handles.call.Call.TheVariants.{Link, Replace}
use Rattle.sled_tree.specs.Changed.{EndsSwap}
use Rattle.sled_tree.proofs.Lists.{split, map-at}
use Rattle.sled_tree.proofs.Outcomes.{replaces, links, if-swapped}
use Rattle.sled_tree.proofs.OpeningsPassing.{Passes, passes-itself, passes-change}
use Rattle.sled_tree.proofs.OpeningsTwins.{same-act}

-- a link that was made is of a page with a node
module _ (s : State) (out : Outcome) (messages : ℕ → ℕ) (no_room : Event Update → Type 0) (old : Token) (link : NodeLink) (made : Token) where
  abbrev HasNode : Type 0
  HasNode = (n : WholeNode) × (slice_get (contents_of s) old.pid ≡ Some (Node n))

  linked-node : Links messages no_room s old link (Ok (Ok made)) out → HasNode
  linked-node step =
      split s.fault step (λ _ h. absurd (let e = h.0 in cc)) (λ _ h.
      split (is_reserved old.pid) h (λ _ h. absurd (let e = h.0 in cc)) (λ _ h. page (page_at s old.pid) refl h))
    where
      by : (p : StampedPage) → page_at s old.pid ≡ Some p → (content : Content) → p.content ≡ content → LinksContent messages no_room s old link (Ok (Ok made)) out content → HasNode
      by p at (Node n) is h = (n, map-at (λ (q : StampedPage). q.content) s.pages old.pid p at ∙ ap (λ (c : Content). Some c) is)
      by p at Free is h = absurd h.1
      by p at (Counter n) is h = absurd h.1
      by p at (Roots roots) is h = absurd h.1
      by p at Damaged is h = absurd h.1

      page : (found : Option StampedPage) → page_at s old.pid ≡ found → SwapsPage s old link found (Ok (Ok made)) out (LinksContent messages no_room s old link (Ok (Ok made)) out) → HasNode
      page None at h = absurd (let e = h.0 in cc)
      page (Some p) at h =
          split (is_free p.content) h (λ _ h. absurd (let e = h.0 in cc)) (λ _ h.
          split (p.stamp == old.stamp) h (λ _ h. by p at p.content refl h) (λ _ h. absurd (let e = h.0 in cc)))

module _ {L : Type 0} (g : Ghosts L) (cache : Cache L) (s : State) where
  pub record HasTwin (asked : Call) (answer : Answer) (out : Outcome) (t : State) : Type 0 where
    pub other : Outcome
    pub step : StepOver g cache s asked answer other
    pub state : other.state ≡ t
    pub passes : Passes (contents_of s) out.changes other.changes

  itself : (asked : Call) (answer : Answer) (out : Outcome) (t : State) → StepOver g cache s asked answer out → out.state ≡ t → HasTwin asked answer out t
  itself asked answer out t step same = record { other = out; step = step; state = same; passes = passes-itself (contents_of s) out.changes }

  -- the move behind a swap, but for a link that joins the messages of its page
  abbrev Behind : {R : Type 0} → Bool → Swapped R → Outcome → Outcome → Type 0
  Behind joins answer swap out = MatchBool joins (out ≡ swap) (TidiesIfSwapped (due_in g cache.config) (HasNoRoomAgain g) (IsBehind g cache.log) answer swap out)

  ends-behind : {R : Type 0} (joins : Bool) (answer : Swapped R) (changed : List Content) (swap out : Outcome) → EndsSwap answer s changed swap.changes swap.state → Behind joins answer swap out → EndsSwap answer s changed out.changes out.state
  ends-behind true answer changed swap out ends is = subst (λ (o : Outcome). EndsSwap answer s changed o.changes o.state) (sym is) ends
  ends-behind false answer changed swap out ends behind = if-swapped (due_in g cache.config) (HasNoRoomAgain g) (IsBehind g cache.log) s swap out changed answer ends behind

  -- a swap that wasn't made stands alone
  back-alone : {R : Type 0} (joins : Bool) (back : Option (Token × R)) (swap out : Outcome) → Behind {R = R} joins (Ok (Err back)) swap out → out.state ≡ swap.state
  back-alone true back swap out is = ap (λ (o : Outcome). o.state) is
  back-alone false back swap out is = ap (λ (o : Outcome). o.state) is

  error-alone : (R : Type 0) (joins : Bool) (e : Error) (swap out : Outcome) → Behind {R = R} joins (Err e) swap out → out.state ≡ swap.state
  error-alone R true e swap out is = ap (λ (o : Outcome). o.state) is
  error-alone R false e swap out is = ap (λ (o : Outcome). o.state) is

  -- Two swaps with the same answer: where both were made, they change the page alike, and else no move is behind them.
  module _ {R : Type 0} (joins : Bool) (swap out swap_too other : Outcome) where
    swaps-alike : (answer : Swapped R) → ((made : Token) → answer ≡ Ok (Ok made) → (changed : List Content) × EndsSwap answer s changed swap.changes swap.state × EndsSwap answer s changed swap_too.changes swap_too.state)
        → swap.state ≡ swap_too.state → Behind joins answer swap out → Behind joins answer swap_too other → (out.state ≡ other.state) ⊎ Passes (contents_of s) out.changes other.changes
    swaps-alike (Ok (Ok made)) ends same one two =
        let (changed, first, second) = ends made refl in
        inr (passes-change (contents_of s) changed out.changes other.changes (ends-behind {R = R} joins (Ok (Ok made)) changed swap out first one).0 (ends-behind {R = R} joins (Ok (Ok made)) changed swap_too other second two).0)
    swaps-alike (Ok (Err back)) ends same one two = inl (back-alone joins back swap out one ∙ same ∙ sym (back-alone joins back swap_too other two))
    swaps-alike (Err e) ends same one two = inl (error-alone R joins e swap out one ∙ same ∙ sym (error-alone R joins e swap_too other two))

  either : (asked : Call) (answer : Answer) (out other : Outcome) → StepOver g cache s asked answer out → StepOver g cache s asked answer other → (out.state ≡ other.state) ⊎ Passes (contents_of s) out.changes other.changes → HasTwin asked answer out other.state
  either asked answer out other one two (inl same) = itself asked answer out other.state one same
  either asked answer out other one two (inr passes) = record { other = other; step = two; state = refl; passes = passes }

  pub twin : (asked : Call) (answer : Answer) (out other : Outcome) → StepOver g cache s asked answer out → StepOver g cache s asked answer other → HasTwin asked answer out other.state
  twin (Replace old node) (Replaced answer) out other (swap, act, behind) (swap_too, act_too, behind_too) =
      let messages = chain_length g.state cache in
      let no_room = HasNoRoom g cache.log in
      either (Replace old node) (Replaced answer) out other (swap, act, behind) (swap_too, act_too, behind_too)
      (swaps-alike false swap out swap_too other answer
      (λ made is. (slice_set (contents_of s) old.pid (Node node), replaces s swap messages no_room old node answer act, replaces s swap_too messages no_room old node answer act_too))
      (same-act g cache s swap swap_too (Replace old node) (Replaced answer) act act_too) behind behind_too)
  twin (Link old link) (Linked answer) out other (swap, act, behind) (swap_too, act_too, behind_too) =
      let messages = chain_length g.state cache in
      let no_room = HasNoRoom g cache.log in
      either (Link old link) (Linked answer) out other (swap, act, behind) (swap_too, act_too, behind_too)
      (swaps-alike (nat_lt (messages old.pid) most_messages) swap out swap_too other answer
      (λ made is.
      let (n, at) = linked-node s swap messages no_room old link made (subst (λ a. Links messages no_room s old link a swap) is act) in
      (slice_set (contents_of s) old.pid (Node (applied link n)), links s swap messages no_room old link answer n at act, links s swap_too messages no_room old link answer n at act_too))
      (same-act g cache s swap swap_too (Link old link) (Linked answer) act act_too) behind behind_too)
  twin asked answer out other one two = itself asked answer out other.state one (same-act g cache s out other asked answer one two)
