-- What the law on openings says of two that each add a page and flush it, and then crash: the second adds the page behind that of the
-- first.
use Rattle.std.proofs.Common.{◌≡◌, ◌==◌, ◌≤◌, ◌∙◌, ℕ, Bool, false, List, [], ◌∷◌, ◌++◌, length, take, None, Ok, ap, arith, refl, subst}
use Rattle.sled_log.specs.Contents.{Content, Counter, Node, Put, Roots, Update, contents_after}
use Rattle.sled_log.specs.Events.{Change, Event}
use Rattle.sled_log.specs.LogState.{IsPrefix}
use Rattle.sled_log.specs.declared.log.Log.{Ghosts}
use Rattle.sled_node.specs.Node.{WholeNode}
use Rattle.sled_pagecache.specs.Cache.{Cache}
use Rattle.sled_pagecache.specs.Prefixes.{AreStepsServed, History, Survives, with_all_flushed, history_after_calls, history_after_changes, with_made, pages_by_now, history_after_start, history_from}
use Rattle.sled_pagecache.specs.Limits.{most_pages}
use Rattle.sled_pagecache.specs.Opening.{opened_state}
use Rattle.sled_pagecache.specs.Openings.{Crashed, Lasted, Opening}
use Rattle.sled_pagecache.specs.Prefixes.{ShowPrefixes}
use Rattle.sled_pagecache.specs.State.{State, greatest_free}
use Rattle.sled_pagecache.specs.Step.{Outcome}
use Rattle.sled_pagecache.specs.State.{Token}
use Rattle.sled_pagecache.specs.declared.pagecache.handles.call.Answer.{Answer}
use Rattle.sled_pagecache.specs.declared.pagecache.handles.call.Answer.TheVariants.{Allocated, Flushed}
use Rattle.sled_pagecache.specs.declared.pagecache.handles.call.Call.{Call}
use Rattle.sled_pagecache.specs.declared.pagecache.handles.call.Call.TheVariants.{Allocate, Flush}
use Rattle.sled_pagecache.specs.declared.pagecache.handles.config.Config.{Config}

-- a page was added, and all was flushed
abbrev pub calls_of : WholeNode → ℕ × Token → ℕ → List (Call × Answer)
calls_of node page written = (Allocate node, Allocated (Ok page)) ∷ (Flush, Flushed (Ok written)) ∷ []

abbrev change_of : ℕ → WholeNode → List (Event Update)
change_of pid node = Change pid (Put (Node node)) ∷ []

abbrev history_of : ℕ → WholeNode → History → History
history_of pid node h = with_all_flushed (with_made [] (with_made (change_of pid node) h))

none-came : {E : Type 0} (came : List (Event E)) → IsPrefix came [] → came ≡ []
none-came [] prefix = refl
none-came (event ∷ came) prefix = let e = prefix.1 in absurd cc

-- what a crash leaves of the first opening
survivors : (node : WholeNode) (pages : List Content) → Survives (history_of 2 node (history_after_start (history_from []))) pages → pages ≡ Roots [] ∷ Counter 0 ∷ Node node ∷ []
survivors node pages left =
    let all : List (Event Update) = Change 0 (Put (Roots [])) ∷ Change 1 (Put (Counter 0)) ∷ change_of 2 node in
    let none = none-came left.prefix.came left.prefix.beginning in
    let within : left.prefix.cut ≤ 3 = subst (λ (l : List (Event Update)). left.prefix.cut ≤ length (all ++ l)) none left.prefix.fair.within in
    let holds = left.holds in
    let three : left.prefix.cut ≡ 3 = omega (arith, within, holds) in
    left.prefix.is ∙ ap (λ (l : List (Event Update)). contents_after [] (take left.prefix.cut (all ++ l))) none ∙ ap (λ (n : ℕ). contents_after [] (take n all)) three

module _ {L : Type 0} (g : Ghosts L) where
  -- the page that such calls add, and what came by then
  record IsAdded (s : State) (h : History) (node : WholeNode) (page : ℕ × Token) (written : ℕ) (outs : List Outcome) : Type 0 where
    pub pid : page.0 ≡ length s.pages
    pub came : history_after_calls (calls_of node page written) outs h ≡ history_of (length s.pages) node h

  is-added : (first last : Cache L) (s t : State) (h : History) (node : WholeNode) (page : ℕ × Token) (written : ℕ) (outs : List Outcome)
      → s.fault ≡ false → s.batch ≡ false → greatest_free 0 s.pages ≡ None → (length s.pages == most_pages) ≡ false
      → AreStepsServed g first s (calls_of node page written) outs last t → IsAdded s h node page written outs
  is-added first last s t h node page written [] clear closed none few steps = absurd steps
  is-added first last s t h node page written (one ∷ []) clear closed none few (begun, mid, served_one, made_one, step_one, in_one, steps) = absurd steps
  is-added first last s t h node page written (one ∷ two ∷ three ∷ outs) clear closed none few (begun, mid, served_one, made_one, step_one, in_one, (then, end, served_two, made_two, step_two, in_two, steps)) = absurd steps
  is-added first last s t h node page written (one ∷ two ∷ []) clear closed none few (begun, mid, served_one, made_one, step_one, in_one, (then, end, served_two, made_two, step_two, in_two, served)) =
      let done = rw few at (rw none at (rw clear at step_one)) in
      let state = done.1.2 in
      let free : one.state.fault ≡ false = ap (λ (u : State). u.fault) state in
      let shut : one.state.batch ≡ false = ap (λ (u : State). u.batch) state ∙ closed in
      let flushed = rw shut at (rw free at step_two) in
      let change = change_of (length s.pages) node in
      record {
        pid = done.1.0;
        came =
            ap (λ (b : Bool). history_after_changes two.state.fault (Flushed (Ok written)) two.changes (history_after_changes b (Allocated (Ok page)) one.changes h)) free
            ∙ ap (λ (l : List (Event Update)). history_after_changes two.state.fault (Flushed (Ok written)) two.changes (with_made l h)) done.0
            ∙ ap (λ (o : Outcome). history_after_changes o.state.fault (Flushed (Ok written)) o.changes (with_made change h)) flushed;
      }

  -- an opening that makes these calls, and crashes
  abbrev pub opening_of : Config → Cache L → WholeNode → ℕ × Token → ℕ → Cache L → L → Opening L
  opening_of config first node page written last left = Lasted config first (calls_of node page written) last Crashed left

  pub in-order : (config : Config) (first first_then second second_then : Cache L) (node other : WholeNode) (page next : ℕ × Token) (written written_then : ℕ) (left left_then : L)
      → ShowPrefixes g (history_from []) (opening_of config first node page written first_then left ∷ opening_of config second other next written_then second_then left_then ∷ [])
      → (page.0 ≡ 2) × (next.0 ≡ 3)
  in-order config first first_then second second_then node other page next written written_then left left_then (is_opened, outs, t, steps, agrees, after, (pages, survive, is), (reopened, more, u, steps_then, agrees_then, last_left, last_crash, done)) =
      let one = is-added first first_then (opened_state config []) t (history_after_start (history_from [])) node page written outs refl refl refl refl steps in
      let by_now : pages_by_now after ≡ Roots [] ∷ Counter 0 ∷ Node node ∷ [] = ap pages_by_now is ∙ survivors node pages (subst (λ (h : History). Survives h pages) one.came survive) in
      let two =
      is-added second second_then (opened_state config (Roots [] ∷ Counter 0 ∷ Node node ∷ [])) u (history_after_start after) other next written_then more refl refl refl refl
      (subst (λ (contents : List Content). AreStepsServed g second (opened_state config contents) (calls_of other next written_then) more second_then u) by_now steps_then) in
      (one.pid, two.pid)
