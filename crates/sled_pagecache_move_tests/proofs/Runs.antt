-- Logs at which nothing is pending, and openings one behind the other.
use Rattle.sled_pagecache.proofs.Names.{◌≡◌, ◌≤◌, ◌∙◌, ℕ, subst, sym, true, List, [], ◌∷◌, map, ap, Event, seen_event, message_in, effect_of_entry, Entry, unplaced_state, Ghosts, stable_state}
use Rattle.sled_log.specs.Events.{is_open}
use Rattle.sled_log.specs.LogState.{now}
use Rattle.sled_pagecache.specs.Opening.{MayBeOpened}
use Rattle.std.specs.Prelude.{Option}
use Rattle.sled_pagecache.specs.Openings.{Ending, IsEmpty, IsRun, Opening, Refused, Lasted}
use Rattle.sled_pagecache.specs.Reopening.{HoldsCrash}
use Rattle.sled_pagecache_move_tests.specs.Runs.{IsOpenedOnce, left_by}

module _ {L : Type 0} (g : Ghosts L) (log : L) (usable : (g.state log).usable ≡ true) (none : (g.state log).pending ≡ []) where
  -- it holds its pages, and nothing else
  pub at_rest : (let state = unplaced_state (g.state log) in state ≡ stable_state state.stable true)
  at_rest =
      let stable = (unplaced_state (g.state log)).stable in
      ap (λ (events : List (Event Entry)). record { stable = stable; pending = map (seen_event message_in) events; usable = (g.state log).usable }) none ∙ ap (stable_state stable) usable

  pub may_be_opened : MayBeOpened g log
  may_be_opened = (usable, ap is_open none)

  pub is_empty : now effect_of_entry (g.state log) ≡ [] → IsEmpty g log
  is_empty no_page =
      let stable : (g.state log).stable ≡ [] = rw none at no_page in
      at_rest ∙ ap (λ (pages : List (List Entry)). stable_state (map (map message_in) pages) true) stable

-- the same of a log that was opened
pub is_empty_of : {L : Type 0} (g : Ghosts L) (log left : L) (ending : Option Ending) → IsOpenedOnce g log ending left → (g.state log).usable ≡ true → (g.state log).pending ≡ [] → now effect_of_entry (g.state log) ≡ [] → IsEmpty g log
is_empty_of g log left ending once usable none no_page = is_empty g log usable none no_page

-- The log that is opened behind a crash of one holds what that left, and may be opened.
pub crash_held : {L : Type 0} (g : Ghosts L) (crashed found left : L) (since at : ℕ) → found ≡ crashed → since ≤ at → (g.state left).usable ≡ true → (g.state left).pending ≡ []
    → g.left_since found at (unplaced_state (g.state left)).stable → HoldsCrash g crashed since left × MayBeOpened g left
crash_held g crashed found left since at same later usable none is = (
  record {
    at = at;
    later = later;
    pages = (unplaced_state (g.state left)).stable;
    left = subst (λ log. g.left_since log at (unplaced_state (g.state left)).stable) same is;
    holds = at_rest g left usable none;
  },
  may_be_opened g left usable none,
)

-- an opening, and others over what it left
pub run_on : {L : Type 0} (g : Ghosts L) (found : L) (opening : Opening L) (openings : List (Opening L)) → IsRun g found (opening ∷ []) → IsRun g (left_by opening) openings → IsRun g found (opening ∷ openings)
run_on g found (Refused config result left) openings (log, stays, starts, leaves, end) others = (log, stays, starts, leaves, others)
run_on g found (Lasted config first calls last ending left) openings (log, stays, starts, made, leaves, end) others = (log, stays, starts, made, leaves, others)

pub run_after : {L : Type 0} (g : Ghosts L) (found left : L) (ending : Option Ending) (once : IsOpenedOnce g found ending left) (openings : List (Opening L)) → IsRun g left openings → IsRun g found (once.opening ∷ openings)
run_after g found left ending once openings others = run_on g found once.opening openings once.run (subst (λ log. IsRun g log openings) (sym once.leaves) others)
