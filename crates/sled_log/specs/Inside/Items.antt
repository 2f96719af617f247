-- What always holds of the items of the log in memory, and what is left of them.
use Rattle.std.specs.Prelude.{◌+◌, ◌≤◌, ℕ, Bool, true, ◌&&◌, nat_le, Some, is_none, List, [], ◌∷◌, ◌++◌, length, take, drop, map, IsTrue, ◌==◌}
use Rattle.std.proofs.Common.{refl, subst, arith}
use Rattle.std.specs.List.{list_all}
use Rattle.sled_base.specs.Pointers.{offset_of}
use Rattle.sled_log.specs.MemLog.Kept.{Mark, LogItem}
use Rattle.sled_log.specs.MemLog.Kept as kept
use Rattle.sled_log.specs.Inside.Laws.{IsFair-none}
use Rattle.sled_log.specs.Messages.{Messages, effect_of}
use Rattle.sled_log.specs.LogState.{IsLeft, unplaced_state}
use Rattle.sled_log.specs.MemLog.Items.{WasLeft, size_of_mark, state_at, was_stable}

-- ---- places

-- whether a change is at that place; a mark has no place
abbrev pub stands_at : ℕ → Mark → Bool
stands_at place (kept.Change change) = offset_of change.pointer == place
stands_at place kept.Pin = true
stands_at place kept.Seal = true
stands_at place kept.Cancel = true

-- whether an item is at that place, and ends after its log size
abbrev pub is_placed : ℕ → LogItem → Bool
is_placed from item = stands_at from item.mark && (item.end == from + size_of_mark item.mark)

-- whether each item is where the one before it ends
abbrev pub are_placed : ℕ → List LogItem → Bool
are_placed from [] = true
are_placed from (item ∷ items) = is_placed from item && are_placed item.end items

-- ---- moments

-- whether the item came by now and isn't stable
abbrev pub is_waiting : ℕ → LogItem → Bool
is_waiting clock item = nat_le item.came clock && is_none item.settled

-- the first items are stable and the others are pending, all with moments in the past
pub record IsInOrder (clock stable : ℕ) (items : List LogItem) : Type 0 where
  pub within : stable ≤ length items
  pub first : IsTrue (list_all (was_stable clock) (take stable items))
  pub others : IsTrue (list_all (is_waiting clock) (drop stable items))

-- an item that becomes stable
abbrev pub item_settled_at : ℕ → LogItem → LogItem
item_settled_at moment item = record { mark = item.mark; end = item.end; came = item.came; settled = Some moment }

-- the items after all from a place on became stable
abbrev pub items_settled_at : ℕ → ℕ → List LogItem → List LogItem
items_settled_at moment stable items = take stable items ++ map (item_settled_at moment) (drop stable items)

-- an item that a crash left
abbrev pub item_after_restart : LogItem → LogItem
item_after_restart item = record { mark = item.mark; end = item.end; came = 0; settled = Some 0 }

-- at the current moment a crash leaves a crash state of the current state
pub left_now : (clock : ℕ) (items : List LogItem) (pages : List Messages) → WasLeft clock items clock pages → IsLeft effect_of (unplaced_state (state_at clock items)) [] pages
left_now clock items pages left =
    let from = left.from in
    let to = left.to in
    subst (λ at. IsLeft effect_of (unplaced_state (state_at at items)) [] pages) (omega arith) left.left

-- what is stable is left
pub stable_left : (clock : ℕ) (items : List LogItem) → WasLeft clock items clock (unplaced_state (state_at clock items)).stable
stable_left clock items =
    let state = unplaced_state (state_at clock items) in
    record {
      at = clock;
      from = omega arith;
      to = omega arith;
      left = record { came = []; beginning = ([], refl); cut = 0; fair = IsFair-none (state.pending ++ []); is = refl };
    }

-- what was left since a moment was left since an earlier one
pub left_earlier : (clock : ℕ) (items : List LogItem) (t u : ℕ) (pages : List Messages) → t ≤ u → WasLeft clock items u pages → WasLeft clock items t pages
left_earlier clock items t u pages le left = let from = left.from in record { at = left.at; from = omega (arith, le, from); to = left.to; left = left.left }
