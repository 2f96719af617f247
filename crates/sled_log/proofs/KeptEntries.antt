-- Each entry of a chain is kept by an item.
use Rattle.sled_log.proofs.Names.{◌≡◌, ◌<◌, ℕ, ℤ, zero, suc, Some, List, [], ◌∷◌, length, map, refl, sym, ◌∙◌, ap, subst, slice_index_or, All, Any, All-from_recursion, slice_get, AllByRecursion, DiskPtr, chains_after, Event, entry_of, event_of_mark, event_of, kept_in, state_of, state_at, IsInOrder, Entry, Chain, effect_of_entry, IsAt, now, KeptChange, LogItem, Mark, MemLog}
use Rattle.sled_log.proofs.ChainLaws.{Says, AllIn, chains-all, all-get}
use Rattle.sled_log.specs.MemLog.Kept as kept
use Rattle.sled_log.proofs.Moments.{now_is}

-- an item keeps the entry
abbrev pub IsKept : List LogItem → Entry → Type 0
IsKept items entry = (i : ℕ) × (item : LogItem) × (change : KeptChange) × (slice_get items i ≡ Some item) × (item.mark ≡ kept.Change change) × (entry_of change ≡ entry)

all-from-get : (P : Event Entry → Type 0) (items : List LogItem) → ((i : ℕ) (item : LogItem) → slice_get items i ≡ Some item → P (event_of item)) → AllByRecursion P (map event_of items)
all-from-get P [] h = tt
all-from-get P (x ∷ items) h = (h zero x refl, all-from-get P items (λ i item is. h (suc i) item is))

says-kept : (items : List LogItem) (i : ℕ) (item : LogItem) → slice_get items i ≡ Some item → (mark : Mark) → item.mark ≡ mark → Says effect_of_entry (IsKept items) (event_of_mark mark)
says-kept items i item is (kept.Change change) same = (i, item, change, is, same, refl)
says-kept items i item is kept.Pin same = tt
says-kept items i item is kept.Seal same = tt
says-kept items i item is kept.Cancel same = tt

all-kept : (items : List LogItem) → AllIn effect_of_entry (IsKept items) (chains_after effect_of_entry [] (map event_of items))
all-kept items =
    chains-all effect_of_entry (IsKept items) [] (map event_of items) tt (all-from-get (Says effect_of_entry (IsKept items)) items (λ i item is. says-kept items i item is item.mark refl))

-- each entry of the chains of now is kept
pub now-kept : (clock stable : ℕ) (items : List LogItem) → IsInOrder clock stable items → (pid k : ℕ) (d : Entry)
    → (let chain : Chain = slice_index_or (now effect_of_entry (state_at clock items)) pid [] in k < length chain → IsKept items (slice_index_or chain k d))
now-kept clock stable items order pid k d =
    let all : AllIn effect_of_entry (IsKept items) (now effect_of_entry (state_at clock items)) = subst (AllIn effect_of_entry (IsKept items)) (sym (now_is clock stable items order)) (all-kept items) in
    All-from_recursion (IsKept items) (slice_index_or (now effect_of_entry (state_at clock items)) pid []) (all-get (AllByRecursion (IsKept items)) pid (now effect_of_entry (state_at clock items)) [] all tt) k d

-- what holds of each message that a pointer leads to
abbrev pub Leads : List LogItem → DiskPtr → (Entry → Type 0) → Type 0
Leads items pointer Is = (i : ℕ) (item : LogItem) (change : KeptChange) → slice_get items i ≡ Some item → item.mark ≡ kept.Change change → change.pointer ≡ pointer → Is (entry_of change)

leads-entry : (items : List LogItem) (lsn : ℤ) (pointer : DiskPtr) (Is : Entry → Type 0) (entry : Entry) → Leads items pointer Is → IsKept items entry → IsAt lsn pointer entry → Is entry
leads-entry items lsn pointer Is entry leads (i, item, change, is, mark, kept) at = subst Is kept (leads i item change is mark (ap (λ (e : Entry). e.place.pointer) kept ∙ at.1))

-- so it holds of each entry of a chain that is kept there
module _ (self counted : MemLog) (same : kept_in counted ≡ kept_in self) (pid : ℕ) (lsn : ℤ) (pointer : DiskPtr) (Is : Entry → Type 0) (leads : Leads (kept_in counted) pointer Is) where
  pub each-is : All (λ entry. IsAt lsn pointer entry → Is entry) (slice_index_or (now effect_of_entry (state_of self)) pid [])
  each-is = λ k d lt at.
      leads-entry (kept_in self) lsn pointer Is _ (subst (λ (l : List LogItem). Leads l pointer Is) same leads)
      (now-kept self.clock self.stable (kept_in self) self.in_order pid k d lt) at

  pub one-is : Any (IsAt lsn pointer) (slice_index_or (now effect_of_entry (state_of self)) pid []) → (entry : Entry) × Is entry
  one-is (i, entry, lt, is, at) = (entry, subst Is is (each-is i entry lt (subst (IsAt lsn pointer) (sym is) at)))
