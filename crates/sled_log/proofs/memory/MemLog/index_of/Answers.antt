use Rattle.sled_log.proofs.Names.{⊎_elim, ◌<◌, ◌+◌, ◌-◌, ℕ, List, length, refl, ap, arith, cases_lt, get_or_from_slice_get, slice_get_within, KeptItem, kept_in, last_in}
use Rattle.sled_log.specs.declared.memory.item.LogItem.{LogItem}
use Rattle.sled_log.proofs.Places.{ends-rise, change-ends}
use Rattle.sled_log.proofs.Stored.{kept-length, kept-end, stored-rise, finds}
use Rattle.sled_log.proofs.memory.MemLog.index_of.Goals as goal

-- The place lies in one item alone, since items end one behind the other.
pub returns-then-holds : goal.returns-then-holds
returns-then-holds c = λ i item change is mark at.
    let self = c.args.self.now in
    let stored : List LogItem = self.items.items in
    let kept : List KeptItem = kept_in self in
    let near : ℕ = c.around-from.result.0 + c.partition_point.result in
    let x : LogItem = (finds self.blob_limit self.bytes.items (last_in self) stored i item change is mark).0 in
    let held = c.if-holds.ensures refl x in
    let rise = stored-rise self.blob_limit self.bytes.items (last_in self) 0 0 stored (ends-rise 0 kept self.placed) in
    let ends = change-ends 0 kept self.placed i item change is mark in
    let within = slice_get_within kept i item is in
    let long = kept-length self.blob_limit self.bytes.items (last_in self) 0 0 stored in
    let here = ap (λ (y : KeptItem). y.end) (get_or_from_slice_get kept i item item is) in
    let at_end = λ (j : ℕ) (lt : j < length stored). kept-end self.blob_limit self.bytes.items (last_in self) 0 0 j stored item x lt in
    ⊎_elim
    (λ lt. absurd (let e = ends.2 near item lt in omega (arith, e, held.0, at, at_end near (omega (arith, lt, within, long)))))
    (λ le. ⊎_elim
    (λ lt. absurd (let e = rise i (near - 1) x (omega (arith, lt)) (omega (arith, lt, held.1)) in omega (arith, e, held.2 (omega (arith, lt)), ends.1, here, at, at_end i (omega (arith, within, long)))))
    (λ ge. omega (arith, le, ge))
    (cases_lt i near))
    (cases_lt near i)
