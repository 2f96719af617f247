use Rattle.sled_log.proofs.Names.{⊎_elim, ◌<◌, ℕ, List, length, leb, get_or, sym, ap, subst, arith, rules, IsNonDecreasingBy, cases_lt, leb-true, leb-false, get_or_from_slice_get, slice_get_within, KeptItem, kept_in, last_in}
use Rattle.std.proofs.lemmas.List.Sorted.{IsPartitionPoint-from_clause, IsPartitionedBy-leb}
use Rattle.sled_log.specs.declared.memory.item.LogItem.{LogItem}
use Rattle.sled_log.proofs.Places.{ends-rise, change-ends}
use Rattle.sled_log.proofs.Stored.{kept-length, kept-end, stored-rise, finds}
use Rattle.sled_log.proofs.memory.MemLog.index_among_all.Goals as goal

pub returns : goal.returns
returns c = λ i item change is mark at.
    let self = c.args.self.now in
    let items = c.deref.result.now in
    let stored : List LogItem = self.items.items in
    let kept : List KeptItem = kept_in self in
    let n : ℕ = c.partition_point.result in
    let same = c.deref.ensures.value in
    let x : LogItem = (finds self.blob_limit self.bytes.items (last_in self) stored i item change is mark).0 in
    let rise = subst (λ (l : List LogItem). IsNonDecreasingBy (λ (item : LogItem). item.end) l) (sym same) (stored-rise self.blob_limit self.bytes.items (last_in self) 0 0 stored (ends-rise 0 kept self.placed)) in
    let parted = IsPartitionedBy-leb (λ (item : LogItem). item.end) items c.args.place rise in
    let point = IsPartitionPoint-from_clause (λ (item : LogItem). leb item.end c.args.place) items n c.partition_point.ensures.partitioned parted (λ a r q k. search rules) in
    let ends = change-ends 0 kept self.placed i item change is mark in
    let within = slice_get_within kept i item is in
    let long = kept-length self.blob_limit self.bytes.items (last_in self) 0 0 stored in
    let here = ap (λ (y : KeptItem). y.end) (get_or_from_slice_get kept i item item is) in
    let at_end = λ (j : ℕ) (lt : j < length stored). kept-end self.blob_limit self.bytes.items (last_in self) 0 0 j stored item x lt in
    let found = λ (j : ℕ). ap (λ (l : List LogItem). (get_or l j x).end) same in
    let len = ap (λ (l : List LogItem). length l) same in
    ⊎_elim
    (λ lt. absurd (let e = ends.2 n item lt in let f = leb-false (get_or items n x).end c.args.place (point.1 n x (omega arith) (omega (arith, lt, within, long, len))) in omega (arith, e, f, at, found n, at_end n (omega (arith, lt, within, long)))))
    (λ le. ⊎_elim
    (λ lt. absurd (let e = ends.1 in let f = leb-true (get_or items i x).end c.args.place (point.0 i x (omega arith) lt) in omega (arith, e, f, here, at, found i, at_end i (omega (arith, within, long)))))
    (λ ge. omega (arith, le, ge))
    (cases_lt i n))
    (cases_lt n i)
