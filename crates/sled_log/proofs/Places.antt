-- Where the items of the log in memory stand.
use Rattle.sled_log.proofs.Names.{◌≡◌, ◌≤◌, ◌<◌, ◌+◌, ℕ, zero, suc, true, ◌==◌, Some, List, [], ◌∷◌, ◌++◌, length, take, map, get_or, refl, sym, ◌∙◌, ap, subst, arith, slice_get, IsNonDecreasingBy, and_parts, and_from, eqb-true, sum_by-cons, offset_of, LogItem, head_size, size_of_mark, log_size, stands_at, is_placed, are_placed, item_settled_at, items_settled_at}
use Rattle.sled_log.specs.MemLog.Kept.{KeptChange as Change}
use Rattle.sled_log.specs.MemLog.Kept as kept

log_size-cons : (item : LogItem) (items : List LogItem) → log_size (item ∷ items) ≡ size_of_mark item.mark + log_size items
log_size-cons item items = sum_by-cons (λ (item : LogItem). size_of_mark item.mark) item items

-- what is known of the first item
first-placed : (from : ℕ) (x : LogItem) (items : List LogItem) → are_placed from (x ∷ items) ≡ true
    → (is_placed from x ≡ true) × (stands_at from x.mark ≡ true) × (x.end ≡ from + size_of_mark x.mark) × (are_placed x.end items ≡ true)
first-placed from x items all =
    let a = and_parts (is_placed from x) (are_placed x.end items) all in
    let b = and_parts (stands_at from x.mark) (x.end == from + size_of_mark x.mark) a.0 in
    (a.0, b.0, eqb-true x.end (from + size_of_mark x.mark) b.1, a.1)

-- an item at the end of all others
pub placed-push : (from : ℕ) (items : List LogItem) (item : LogItem) → are_placed from items ≡ true → is_placed (from + log_size items) item ≡ true → are_placed from (items ++ item ∷ []) ≡ true
placed-push from [] item all last = and_from (is_placed from item) true (subst (λ n. is_placed n item ≡ true) (let e : from + 0 ≡ from = omega arith in e) last) refl
placed-push from (x ∷ items) item all last =
    let a = first-placed from x items all in
    let size = log_size-cons x items in
    and_from (is_placed from x) (are_placed x.end (items ++ item ∷ [])) a.0
    (placed-push x.end items item a.3 (subst (λ n. is_placed n item ≡ true) (let e : from + log_size (x ∷ items) ≡ x.end + log_size items = omega arith in e) last))

pub placed-take : (from n : ℕ) (items : List LogItem) → are_placed from items ≡ true → are_placed from (take n items) ≡ true
placed-take from zero items all = refl
placed-take from (suc n) [] all = refl
placed-take from (suc n) (x ∷ items) all =
    let a = and_parts (is_placed from x) (are_placed x.end items) all in
    and_from (is_placed from x) (are_placed x.end (take n items)) a.0 (placed-take x.end n items a.1)

-- items that change stand where they did, where their marks and ends stay
pub placed-map : (change : LogItem → LogItem) → ((x : LogItem) → ((change x).mark ≡ x.mark) × ((change x).end ≡ x.end)) → (from : ℕ) (items : List LogItem) → are_placed from items ≡ true → are_placed from (map change items) ≡ true
placed-map change same from [] all = refl
placed-map change same from (x ∷ items) all = rw ((same x).0, (same x).1) (let a = and_parts (is_placed from x) (are_placed x.end items) all in and_from (is_placed from x) (are_placed x.end (map change items)) a.0 (placed-map change same x.end items a.1))

pub placed-settled : (moment stable from : ℕ) (items : List LogItem) → are_placed from items ≡ true → are_placed from (items_settled_at moment stable items) ≡ true
placed-settled moment zero from items all = placed-map (item_settled_at moment) (λ x. (refl, refl)) from items all
placed-settled moment (suc stable) from [] all = refl
placed-settled moment (suc stable) from (x ∷ items) all =
    let a = and_parts (is_placed from x) (are_placed x.end items) all in
    and_from (is_placed from x) (are_placed x.end (items_settled_at moment stable items)) a.0 (placed-settled moment stable x.end items a.1)

-- ---- ends rise, so that a place is found

ends-from : (from : ℕ) (items : List LogItem) → are_placed from items ≡ true → (j : ℕ) (d : LogItem) → j < length items → from ≤ (get_or items j d).end
ends-from from [] all j d lt = absurd (omega (arith, lt))
ends-from from (x ∷ items) all zero d lt = omega (arith, (first-placed from x items all).2)
ends-from from (x ∷ items) all (suc j) d lt = let a = first-placed from x items all in let rest = ends-from x.end items a.3 j d (omega arith) in omega (arith, a.2, rest)

pub ends-rise : (from : ℕ) (items : List LogItem) → are_placed from items ≡ true → IsNonDecreasingBy (λ item. item.end) items
ends-rise from [] all i j d le lt = absurd (omega (arith, lt))
ends-rise from (x ∷ items) all zero zero d le lt = omega arith
ends-rise from (x ∷ items) all zero (suc j) d le lt = ends-from x.end items (and_parts (is_placed from x) (are_placed x.end items) all).1 j d (omega (arith, lt))
ends-rise from (x ∷ items) all (suc i) zero d le lt = absurd (omega (arith, le))
ends-rise from (x ∷ items) all (suc i) (suc j) d le lt = ends-rise x.end items (and_parts (is_placed from x) (are_placed x.end items) all).1 i j d (omega (arith, le)) (omega (arith, lt))

-- a change ends behind its place, and every item before it ends there at most
pub change-ends : (from : ℕ) (items : List LogItem) → are_placed from items ≡ true → (i : ℕ) (item : LogItem) (change : Change) → slice_get items i ≡ Some item → item.mark ≡ kept.Change change
    → (from ≤ offset_of change.pointer) × (offset_of change.pointer < item.end) × ((j : ℕ) (d : LogItem) → j < i → (get_or items j d).end ≤ offset_of change.pointer)
change-ends from [] all i item change is mark = absurd cc
change-ends from (x ∷ items) all zero item change is mark =
    let a = first-placed from x items all in
    let same : x ≡ item = cc in
    let marked : x.mark ≡ kept.Change change = ap (λ (y : LogItem). y.mark) same ∙ mark in
    let size : size_of_mark x.mark ≡ head_size + length change.payload = ap size_of_mark marked in
    let stands : offset_of change.pointer ≡ from = eqb-true (offset_of change.pointer) from (sym (ap (stands_at from) marked) ∙ a.1) in
    let ends : item.end ≡ x.end = ap (λ (y : LogItem). y.end) (sym same) in
    (omega (arith, stands), omega (arith, stands, size, a.2, ends), λ j d lt. absurd (omega (arith, lt)))
change-ends from (x ∷ items) all (suc i) item change is mark =
    let a = first-placed from x items all in
    let rest = change-ends x.end items a.3 i item change is mark in
    (omega (arith, a.2, rest.0), rest.1, before rest.0 rest.2)
  where
    before : x.end ≤ offset_of change.pointer → ((j : ℕ) (d : LogItem) → j < i → (get_or items j d).end ≤ offset_of change.pointer) → (j : ℕ) (d : LogItem) → j < suc i → (get_or (x ∷ items) j d).end ≤ offset_of change.pointer
    before first others zero d lt = first
    before first others (suc j) d lt = others j d (omega (arith, lt))
