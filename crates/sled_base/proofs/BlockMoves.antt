-- Runs of bytes that move in blocks.
use Rattle.std.proofs.Common.{◌≡◌, ℕ, ◌+◌, ◌-◌, ◌≤◌, ◌++◌, length, take, drop, sym, ap, ◌∙◌, append_assoc, arith}
use Rattle.std.proofs.lemmas.List.{length-append, length-take-le, length-drop, take_at, drop_at, take-append-le, drop-drop, drop-take}
use Rattle.std.proofs.Math.Seq.{take-add}
use Rattle.sled_base.specs.Order.{Bytes}
use Rattle.sled_base.proofs.StringEdits.{take_less}

-- the bytes with a run of them, from one place on, over those from another place on
abbrev pub over : Bytes → ℕ → ℕ → ℕ → Bytes
over bytes from to n = take to bytes ++ (take n (drop from bytes) ++ drop (to + n) bytes)

-- the bytes whose run from `at` to `end` has moved up, or whose run that comes from `start` to `at` has moved down
abbrev pub raised : Bytes → ℕ → ℕ → ℕ → Bytes
raised bytes more at end = take (at + more) bytes ++ (take (end - at) (drop at bytes) ++ drop (end + more) bytes)

abbrev pub lowered : Bytes → ℕ → ℕ → ℕ → Bytes
lowered bytes less start at = take start bytes ++ (take (at - start) (drop (start + less) bytes) ++ drop at bytes)

module _ (old now : Bytes) where
  -- a run that moved up, and then the block before it
  module _ (at end more n : ℕ) (fits : n ≤ at) (order : at ≤ end) (within : end + more ≤ length old) (is : now ≡ raised old more at end) where
    abbrev start : ℕ
    start = at - n

    first_many : length (take (at + more) old) ≡ at + more
    first_many = length-take-le (at + more) old (omega (arith, order, within))

    front : (k : ℕ) → k ≤ at + more → take k now ≡ take k old
    front k le = ap (take k) is ∙ take-append-le k (take (at + more) old) (take (end - at) (drop at old) ++ drop (end + more) old) (omega (arith, first_many, le)) ∙ take_less k (at + more) old le

    back : drop (at + more) now ≡ take (end - at) (drop at old) ++ drop (end + more) old
    back = ap (drop (at + more)) is ∙ drop_at (take (at + more) old) (take (end - at) (drop at old) ++ drop (end + more) old) (at + more) first_many

    run : (xs : Bytes) → take n (drop start xs) ≡ drop start (take at xs)
    run xs = let sum : at ≡ start + n = omega (arith, fits) in sym (ap (λ k. drop start (take k xs)) sum ∙ drop-take start n xs)

    pub raised_more : over now start (start + more) n ≡ raised old more start end
    raised_more =
        let one : take (start + more) now ≡ take (start + more) old = front (start + more) (omega (arith, fits)) in
        let block : take n (drop start now) ≡ take n (drop start old) = run now ∙ ap (drop start) (front at (omega arith)) ∙ sym (run old) in
        let place : start + more + n ≡ at + more = omega (arith, fits) in
        let rest : drop (start + more + n) now ≡ take (end - at) (drop at old) ++ drop (end + more) old = ap (λ k. drop k now) place ∙ back in
        let next : drop n (drop start old) ≡ drop at old = drop-drop n start old ∙ ap (λ k. drop k old) (let sum : start + n ≡ at = omega (arith, fits) in sum) in
        let total : end - start ≡ n + (end - at) = omega (arith, fits, order) in
        let both : take (end - start) (drop start old) ≡ take n (drop start old) ++ take (end - at) (drop at old) = ap (λ k. take k (drop start old)) total ∙ take-add n (end - at) (drop start old) ∙ ap (λ xs. take n (drop start old) ++ take (end - at) xs) next in
        (λ i. one i ++ (block i ++ rest i)) ∙ ap (λ xs. take (start + more) old ++ xs) (sym (append_assoc (take n (drop start old)) (take (end - at) (drop at old)) (drop (end + more) old)) ∙ ap (λ xs. xs ++ drop (end + more) old) (sym both))

  -- a run that moved down, and then the block behind it
  module _ (start at less n : ℕ) (order : start ≤ at) (within : at + n + less ≤ length old) (is : now ≡ lowered old less start at) where
    run_many : length (take (at - start) (drop (start + less) old)) ≡ at - start
    run_many = length-take-le (at - start) (drop (start + less) old) (omega (arith, order, within, length-drop (start + less) old))

    start_many : length (take start old) ≡ start
    start_many = length-take-le start old (omega (arith, order, within))

    whole : now ≡ (take start old ++ take (at - start) (drop (start + less) old)) ++ drop at old
    whole = is ∙ sym (append_assoc (take start old) (take (at - start) (drop (start + less) old)) (drop at old))

    moved_many : length (take start old ++ take (at - start) (drop (start + less) old)) ≡ at
    moved_many = omega (arith, order, run_many, start_many, length-append (take start old) (take (at - start) (drop (start + less) old)))

    moved : take at now ≡ take start old ++ take (at - start) (drop (start + less) old)
    moved = ap (take at) whole ∙ take_at (take start old ++ take (at - start) (drop (start + less) old)) (drop at old) at moved_many

    rest : drop at now ≡ drop at old
    rest = ap (drop at) whole ∙ drop_at (take start old ++ take (at - start) (drop (start + less) old)) (drop at old) at moved_many

    later : (k : ℕ) → drop (at + k) now ≡ drop (at + k) old
    later k = sym (drop-drop k at now) ∙ ap (drop k) rest ∙ drop-drop k at old

    pub lowered_more : over now (at + less) at n ≡ lowered old less start (at + n)
    lowered_more =
        let next : drop (at - start) (drop (start + less) old) ≡ drop (at + less) old = drop-drop (at - start) (start + less) old ∙ ap (λ k. drop k old) (let sum : start + less + (at - start) ≡ at + less = omega (arith, order) in sum) in
        let total : at + n - start ≡ at - start + n = omega (arith, order) in
        let both : take (at + n - start) (drop (start + less) old) ≡ take (at - start) (drop (start + less) old) ++ take n (drop (at + less) old) = ap (λ k. take k (drop (start + less) old)) total ∙ take-add (at - start) n (drop (start + less) old) ∙ ap (λ xs. take (at - start) (drop (start + less) old) ++ take n xs) next in
        let tail = take n (drop (at + less) old) ++ drop (at + n) old in
        (λ i. moved i ++ (take n (later less i) ++ later n i)) ∙ append_assoc (take start old) (take (at - start) (drop (start + less) old)) tail ∙ ap (λ xs. take start old ++ xs) (sym (append_assoc (take (at - start) (drop (start + less) old)) (take n (drop (at + less) old)) (drop (at + n) old)) ∙ ap (λ xs. xs ++ drop (at + n) old) (sym both))

-- the same, by where the run begins or ends then
pub raised_on : (old now : Bytes) (at end more next : ℕ) → next ≤ at → at ≤ end → end + more ≤ length old → now ≡ raised old more at end → raised now more next at ≡ raised old more next end
raised_on old now at end more next fits order within is =
    let n = at - next in
    let start : next ≡ at - n = omega (arith, fits) in
    let stop : at + more ≡ at - n + more + n = omega (arith, fits) in
    let small : n ≤ at = omega arith in
    (λ i. take (start i + more) now ++ (take n (drop (start i) now) ++ drop (stop i) now)) ∙ raised_more old now at end more n small order within is ∙ (λ i. raised old more (sym start i) end)

pub lowered_on : (old now : Bytes) (start at less next : ℕ) → start ≤ at → at ≤ next → next + less ≤ length old → now ≡ lowered old less start at → lowered now less at next ≡ lowered old less start next
lowered_on old now start at less next order fits within is =
    let n = next - at in
    let stop : next ≡ at + n = omega (arith, fits) in
    (λ i. take at now ++ (take n (drop (at + less) now) ++ drop (stop i) now)) ∙ lowered_more old now start at less n order (omega (arith, stop, within)) is ∙ (λ i. lowered old less start (sym stop i))

-- what is left at the front is copied as one run, and then all have moved up
pub copied_up : (bytes : Bytes) (more end : ℕ) → take more bytes ++ take (end - 0) bytes ++ drop (more + (end - 0)) bytes ≡ raised bytes more 0 end
copied_up bytes more end =
    let front : more ≡ 0 + more = omega arith in
    let back : more + (end - 0) ≡ end + more = omega arith in
    append_assoc (take more bytes) (take (end - 0) bytes) (drop (more + (end - 0)) bytes) ∙ (λ i. take (front i) bytes ++ (take (end - 0) bytes ++ drop (back i) bytes))

pub all_raised : (bytes : Bytes) (more kept : ℕ) → raised bytes more 0 kept ≡ take more bytes ++ (take kept bytes ++ drop (more + kept) bytes)
all_raised bytes more kept =
    let front : 0 + more ≡ more = omega arith in
    let all : kept - 0 ≡ kept = omega arith in
    let sum : kept + more ≡ more + kept = omega arith in
    λ i. take (front i) bytes ++ (take (all i) bytes ++ drop (sum i) bytes)

-- and what is left at the back, and then all have moved down
pub copied_down : (bytes : Bytes) (less kept at : ℕ) → at ≤ kept → take at bytes ++ take (kept + less - (at + less)) (drop (at + less) bytes) ++ drop (at + (kept + less - (at + less))) bytes ≡ lowered bytes less at kept
copied_down bytes less kept at le =
    let many : kept + less - (at + less) ≡ kept - at = omega arith in
    let stop : at + (kept + less - (at + less)) ≡ kept = omega arith in
    append_assoc (take at bytes) (take (kept + less - (at + less)) (drop (at + less) bytes)) (drop (at + (kept + less - (at + less))) bytes) ∙ (λ i. take at bytes ++ (take (many i) (drop (at + less) bytes) ++ drop (stop i) bytes))

pub all_lowered : (bytes : Bytes) (less kept : ℕ) → lowered bytes less 0 kept ≡ take kept (drop less bytes) ++ drop kept bytes
all_lowered bytes less kept =
    let all : kept - 0 ≡ kept = omega arith in
    let place : 0 + less ≡ less = omega arith in
    λ i. take (all i) (drop (place i) bytes) ++ drop kept bytes
