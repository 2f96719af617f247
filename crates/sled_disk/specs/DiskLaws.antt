-- Bytes that are written over others.
use Rattle.std.proofs.Common.{◌≡◌, ℕ, ◌+◌, ◌-◌, ◌≤◌, max, List, [], ◌++◌, length, take, drop, refl, sym, ◌∙◌, ap, subst, arith, append_assoc}
use Rattle.std.proofs.lemmas.List.{take_at, drop_at, take-take, drop-drop, take-append-drop, append-nil, length-append, length-drop, length-take-le}
use Rattle.sled_disk.specs.Disk.{overlaid, Torn}

pub length-overlaid : (old : List ℕ) (at : ℕ) (bytes : List ℕ) → at ≤ length old → length (overlaid old at bytes) ≡ max (length old) (at + length bytes)
length-overlaid old at bytes le =
    let rest : List ℕ = drop (at + length bytes) old in
    omega (arith, length-take-le at old le, length-append (take at old) bytes, length-append (take at old ++ bytes) rest, length-drop (at + length bytes) old)

-- a completed write is one of the possible results of a torn one
pub torn-overlaid : (old : List ℕ) (at : ℕ) (bytes : List ℕ) → at ≤ length old → Torn at (length bytes) old (overlaid old at bytes)
torn-overlaid old at bytes le =
    let front : length (take at old) ≡ at = length-take-le at old le in
    let rest : List ℕ = drop (at + length bytes) old in
    let mid : length (take at old ++ bytes) ≡ at + length bytes = omega (arith, front, length-append (take at old) bytes) in
    let len = length-overlaid old at bytes le in
    record {
      before = ap (λ (l : List ℕ). take at l) (append_assoc (take at old) bytes rest) ∙ take_at (take at old) (bytes ++ rest) at front;
      after = drop_at (take at old ++ bytes) rest (at + length bytes) mid;
      no_shorter = omega (arith, len);
      no_longer = omega (arith, len);
    }

-- and so is one that changes nothing
pub torn-same : (old : List ℕ) (at n : ℕ) → Torn at n old old
torn-same old at n = record { before = refl; after = refl; no_shorter = omega arith; no_longer = omega arith }

-- writing no bytes changes nothing
pub overlaid-nothing : (old : List ℕ) (at : ℕ) → overlaid old at [] ≡ old
overlaid-nothing old at =
    let here : at + 0 ≡ at = omega arith in
    ap (λ (l : List ℕ). l ++ drop (at + 0) old) (append-nil (take at old)) ∙ ap (λ n. take at old ++ drop n old) here ∙ take-append-drop at old

-- two consecutive writes of adjoining pieces are one
pub overlaid-then : (old : List ℕ) (at : ℕ) (xs ys : List ℕ) → at ≤ length old → overlaid (overlaid old at xs) (at + length xs) ys ≡ overlaid old at (xs ++ ys)
overlaid-then old at xs ys le =
    let front : List ℕ = take at old ++ xs in
    let rest : List ℕ = drop (at + length xs) old in
    let mid : length front ≡ at + length xs = omega (arith, length-append (take at old) xs, length-take-le at old le) in
    let end : at + length xs + length ys ≡ at + length (xs ++ ys) = omega (arith, length-append xs ys) in
    let behind : drop (at + length xs + length ys) (front ++ rest) ≡ drop (at + length (xs ++ ys)) old =
    sym (drop-drop (length ys) (at + length xs) (front ++ rest)) ∙ ap (λ (l : List ℕ). drop (length ys) l) (drop_at front rest (at + length xs) mid) ∙ drop-drop (length ys) (at + length xs) old ∙ ap (λ n. drop n old) end in
    ap (λ (l : List ℕ). l ++ ys ++ drop (at + length xs + length ys) (front ++ rest)) (take_at front rest (at + length xs) mid)
    ∙ ap (λ (l : List ℕ). front ++ ys ++ l) behind
    ∙ ap (λ (l : List ℕ). l ++ drop (at + length (xs ++ ys)) old) (append_assoc (take at old) xs ys)

-- a torn range is part of a larger torn range
pub torn-wider : (old new : List ℕ) (at n more : ℕ) → Torn at n old new → Torn at (n + more) old new
torn-wider old new at n more torn =
    let end : at + n + more ≡ at + (n + more) = omega arith in
    let longer = torn.no_shorter in
    let shorter = torn.no_longer in
    record {
      before = torn.before;
      after = subst (λ k. drop k new ≡ drop k old) end (sym (drop-drop more (at + n) new) ∙ ap (λ (l : List ℕ). drop more l) torn.after ∙ drop-drop more (at + n) old);
      no_shorter = longer;
      no_longer = omega (arith, shorter);
    }

-- a range that is torn again from a place in it on is torn
pub torn-then : (old mid new : List ℕ) (at n done : ℕ) → done ≤ n → Torn at n old mid → Torn (at + done) (n - done) mid new → Torn at n old new
torn-then old mid new at n done le first second =
    let end : at + done + (n - done) ≡ at + n = omega (arith, le) in
    let inside : at ≤ at + done = omega arith in
    let longer = first.no_shorter in
    let longer' = second.no_shorter in
    let shorter = first.no_longer in
    let shorter' = second.no_longer in
    record {
      before = sym (take-take at (at + done) new inside) ∙ ap (λ (l : List ℕ). take at l) second.before ∙ take-take at (at + done) mid inside ∙ first.before;
      after = subst (λ k. drop k new ≡ drop k mid) end second.after ∙ first.after;
      no_shorter = omega (arith, longer, longer');
      no_longer = omega (arith, le, shorter, shorter');
    }
