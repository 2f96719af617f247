-- A prefix and a key as one list.
use Rattle.std.proofs.Common.{◌≡◌, ℕ, zero, suc, ◌+◌, ◌-◌, ◌≤◌, List, [], ◌∷◌, ◌++◌, length, take, drop, refl, sym, ap, ◌∙◌, arith}
use Rattle.std.specs.Prelude.{min}
use Rattle.std.proofs.Math.Nat.{sub-zero}
use Rattle.std.proofs.Math.Seq.{take-append_seam}
use Rattle.std.proofs.lemmas.List.{drop_min, length-append, length-drop, take_all}
use Rattle.std.proofs.lemmas.Slice.{take-put_mid}
use borrow.Rule.Slice.PartMut.{put_mid}

-- an array after the prefix is written to its front, and the key behind it
pub written_both : (prefix key array : List ℕ) (front back : List ℕ) (len : ℕ) → len ≡ length prefix + length key → front ≡ prefix → back ≡ key → take len (put_mid (length prefix) (len - length prefix) (front ++ drop (length prefix) array) back) ≡ prefix ++ key
written_both prefix key array front back len is first second =
    let room : length prefix ≤ length (front ++ drop (length prefix) array) = rw (first, length-append) (omega arith) in
    take-put_mid (length prefix) (len - length prefix) (front ++ drop (length prefix) array) back len (rw second is) room
    ∙ ap (λ bytes. take (length prefix) (bytes ++ drop (length prefix) array) ++ back) first
    ∙ ap (λ bytes. bytes ++ back) (take-append_seam prefix (drop (length prefix) array))
    ∙ ap (λ bytes. prefix ++ bytes) second

-- the first n bytes are those of the prefix, and then those of the key
drop_both : (n : ℕ) (prefix key : List ℕ) → drop n (prefix ++ key) ≡ drop n prefix ++ drop (n - length prefix) key
drop_both zero [] key = refl
drop_both (suc n) [] key = rw sub-zero refl
drop_both zero (x ∷ prefix) key = let none : 0 - length (x ∷ prefix) ≡ 0 = omega arith in rw none refl
drop_both (suc n) (x ∷ prefix) key = let less : suc n - length (x ∷ prefix) ≡ n - length prefix = omega arith in rw less (drop_both n prefix key)

-- so it is as to cut from both no more than there is
pub cut_both : (n : ℕ) (prefix key : List ℕ) (front back : ℕ) → front ≡ min n (length prefix) → back ≡ min (n - front) (length key) → take (length prefix - front) (drop front prefix) ++ take (length key - back) (drop back key) ≡ drop n (prefix ++ key)
cut_both n prefix key front back first second =
    let whole : (xs : List ℕ) (k : ℕ) → take (length xs - k) (drop k xs) ≡ drop k xs = λ xs k. take_all (length xs - k) (drop k xs) (rw length-drop (omega arith)) in
    let less : n - front ≡ n - length prefix = rw first (omega arith) in
    ap (λ xs. xs ++ take (length key - back) (drop back key)) (whole prefix front)
    ∙ ap (λ ys. drop front prefix ++ ys) (whole key back)
    ∙ ap (λ k. drop k prefix ++ drop back key) first
    ∙ ap (λ xs. xs ++ drop back key) (drop_min n prefix)
    ∙ ap (λ k. drop n prefix ++ drop k key) second
    ∙ ap (λ ys. drop n prefix ++ ys) (drop_min (n - front) key)
    ∙ ap (λ k. drop n prefix ++ drop k key) less
    ∙ sym (drop_both n prefix key)
