-- The shortest string that parts two keys.
use Rattle.std.proofs.Common.{◌≡◌, ◌⊎◌, inl, inr, ℕ, zero, suc, ◌+◌, ◌≤◌, [], ◌∷◌, ◌++◌, length, take, drop, refl, sym, ap, subst, ◌∙◌, arith}
use Rattle.std.specs.declared.cmp.Ordering.{Ordering}
use Rattle.std.specs.declared.cmp.Ordering.TheVariants.{Less, Equal, Greater}
use Rattle.std.proofs.lemmas.Bool.{cases_eq}
use Rattle.std.proofs.lemmas.List.{take-append-drop, length-take-le}
use Rattle.sled_base.specs.Order.{Bytes, bytes_cmp, IsBelow, IsAtMost}
use Rattle.sled_base.specs.OrderLaws.{equal_is_same, not_below_itself, below_trans, above_is_below, under_one_front}
use Rattle.sled_node.specs.Splitting.{common_length, IsSeparator}
use Rattle.sled_node.proofs.Prefixes.{common_same, common_other, common_under, below_heads, most_heads, below_from_heads, not_below_empty}

-- ---- at most, and below

most_cases : (a b : Bytes) (o : Ordering) → bytes_cmp b a ≡ o → IsAtMost a b → (a ≡ b) ⊎ IsBelow a b
most_cases a b Less is le = absurd (le is)
most_cases a b Equal is le = inl (sym (equal_is_same b a is))
most_cases a b Greater is le = inr (above_is_below b a is)

at_most : (a b : Bytes) → IsAtMost a b → (a ≡ b) ⊎ IsBelow a b
at_most a b le = most_cases a b (bytes_cmp b a) refl le

pub most_itself : (a : Bytes) → IsAtMost a a
most_itself a = not_below_itself a

pub below_is_most : (a b : Bytes) → IsBelow a b → IsAtMost a b
below_is_most a b lt more = not_below_itself a (below_trans a b a lt more)

pub below_most : (a b c : Bytes) → IsBelow a b → IsAtMost b c → IsBelow a c
below_most a b c lt le = elim (at_most b c le) [ inl same ↦ subst (IsBelow a) same lt | inr more ↦ below_trans a b c lt more ]

pub most_below : (a b c : Bytes) → IsAtMost a b → IsBelow b c → IsBelow a c
most_below a b c le lt = elim (at_most a b le) [ inl same ↦ subst (λ x. IsBelow x c) (sym same) lt | inr less ↦ below_trans a b c less lt ]

-- ---- the cut key

-- one byte past what it shares with the other
abbrev pub cut_key : Bytes → Bytes → Bytes
cut_key left right = take (common_length left right + 1) right

-- what parts two keys has a byte past what they share
is_long : (left right b : Bytes) → IsBelow left b → IsAtMost b right → common_length left right + 1 ≤ length b
is_long left right [] lt le = absurd (not_below_empty left lt)
is_long [] right (z ∷ b) lt le = omega arith
is_long (x ∷ left) [] (z ∷ b) lt le = omega arith
is_long (x ∷ left) (y ∷ right) (z ∷ b) lt le = elim (cases_eq x y) [
  | inl same ↦ elim (below_heads x z left b lt) [
    | inl low ↦ elim (most_heads z y b right le) [ inl high ↦ absurd (omega arith) | inr high ↦ absurd (let e = high.0 in omega arith) ]
    | inr low ↦ elim (most_heads z y b right le) [
      | inl high ↦ absurd (let e = low.0 in omega arith)
      | inr high ↦ omega (arith, common_same x y left right same, is_long left right b low.1 high.1)
    ]
  ]
  | inr other ↦ omega (arith, common_other x y left right other)
]

-- so the greater of two keys is longer than what they share
pub shared_within : (left right : Bytes) → IsBelow left right → common_length left right + 1 ≤ length right
shared_within left right lt = is_long left right right lt (most_itself right)

below_same : (x y : ℕ) (a b : Bytes) → x ≡ y → IsBelow a b → IsBelow (x ∷ a) (y ∷ b)
below_same x y a b same lt = subst (λ z. IsBelow (x ∷ a) (z ∷ b)) same (under_one_front (x ∷ []) a b ∙ lt)

cut_same : (x y : ℕ) (left right : Bytes) → x ≡ y → cut_key (x ∷ left) (y ∷ right) ≡ y ∷ cut_key left right
cut_same x y left right same =
    let one : common_length (x ∷ left) (y ∷ right) + 1 ≡ suc (common_length left right + 1) = omega (arith, common_same x y left right same) in
    ap (λ k. take k (y ∷ right)) one

cut_other : (x y : ℕ) (left right : Bytes) → (x ≡ y → ⊥) → cut_key (x ∷ left) (y ∷ right) ≡ y ∷ []
cut_other x y left right other =
    let one : common_length (x ∷ left) (y ∷ right) + 1 ≡ 1 = omega (arith, common_other x y left right other) in
    ap (λ k. take k (y ∷ right)) one

cut_above : (left right : Bytes) → IsBelow left right → IsBelow left (cut_key left right)
cut_above left [] lt = absurd (not_below_empty left lt)
cut_above [] (y ∷ right) lt = refl
cut_above (x ∷ left) (y ∷ right) lt = elim (below_heads x y left right lt) [
  | inl low ↦ subst (IsBelow (x ∷ left)) (sym (cut_other x y left right (λ same. omega arith))) (below_from_heads x y left [] low)
  | inr both ↦ subst (IsBelow (x ∷ left)) (sym (cut_same x y left right both.0)) (below_same x y left (cut_key left right) both.0 (cut_above left right both.1))
]

-- a beginning is not above
beginning_most : (k : ℕ) (b : Bytes) → IsAtMost (take k b) b
beginning_most zero [] = λ lt. absurd cc
beginning_most zero (y ∷ b) = λ lt. absurd cc
beginning_most (suc k) [] = λ lt. absurd cc
beginning_most (suc k) (y ∷ b) = λ lt. beginning_most k b (sym (under_one_front (y ∷ []) b (take k b)) ∙ lt)

pub cut_separates : (left right : Bytes) → IsBelow left right → IsSeparator left right (cut_key left right)
cut_separates left right lt = record {
  beginning = (drop (common_length left right + 1) right, sym (take-append-drop (common_length left right + 1) right));
  above_left = cut_above left right lt;
  not_above_right = beginning_most (common_length left right + 1) right;
  shortest = λ b above le. omega (arith, is_long left right b above le, length-take-le (common_length left right + 1) right (shared_within left right lt));
}

take_under : (front b : Bytes) (k : ℕ) → take (length front + k) (front ++ b) ≡ front ++ take k b
take_under [] b k = let one : 0 + k ≡ k = omega arith in ap (λ n. take n b) one
take_under (x ∷ front) b k =
    let one : length (x ∷ front) + k ≡ suc (length front + k) = omega arith in
    ap (λ n. take n (x ∷ (front ++ b))) one ∙ ap (λ ys. x ∷ ys) (take_under front b k)

-- whole keys are cut as stored keys are
pub cut_under : (front left right : Bytes) → front ++ cut_key left right ≡ cut_key (front ++ left) (front ++ right)
cut_under front left right =
    let long : common_length (front ++ left) (front ++ right) + 1 ≡ length front + (common_length left right + 1) = omega (arith, common_under front left right) in
    sym (ap (λ k. take k (front ++ right)) long ∙ take_under front right (common_length left right + 1))
