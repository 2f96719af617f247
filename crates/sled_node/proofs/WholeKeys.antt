-- Stored keys and the rest of the bounds compare as whole keys and the bounds do.
use Rattle.std.proofs.Common.{◌≡◌, ◌≢◌, ◌↔◌, IsTrue, Bool, true, false, not, ℕ, zero, suc, ◌+◌, ◌-◌, ◌<◌, ◌≤◌, ◌^◌, [], ◌∷◌, ◌++◌, length, take, drop, inl, inr, refl, sym, ap, ◌∙◌, arith}
use Rattle.std.proofs.Math.Dec.{leb}
use Rattle.std.proofs.lemmas.List.{take-append-drop, take_all, length-append, length-drop, length-take-le}
use Rattle.std.proofs.lemmas.Bool.{cases_lt, leb-true, le-leb}
use Rattle.sled_base.specs.Order.{Bytes, bytes_cmp, IsBelow}
use Rattle.sled_base.specs.OrderLaws.{under_one_front, not_below_itself}
use Rattle.sled_node.specs.Pairs.{IsWithinLimit}
use Rattle.sled_node.specs.Node.{WholeNode, whole, IsInRange, IsWellFormed}
use Rattle.sled_node.specs.Parts.{AreBounds}

-- two strings with a front in common are the same where one is no longer than the front
same_strings : (p : ℕ) (a b : Bytes) → length a < p → take p a ≡ take p b → a ≡ b
same_strings zero a b lt common = absurd (omega arith)
same_strings (suc p) [] [] lt common = refl
same_strings (suc p) [] (y ∷ b) lt common = absurd cc
same_strings (suc p) (x ∷ a) [] lt common = absurd cc
same_strings (suc p) (x ∷ a) (y ∷ b) lt common =
    let fronts : take p a ≡ take p b = cc in
    let rests = same_strings p a b (omega arith) fronts in
    cc

-- what lo < hi have in common is within lo and within hi
module _ (p : ℕ) (lo hi : Bytes) (lower : IsBelow lo hi) (common : take p lo ≡ take p hi) where
  differ : lo ≡ hi → ⊥
  differ same = not_below_itself hi (ap (λ b. bytes_cmp b hi) (sym same) ∙ lower)

  within_lo : p ≤ length lo
  within_lo = elim (cases_lt (length lo) p) [ inl lt ↦ absurd (differ (same_strings p lo hi lt common)) | inr le ↦ le ]

  within_hi : p ≤ length hi
  within_hi = elim (cases_lt (length hi) p) [ inl lt ↦ absurd (differ (sym (same_strings p hi lo lt (sym common)))) | inr le ↦ le ]

-- the same, where an empty hi is no bound
pub bounds_within : (p : ℕ) (lo hi : Bytes) → AreBounds p lo hi → (p ≤ length lo) × (p ≤ length hi)
bounds_within p lo [] bounds = let none = bounds.prefix_open refl in (omega arith, omega arith)
bounds_within p lo (y ∷ hi) bounds =
    let lower = bounds.range (λ none. absurd cc) in
    (within_lo p lo (y ∷ hi) lower bounds.prefix_common, within_hi p lo (y ∷ hi) lower bounds.prefix_common)

pub bounds_of : (n : WholeNode) → IsWellFormed n → AreBounds n.prefix_len n.lo n.hi
bounds_of n formed = record { range = formed.range; prefix_open = formed.prefix_open; prefix_common = formed.prefix_common; bounds = formed.bounds }

-- the skipped bytes are there
pub prefix_within : (n : WholeNode) → IsWellFormed n → (n.prefix_len ≤ length n.lo) × (n.prefix_len ≤ length n.hi)
prefix_within n formed = bounds_within n.prefix_len n.lo n.hi (bounds_of n formed)

-- the bytes of a bound after those that are skipped
abbrev pub rest : ℕ → Bytes → Bytes
rest p bound = take (length bound - p) (drop p bound)

rest_empty : (p : ℕ) → rest p [] ≡ []
rest_empty zero = refl
rest_empty (suc p) = take_all (0 - suc p) [] (omega arith)

not_below_empty : (a : Bytes) → IsBelow a [] → ⊥
not_below_empty [] lt = absurd cc
not_below_empty (x ∷ a) lt = absurd cc

-- the rest of a bound compares as the bound does
from_bound : (p : ℕ) (bound stored : Bytes) → bytes_cmp (take p bound ++ stored) bound ≡ bytes_cmp stored (rest p bound)
from_bound p bound stored =
    ap (bytes_cmp (take p bound ++ stored)) (sym (take-append-drop p bound)) ∙ under_one_front (take p bound) stored (drop p bound) ∙ ap (bytes_cmp stored) (sym (take_all (length bound - p) (drop p bound) (omega (arith, length-drop p bound))))

-- ---- a stored key of a node

module _ (n : WholeNode) (bounds : AreBounds n.prefix_len n.lo n.hi) (stored : Bytes) where
  pub whole_length : length (whole n stored) ≡ n.prefix_len + length stored
  whole_length = length-append (take n.prefix_len n.lo) stored ∙ ap (λ k. k + length stored) (length-take-le n.prefix_len n.lo (bounds_within n.prefix_len n.lo n.hi bounds).0)

  pub whole_lo : bytes_cmp (whole n stored) n.lo ≡ bytes_cmp stored (rest n.prefix_len n.lo)
  whole_lo = from_bound n.prefix_len n.lo stored

  pub whole_hi : bytes_cmp (whole n stored) n.hi ≡ bytes_cmp stored (rest n.prefix_len n.hi)
  whole_hi = ap (λ front. bytes_cmp (front ++ stored) n.hi) bounds.prefix_common ∙ from_bound n.prefix_len n.hi stored

  -- the rest of hi is empty only where hi is
  pub rest_some : n.hi ≢ [] → rest n.prefix_len n.hi ≢ []
  rest_some some none =
      not_below_empty (drop n.prefix_len n.lo) (ap (bytes_cmp (drop n.prefix_len n.lo)) (sym none) ∙ sym (from_bound n.prefix_len n.hi (drop n.prefix_len n.lo)) ∙ ap (λ front. bytes_cmp (front ++ drop n.prefix_len n.lo) n.hi) (sym bounds.prefix_common) ∙ ap (λ lo. bytes_cmp lo n.hi) (take-append-drop n.prefix_len n.lo) ∙ bounds.range some)

  pub hi_some : rest n.prefix_len n.hi ≢ [] → n.hi ≢ []
  hi_some some none = some (ap (rest n.prefix_len) none ∙ rest_empty n.prefix_len)

-- ---- the tests of a node on a stored key

module _ (n : WholeNode) (formed : IsWellFormed n) (stored : Bytes) where
  pub short_test : IsTrue (leb (length stored) (2 ^ 31 - 1 - n.prefix_len)) ↔ IsWithinLimit (whole n stored)
  short_test =
      let long = whole_length n (bounds_of n formed) stored in
      let byte = formed.prefix_byte in
      (λ true. let le = leb-true _ _ true in omega arith, λ lt. le-leb _ _ (omega arith))

  -- below lo
  pub out_of_range : (low : Bool) → low ≡ true → IsTrue low ↔ IsBelow stored (rest n.prefix_len n.lo) → IsTrue (not low) ↔ IsInRange n (whole n stored)
  out_of_range low below tells = (λ no. absurd cc, λ inside. absurd (inside.0 (whole_lo n (bounds_of n formed) stored ∙ tells.0 below)))

  -- not below lo
  pub range_to_hi : (low high : Bool) → low ≡ false → IsTrue low ↔ IsBelow stored (rest n.prefix_len n.lo) → n.hi ≢ [] → IsTrue high ↔ IsBelow stored (rest n.prefix_len n.hi) → IsTrue high ↔ IsInRange n (whole n stored)
  range_to_hi low high above tells bounded ends =
      (λ yes. (λ lt. let below = tells.1 (sym (whole_lo n (bounds_of n formed) stored) ∙ lt) in absurd cc, λ some. whole_hi n (bounds_of n formed) stored ∙ ends.0 yes), λ inside. ends.1 (sym (whole_hi n (bounds_of n formed) stored) ∙ inside.1 bounded))
