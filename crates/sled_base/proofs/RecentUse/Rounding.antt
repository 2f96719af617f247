-- The rounded size is the next power of two.
use Rattle.std.proofs.Common.{inl, inr, ◌≡◌, ℕ, zero, suc, ◌+◌, ◌*◌, ◌/◌, ◌^◌, ◌<◌, ◌≤◌, Bool, true, false, refl, sym, ap, subst, ◌∙◌, arith}
use Rattle.std.specs.Prelude.{nat_le, max, ◌⊎◌}
use Rattle.std.proofs.Math.Nat.{pow-suc, pow-le-pow_right}
use Rattle.std.proofs.lemmas.Bool.{leb-true, leb-false, cases_lt}
use Rattle.sled_base.specs.Lru.{doubled_to, rounded}

lt-two-pow : (n : ℕ) → n < 2 ^ n
lt-two-pow zero = omega arith
lt-two-pow (suc n) = let below = lt-two-pow n in rw pow-suc (omega (arith, below))

-- from a power below the last one on, the doubling comes to the last one
doubled_is : (n size j k : ℕ) → size ≤ 2 ^ k → ((i : ℕ) → i < k → 2 ^ i < size) → j ≤ k → k ≤ j + n → doubled_to n size (2 ^ j) ≡ 2 ^ k
doubled_is zero size j k fits least from to = ap (λ i. 2 ^ i) (let same : j ≡ k = omega arith in same)
doubled_is (suc n) size j k fits least from to =
    of_test (nat_le size (2 ^ j)) refl (λ lt. doubled_is n size (suc j) k fits least (omega arith) (omega arith)) (cases_lt j k)
  where
    of_test : (b : Bool) → nat_le size (2 ^ j) ≡ b → (j < k → doubled_to n size (2 ^ suc j) ≡ 2 ^ k) → (j < k) ⊎ (k ≤ j) → (elim b [ true ↦ 2 ^ j | false ↦ doubled_to n size (2 * 2 ^ j) ]) ≡ 2 ^ k
    of_test true e rest (inl lt) = absurd (omega (arith, leb-true size (2 ^ j) e, least j lt))
    of_test true e rest (inr le) = ap (λ i. 2 ^ i) (let same : j ≡ k = omega arith in same)
    of_test false e rest (inl lt) = subst (λ power. doubled_to n size power ≡ 2 ^ k) (let next : 2 ^ suc j ≡ 2 * 2 ^ j = rw pow-suc (omega arith) in next) (rest lt)
    of_test false e rest (inr le) = absurd (let same : j ≡ k = omega arith in omega (arith, leb-false size (2 ^ j) e, ap (λ i. 2 ^ i) same))

-- the powers before the next power of two are below the size
below_size : (size k : ℕ) → 2 ^ k / 2 < max 1 size → (i : ℕ) → i < k → 2 ^ i < size
below_size size zero half i lt = absurd (omega arith)
below_size size (suc k) half i lt =
    let double : 2 ^ suc k ≡ 2 ^ k * 2 = pow-suc 2 k in
    let one = pow-le-pow_right {n = 2} (omega arith) {i = 0} {j = k} (omega arith) in
    let le = pow-le-pow_right {n = 2} (omega arith) {i = i} {j = k} (omega arith) in
    omega (arith, double, one, le, half)

pub rounded_is : (size power k : ℕ) → power ≡ 2 ^ k → size ≤ power → power / 2 < max 1 size → power ≡ rounded size
rounded_is size power k is fits half =
    let least = below_size size k (subst (λ p. p / 2 < max 1 size) is half) in
    is ∙ sym (doubled_is size size 0 k (omega (arith, is)) least (omega arith) (enough k least))
  where
    enough : (k : ℕ) → ((i : ℕ) → i < k → 2 ^ i < size) → k ≤ 0 + size
    enough zero least = omega arith
    enough (suc k) least = omega (arith, least k (omega arith), lt-two-pow k)

pub rounded_bound : (size power k : ℕ) → power ≡ 2 ^ k → power / 2 < max 1 size → size ≤ 2 ^ 63 → power ≤ 2 ^ 63
rounded_bound size power k is half small = elim (cases_lt k 64) [
  | inl lt ↦ omega (arith, is, pow-le-pow_right {n = 2} (omega arith) {i = k} {j = 63} (omega arith))
  | inr le ↦ absurd (omega (arith, is, half, pow-le-pow_right {n = 2} (omega arith) {i = 64} {j = k} le))
]

-- ---- its exponent

pub record IsPower (n : ℕ) : Type 0 where
  pub exponent : ℕ
  pub is : n ≡ 2 ^ exponent

doubled_power : (n size j : ℕ) → IsPower (doubled_to n size (2 ^ j))
doubled_power zero size j = record { exponent = j; is = refl }
doubled_power (suc n) size j = of_test (nat_le size (2 ^ j)) (doubled_power n size (suc j))
  where
    of_test : (b : Bool) → IsPower (doubled_to n size (2 ^ suc j)) → IsPower (elim b [ true ↦ 2 ^ j | false ↦ doubled_to n size (2 * 2 ^ j) ])
    of_test true rest = record { exponent = j; is = refl }
    of_test false rest = subst (λ power. IsPower (doubled_to n size power)) (let next : 2 ^ suc j ≡ 2 * 2 ^ j = rw pow-suc (omega arith) in next) rest

pub rounded_power : (size : ℕ) → IsPower (rounded size)
rounded_power size = doubled_power size size 0

pub power_is_some : (n : ℕ) → IsPower n → 0 < n
power_is_some n power = omega (arith, power.is, pow-le-pow_right {n = 2} (omega arith) {i = 0} {j = power.exponent} (omega arith))

pub logarithm_is : (n k : ℕ) → IsPower n → 2 ^ k ≤ n → n < 2 * 2 ^ k → 2 ^ k ≡ n
logarithm_is n k power below above = elim (cases_lt k power.exponent) [
  | inl lt ↦ absurd (let double : 2 ^ suc k ≡ 2 ^ k * 2 = pow-suc 2 k in omega (arith, power.is, above, double, pow-le-pow_right {n = 2} (omega arith) {i = suc k} {j = power.exponent} (omega arith)))
  | inr le ↦ omega (arith, power.is, below, pow-le-pow_right {n = 2} (omega arith) {i = power.exponent} {j = k} le)
]

pub power_bound : (k : ℕ) → k < 64 → 2 ^ k ≤ 2 ^ 63
power_bound k lt = pow-le-pow_right {n = 2} (omega arith) {i = k} {j = 63} (omega arith)
