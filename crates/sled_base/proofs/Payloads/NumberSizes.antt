-- How many bytes a number is written in.
use Rattle.std.proofs.Common.{ℕ, ◌≤◌, ◌^◌, List, length, arith}
use Rattle.std.specs.Prelude.{nat_le, nat_lt}
use Rattle.sled_base.specs.Payloads.Numbers.{byte_count, written_u64}
use Rattle.sled_base.specs.Payloads.NumberLaws.{chosen, length-low_bytes}

-- no number takes more than nine bytes
few_bytes : (n : ℕ) → byte_count n ≤ 8
few_bytes n =
    let P = λ (k : ℕ). k ≤ 8 in
    chosen P (nat_lt n (2 ^ 24)) _ _ (λ _. omega arith) (λ _.
    chosen P (nat_lt n (2 ^ 32)) _ _ (λ _. omega arith) (λ _.
    chosen P (nat_lt n (2 ^ 40)) _ _ (λ _. omega arith) (λ _.
    chosen P (nat_lt n (2 ^ 48)) _ _ (λ _. omega arith) (λ _.
    chosen P (nat_lt n (2 ^ 56)) _ _ (λ _. omega arith) (λ _. omega arith)))))

pub number_size : (n : ℕ) → length (written_u64 n) ≤ 9
number_size n =
    let P = λ (s : List ℕ). length s ≤ 9 in
    chosen P (nat_le n 240) _ _ (λ _. omega arith) (λ _.
    chosen P (nat_le n 2287) _ _ (λ _. omega arith) (λ _.
    chosen P (nat_le n 67823) _ _ (λ _. omega arith) (λ _. omega (arith, length-low_bytes (byte_count n) n, few_bytes n))))
