-- The laws of the encoding of numbers that may be missing.
use Rattle.std.specs.Prelude.{◌≡◌, ℕ, ◌+◌, ◌<◌, ℤ, pos, negsuc, Option, Some, None, refl}
use Rattle.std.proofs.Common.{ap, arith}
use Rattle.std.proofs.Math.Path.{PathP, to_path_p}
use Rattle.std.proofs.Math.Bridge.{le_prop}
use Rattle.std.specs.declared.num.NonZeroU64.{NonZeroU64}
use Rattle.sled_base.specs.Payloads.Reading.{IsGrammar}
use Rattle.sled_base.specs.Payloads.ReadingLaws.{By-grammar}
use Rattle.sled_base.specs.Payloads.NumberLaws.{U64-grammar, I64-grammar}
use Rattle.sled_base.specs.Payloads.Options.{number_of, ReadsOption, written_option, CanWriteOption, signed_of, ReadsSigned, written_signed, CanWriteSigned, page_number, ReadsPageNumber, written_page, CanWritePage}

same_number : (v w : Option ℕ) → number_of v ≡ number_of w → v ≡ w
same_number None None e = refl
same_number None (Some n) e = absurd (omega arith)
same_number (Some m) None e = absurd (omega arith)
same_number (Some m) (Some n) e = let same : m ≡ n = omega arith in ap (λ k. Some k) same

pub Option-grammar : IsGrammar ReadsOption written_option CanWriteOption (λ _ _. Unit {0}) 1
Option-grammar = By-grammar number_of same_number U64-grammar

same_pos : (m n : ℕ) → pos (m + 1) ≡ pos (n + 1) → m ≡ n
same_pos m n e = let same : m + 1 ≡ n + 1 = cc in omega arith

same_signed : (v w : Option ℤ) → signed_of v ≡ signed_of w → v ≡ w
same_signed None None e = refl
same_signed None (Some (pos n)) e = let same : 0 ≡ n + 1 = cc in absurd (omega arith)
same_signed None (Some (negsuc n)) e = absurd cc
same_signed (Some (pos m)) None e = let same : m + 1 ≡ 0 = cc in absurd (omega arith)
same_signed (Some (negsuc m)) None e = absurd cc
same_signed (Some (pos m)) (Some (pos n)) e = ap (λ k. Some (pos k)) (same_pos m n e)
same_signed (Some (pos m)) (Some (negsuc n)) e = absurd cc
same_signed (Some (negsuc m)) (Some (pos n)) e = absurd cc
same_signed (Some (negsuc m)) (Some (negsuc n)) e = let same : m ≡ n = cc in ap (λ k. Some (negsuc k)) same

pub Signed-grammar : IsGrammar ReadsSigned written_signed CanWriteSigned (λ _ _. Unit {0}) 8
Signed-grammar = By-grammar signed_of same_signed I64-grammar

-- two nonzero numbers are equal if their values are
same_page_number : (v w : NonZeroU64) → v.value ≡ w.value → v ≡ w
same_page_number v w e =
    let ok : PathP (λ j. 0 < e j) v.ok w.ok = to_path_p (λ j. 0 < e j) {a = v.ok} {b = w.ok} (le_prop _ _) in
    λ i. record { value = e i; ok = ok i }

same_page : (v w : Option NonZeroU64) → page_number v ≡ page_number w → v ≡ w
same_page None None e = refl
same_page None (Some q) e = absurd (omega (arith, q.ok))
same_page (Some p) None e = absurd (omega (arith, p.ok))
same_page (Some p) (Some q) e = ap (λ n. Some n) (same_page_number p q e)

pub Page-grammar : IsGrammar ReadsPageNumber written_page CanWritePage (λ _ _. Unit {0}) 1
Page-grammar = By-grammar page_number same_page U64-grammar
