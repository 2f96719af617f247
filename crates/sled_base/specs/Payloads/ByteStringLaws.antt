-- The laws of the encoding of byte strings.
use Rattle.std.specs.Prelude.{◌≡◌, ℕ, List, ◌++◌, length, refl}
use Rattle.std.proofs.Common.{sym, ap, subst, ◌∙◌, append_assoc, arith}
use Rattle.std.proofs.lemmas.List.{length-append}
use Rattle.sled_base.specs.Payloads.Reading.{IsGrammar}
use Rattle.sled_base.specs.Payloads.Numbers.{ReadsU64, written_u64}
use Rattle.sled_base.specs.Payloads.NumberLaws.{same_front, U64-grammar}
use Rattle.sled_base.specs.Payloads.ByteStrings.{ReadsBytes, written_bytes, CanWriteBytes}

one_string : (input v w r s : List ℕ) → ReadsBytes input v r → ReadsBytes input w s → (v ≡ w) × (r ≡ s)
one_string input v w r s left right =
    let same = U64-grammar.one_reading input (length v) (length w) left.0 right.0 left.1 right.1 in
    same_front v w r s same.0 (sym left.2 ∙ same.1 ∙ right.2)

string_again : (v rest : List ℕ) → CanWriteBytes v → ReadsBytes (written_bytes v ++ rest) v rest
string_again v rest fits =
    let regrouped = append_assoc (written_u64 (length v)) v rest in
    (v ++ rest, subst (λ input. ReadsU64 input (length v) (v ++ rest)) (sym regrouped) (U64-grammar.read_again (length v) (v ++ rest) fits tt), refl)

pub Bytes-grammar : IsGrammar ReadsBytes written_bytes CanWriteBytes (λ _ _. Unit {0}) 1
Bytes-grammar = record {
  one_reading = one_string;
  read_again = λ v rest can follows. string_again v rest can;
  takes = λ input v rest found. omega (arith, U64-grammar.takes input (length v) found.0 found.1, ap length found.2, length-append v rest);
}
