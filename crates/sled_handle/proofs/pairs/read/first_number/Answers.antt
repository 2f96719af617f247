-- The four bytes in front are those of the number.
use Rattle.std.proofs.Common.{rules, ℕ, ◌<◌, ◌++◌, get_or, drop, take-append-drop, sym, ap, subst, ◌∙◌}
use Rattle.std.specs.Int.{w32, to_le_bytes}
use Rattle.std.proofs.lemmas.Nat.{le_bytes_4}
use Rattle.sled_handle.proofs.PairBytes.{front_fits}
use Rattle.sled_handle.proofs.pairs.read.first_number.Goals as goal

pub returns-clause-some : goal.returns-clause-some
returns-clause-some c =
    let parts = c.in_ok-number.ensures.cases in
    let bytes = c.args.bytes.now in
    let fit : (i : ℕ) → get_or c.in_ok-number.number.now i 0 < 256 = λ i. subst (λ front. get_or front i 0 < 256) (sym parts.0) (front_fits 4 bytes (λ j. (c.type_inv.bytes j).fits) i) in
    let number = le_bytes_4 c.in_ok-number.number.now c.from_le_bytes.result (search rules) fit c.from_le_bytes.ensures in
    (search rules, sym (take-append-drop 4 bytes) ∙ ap (λ t. t ++ drop 4 bytes) (sym parts.0 ∙ sym number) ∙ ap (λ t. to_le_bytes w32 c.from_le_bytes.result ++ t) (sym parts.1))
