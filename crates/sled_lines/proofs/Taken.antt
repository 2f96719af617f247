-- What was taken of what a reader has buffered.
use Rattle.std.proofs.Common.{◌≡◌, Bool, ℕ, ◌+◌, ◌≤◌, [], ◌∷◌, ◌++◌, length, length-append, length-take-le, take, Option, IfSome, Ok, sym, ap, subst, ◌∙◌, arith, append_assoc}
use Rattle.std.specs.Io.{StartsWith}
use Rattle.std.specs.Io.KnownBytes.{Consumes, Keeps}
use Rattle.std.specs.Io.BufRead.{DropsConsumable}
use Rattle.std.proofs.BufReadLemmas.{Consumes_shown}
use Rattle.std.proofs.lemmas.List.{take-take, take_at}
use Rattle.sled_base.specs.Order.{Bytes}
use Rattle.sled_lines.specs.Cut.{HasNo}
use Rattle.sled_lines.specs.Parts.{TakesPart}
use Rattle.sled_lines.specs.declared.lines.Ended.TheVariants.{Line, Part}

module _ (a b c : Option Bytes) (buffered : Option ℕ) (shown kept after part : Bytes) (m : ℕ) (within : m ≤ length shown) (grown : after ≡ kept ++ part) (clean : HasNo 10 part)
    (front : IfSome a (λ xs. StartsWith xs shown)) (end : IfSome a (λ xs. length shown ≡ 0 → xs ≡ [])) (keeps : Keeps a b) (fits : IfSome a (λ _. IfSome buffered (λ k. length shown ≤ k))) where
  -- a line ends in what is buffered
  pub line_part : (f : Bool) (rest : Bytes) → take m shown ≡ part ++ 10 ∷ rest → DropsConsumable b c buffered (length part + 1) → TakesPart a c kept after (Ok (Line f))
  line_part f rest e drops = (part, clean, grown, subst (Consumes a c) taken (Consumes_shown a b c buffered shown (length part + 1) (omega (arith, long, within)) front end keeps fits drops).0)
    where
      long : length part + 1 ≤ m
      long = omega (arith, ap length e, length-append part (10 ∷ rest), length-take-le m shown within)

      taken : take (length part + 1) shown ≡ part ++ 10 ∷ []
      taken = sym (take-take (length part + 1) m shown long) ∙ ap (take (length part + 1)) (e ∙ sym (append_assoc part (10 ∷ []) rest)) ∙ take_at (part ++ 10 ∷ []) rest (length part + 1) (length-append part (10 ∷ []))

  -- all that is buffered belongs to the line
  pub more_part : take m shown ≡ part → DropsConsumable b c buffered (length part) → TakesPart a c kept after (Ok Part)
  more_part e drops = (part, clean, grown, subst (Consumes a c) taken (Consumes_shown a b c buffered shown (length part) (omega (arith, long, within)) front end keeps fits drops).0)
    where
      long : length part ≡ m
      long = sym (ap length e) ∙ length-take-le m shown within

      taken : take (length part) shown ≡ part
      taken = ap (λ n. take n shown) long ∙ e
