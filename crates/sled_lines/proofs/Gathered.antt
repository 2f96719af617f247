-- Texts that are gathered one behind another, and written where room lacks.
use Rattle.std.proofs.Common.{◌≡◌, ℕ, [], ◌++◌, Option, Result, Ok, Err, IsErr, take, drop, take-append-drop, refl, sym, ap, ◌∙◌, subst, append_assoc, append-nil}
use Rattle.std.proofs.KnownBytes.{Appends-nil, Appends-trans}
use Rattle.sled_base.specs.Order.{Bytes}
use Rattle.sled_lines.specs.Output.{AppendsPrefix, Gathered, Gathers}

-- nothing was put
pub gathered_none : (a : Option Bytes) (p : Bytes) → Gathered a a p p []
gathered_none a p = ([], Appends-nil a, sym (append-nil p))

-- more was put into the piece
pub gathered_put : (a b : Option Bytes) (p q r text more : Bytes) → Gathered a b p q text → r ≡ q ++ more → Gathered a b p r (text ++ more)
gathered_put a b p q r text more (done, wrote, e) put =
    (done, wrote, ap (λ l. done ++ l) put ∙ sym (append_assoc done q more) ∙ ap (λ l. l ++ more) e ∙ append_assoc p text more)

-- more was gathered
pub gathered_more : (a b c : Option Bytes) (p q r text more : Bytes) → Gathered a b p q text → Gathered b c q r more → Gathered a c p r (text ++ more)
gathered_more a b c p q r text more (done, wrote, e) (later, went, f) =
    (done ++ later, Appends-trans a b c done later wrote went, append_assoc done later r ∙ ap (λ l. done ++ l) f ∙ sym (append_assoc done q more) ∙ ap (λ l. l ++ more) e ∙ append_assoc p text more)

-- ---- errors

-- an error before the rest of a text
pub prefix_on : (a b : Option Bytes) (text rest : Bytes) → AppendsPrefix a b text → AppendsPrefix a b (text ++ rest)
prefix_on a b text rest (done, left, e, wrote) = (done, left ++ rest, ap (λ l. l ++ rest) e ∙ append_assoc done left rest, wrote)

-- an error behind a text that was gathered
pub prefix_more : (a b c : Option Bytes) (p q text more : Bytes) → Gathered a b p q text → AppendsPrefix b c (q ++ more) → AppendsPrefix a c (p ++ (text ++ more))
prefix_more a b c p q text more (done, wrote, e) (later, left, f, went) =
    (done ++ later, left, sym (append_assoc p text more) ∙ ap (λ l. l ++ more) (sym e) ∙ append_assoc done q more ∙ ap (λ l. done ++ l) f ∙ sym (append_assoc done later left), Appends-trans a b c done later wrote went)

pub gathers_more : {T E : Type 0} (a b c : Option Bytes) (p q r : Bytes) (result : Result T E) (text more whole : Bytes) → Gathered a b p q text → Gathers b c q r result more → whole ≡ text ++ more → Gathers a c p r result whole
gathers_more a b c p q r (Ok x) text more whole before now e = subst (Gathered a c p r) (sym e) (gathered_more a b c p q r text more before now)
gathers_more a b c p q r (Err x) text more whole before now e = subst (λ l. AppendsPrefix a c (p ++ l)) (sym e) (prefix_more a b c p q text more before now)

pub gathers_stops : {T E : Type 0} (a b : Option Bytes) (p q : Bytes) (result : Result T E) (text rest whole : Bytes) → IsErr result → AppendsPrefix a b (p ++ text) → whole ≡ text ++ rest → Gathers a b p q result whole
gathers_stops a b p q (Ok x) text rest whole failed now e = absurd cc
gathers_stops a b p q (Err x) text rest whole failed now e =
    subst (λ l. AppendsPrefix a b (p ++ l)) (sym e) (subst (AppendsPrefix a b) (append_assoc p text rest) (prefix_on a b (p ++ text) rest now))

-- a text behind one that was put
pub put_on : (p x q y r : Bytes) → q ≡ p ++ x → r ≡ q ++ y → r ≡ p ++ (x ++ y)
put_on p x q y r e f = f ∙ ap (λ l. l ++ y) e ∙ append_assoc p x y

-- ---- a byte string that is encoded part by part

module _ (encoded : Bytes → Bytes) (joined : (x y : Bytes) → encoded (x ++ y) ≡ encoded x ++ encoded y) where
  -- what is no longer left of it was gathered
  abbrev pub IsGatheredBefore : Bytes → Bytes → Option Bytes → Option Bytes → Bytes → Bytes → Type 0
  IsGatheredBefore bytes left a b p q = (done : Bytes) × (bytes ≡ done ++ left) × Gathered a b p q (encoded done)

  -- one more part was put, behind room that was made for it
  pub part_put : (bytes left part rest : Bytes) (count : ℕ) (a b c : Option Bytes) (p q r s : Bytes) → IsGatheredBefore bytes left a b p q → part ≡ take count left → rest ≡ drop count left → Gathered b c q r [] → s ≡ r ++ encoded part → IsGatheredBefore bytes rest a c p s
  part_put bytes left part rest count a b c p q r s (done, split, gathered) front back room put = (
    done ++ part,
    split ∙ ap (λ l. done ++ l) (sym (ap (λ l. l ++ rest) front ∙ ap (λ l. take count left ++ l) back ∙ take-append-drop count left)) ∙ sym (append_assoc done part rest),
    subst (Gathered a c p s) (sym (joined done part)) (gathered_more a b c p q s (encoded done) (encoded part) gathered (gathered_put b c q r s [] (encoded part) room put)),
  )

  -- no room was made: nothing of what is left is there
  pub part_stops : {T E : Type 0} (bytes left : Bytes) (a b c : Option Bytes) (p q r : Bytes) (result : Result T E) → IsGatheredBefore bytes left a b p q → IsErr result → AppendsPrefix b c (q ++ []) → Gathers a c p r result (encoded bytes)
  part_stops bytes left a b c p q r result (done, split, gathered) failed now =
      gathers_more a b c p q r result (encoded done) (encoded left) (encoded bytes) gathered (gathers_stops b c q r result [] (encoded left) (encoded left) failed now refl) (ap encoded split ∙ joined done left)
