-- A write that a crash tore is torn byte by byte.
use Rattle.std.proofs.Common.{◌≡◌, ℕ, ◌+◌, nat_le, Bool, true, false, List, [], ◌∷◌, ◌++◌, length, take, drop, refl, sym, ◌∙◌, ap, ap₂, subst, arith}
use Rattle.std.proofs.lemmas.Bool.{leb-true, leb-false}
use Rattle.std.proofs.lemmas.List.{drop_all, drop_at, drop-drop, length-append, length-drop, length-take-le, take-append-drop, take-append-le, take-take, take_at}
use Rattle.sled_disk.specs.CallersFile.{writes_of}
use Rattle.sled_disk.specs.Disk.{Torn}
use Rattle.sled_disk.specs.Journal.{Write, Image, MayLeave, after_call, after_calls}

-- nothing was torn
pub torn-none : (at : ℕ) (was left : List ℕ) → Torn at 0 was left → left ≡ was
torn-none at was left torn =
    let here : at + 0 ≡ at = omega arith in
    let after : drop at left ≡ drop at was = subst (λ k. drop k left ≡ drop k was) here torn.after in
    sym (take-append-drop at left) ∙ ap₂ (λ (l m : List ℕ). l ++ m) torn.before after ∙ take-append-drop at was

-- the first byte was torn, and then the others
record Parts (at n : ℕ) (was left : List ℕ) : Type 0 where
  pub mid : List ℕ
  pub first : Torn at 1 was mid
  pub others : Torn (at + 1) n mid left

torn-parts : (at n m : ℕ) (was left : List ℕ) (far : Bool) → nat_le (at + 1) (length left) ≡ far → m ≡ n + 1 → Torn at m was left → Parts at n was left
torn-parts at n m was left true is long torn =
    let far = leb-true (at + 1) (length left) is in
    let front = take (at + 1) left in
    let rest = drop (at + 1) was in
    let size : length front ≡ at + 1 = length-take-le (at + 1) left far in
    let whole : length (front ++ rest) ≡ at + 1 + length rest = length-append front rest ∙ ap (λ k. k + length rest) size in
    let behind = length-drop (at + 1) was in
    let shorter = torn.no_shorter in
    let longer = torn.no_longer in
    let end : at + m ≡ n + (at + 1) = omega (arith, long) in
    let back : at + 1 + n ≡ n + (at + 1) = omega arith in
    record {
      mid = front ++ rest;
      first = record {
        before = take-append-le at front rest (omega (arith, size)) ∙ take-take at (at + 1) left (omega arith) ∙ torn.before;
        after = drop_at front rest (at + 1) size;
        no_shorter = omega (arith, whole, behind);
        no_longer = omega (arith, whole, behind);
      };
      others = record {
        before = sym (take_at front rest (at + 1) size);
        after =
            sym (drop-drop n (at + 1) left) ∙ drop-drop n (at + 1) left ∙ ap (λ k. drop k left) (back ∙ sym end) ∙ torn.after ∙ ap (λ k. drop k was) (end ∙ sym back)
            ∙ sym (drop-drop n (at + 1) was) ∙ ap (λ (l : List ℕ). drop n l) (sym (drop_at front rest (at + 1) size)) ∙ drop-drop n (at + 1) (front ++ rest);
        no_shorter = omega (arith, whole, behind, shorter, far);
        no_longer = omega (arith, whole, behind, longer, long, far);
      };
    }
torn-parts at n m was left false is long torn =
    let near = leb-false (at + 1) (length left) is in
    let shorter = torn.no_shorter in
    let none : drop (at + 1) was ≡ [] = drop_all (at + 1) was (omega (arith, near, shorter)) in
    let gone : drop (at + 1) left ≡ [] = drop_all (at + 1) left (omega (arith, near)) in
    record {
      mid = left;
      first = record { before = torn.before; after = gone ∙ sym none; no_shorter = shorter; no_longer = omega (arith, near) };
      others = record { before = refl; after = refl; no_shorter = omega arith; no_longer = omega arith };
    }

pub tears-writes : (image : Image) (at : ℕ) (bytes was left : List ℕ) → MayLeave image was → Torn at (length bytes) was left → MayLeave (after_calls image (writes_of at bytes)) left
tears-writes image at [] was left may torn = subst (MayLeave image) (sym (torn-none at was left torn)) may
tears-writes image at (byte ∷ bytes) was left may torn =
    let parts = torn-parts at (length bytes) (length (byte ∷ bytes)) was left (nat_le (at + 1) (length left)) refl (omega arith) torn in
    tears-writes (after_call image (Write at (byte ∷ []))) (at + 1) bytes parts.mid left (was, may, parts.first) parts.others
