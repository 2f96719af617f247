-- The entries of a node, written one after another.
use Rattle.std.proofs.Common.{◌≡◌, ◌≤◌, ℕ, zero, suc, ◌+◌, ◌*◌, List, [], ◌∷◌, ◌++◌, length, length-append, take, drop, Option, Some, Result, refl, sym, ap, ◌∙◌, append_assoc, arith, IsErr}
use Rattle.std.specs.List.{flat_map, slice_get}
use Rattle.std.proofs.lemmas.List.{append-nil}
use Rattle.sled_base.specs.Order.{Bytes}
use Rattle.sled_lines.specs.Output.{AppendsPrefix, Gathered, Gathers}
use Rattle.sled_lines.specs.Words.{bytes_word}
use Rattle.sled_lines.proofs.Pieces.{length-word}
use Rattle.sled_lines.proofs.Gathered.{gathered_more, gathers_more, gathers_stops}

-- ---- one entry: a space, a key, an equals sign, an item

module _ {T E : Type 0} (a b c d e : Option Bytes) (p q r s t : Bytes) (result : Result T E) (key item : Bytes) where
  pub stops_at_space : IsErr result → AppendsPrefix a b (p ++ 32 ∷ []) → Gathers a b p q result (32 ∷ (key ++ 61 ∷ [] ++ item))
  stops_at_space failed part = gathers_stops a b p q result (32 ∷ []) (key ++ 61 ∷ [] ++ item) (32 ∷ (key ++ 61 ∷ [] ++ item)) failed part refl

  pub stops_at_key : Gathered a b p q (32 ∷ []) → IsErr result → AppendsPrefix b c (q ++ key) → Gathers a c p r result (32 ∷ (key ++ 61 ∷ [] ++ item))
  stops_at_key space failed part =
      gathers_more a b c p q r result (32 ∷ []) (key ++ 61 ∷ [] ++ item) (32 ∷ (key ++ 61 ∷ [] ++ item)) space
      (gathers_stops b c q r result key (61 ∷ item) (key ++ 61 ∷ [] ++ item) failed part (append_assoc key (61 ∷ []) item)) refl

  pub stops_at_sign : Gathered a b p q (32 ∷ []) → Gathered b c q r key → IsErr result → AppendsPrefix c d (r ++ 61 ∷ []) → Gathers a d p s result (32 ∷ (key ++ 61 ∷ [] ++ item))
  stops_at_sign space keyed failed part =
      gathers_more a c d p r s result (32 ∷ key) (61 ∷ item) (32 ∷ (key ++ 61 ∷ [] ++ item)) (gathered_more a b c p q r (32 ∷ []) key space keyed)
      (gathers_stops c d r s result (61 ∷ []) item (61 ∷ item) failed part refl) (ap (λ (l : Bytes). 32 ∷ l) (append_assoc key (61 ∷ []) item))

  pub ends_with_item : Gathered a b p q (32 ∷ []) → Gathered b c q r key → Gathered c d r s (61 ∷ []) → Gathers d e s t result item → Gathers a e p t result (32 ∷ (key ++ 61 ∷ [] ++ item))
  ends_with_item space keyed signed last =
      gathers_more a d e p s t result (32 ∷ (key ++ 61 ∷ [])) item (32 ∷ (key ++ 61 ∷ [] ++ item)) (gathered_more a c d p r s (32 ∷ key) (61 ∷ []) (gathered_more a b c p q r (32 ∷ []) key space keyed) signed) last refl

-- ---- the entries so far

module _ {X : Type 0} (f : X → Bytes) where
  pub flat_next : (xs : List X) (i : ℕ) (x : X) → slice_get xs i ≡ Some x → flat_map f (take (suc i) xs) ≡ flat_map f (take i xs) ++ f x
  flat_next [] i x at = absurd cc
  flat_next (y ∷ xs) zero x at = let same : y ≡ x = cc in ap (λ v. f v ++ []) same ∙ append-nil (f x)
  flat_next (y ∷ xs) (suc i) x at = ap (λ l. f y ++ l) (flat_next xs i x at) ∙ sym (append_assoc (f y) (flat_map f (take i xs)) (f x))

  pub flat_around : (xs : List X) (i : ℕ) (x : X) → slice_get xs i ≡ Some x → flat_map f xs ≡ flat_map f (take i xs) ++ (f x ++ flat_map f (drop (suc i) xs))
  flat_around [] i x at = absurd cc
  flat_around (y ∷ xs) zero x at = let same : y ≡ x = cc in ap (λ v. f v ++ flat_map f xs) same
  flat_around (y ∷ xs) (suc i) x at = ap (λ l. f y ++ l) (flat_around xs i x at) ∙ sym (append_assoc (f y) (flat_map f (take i xs)) (f x ++ flat_map f (drop (suc i) xs)))

-- ---- how long an entry is

-- a space, a key, an equals sign and an item
pub length-entry : (key item : Bytes) → length (32 ∷ (key ++ 61 ∷ [] ++ item)) ≡ length key + length item + 2
length-entry key item = omega (arith, length-append (key ++ 61 ∷ []) item, length-append key (61 ∷ []))

-- the entry has room where its bytes are few
pub entry_fits : (front rest item : Bytes) (size : ℕ) → length item ≤ 2 * size + 1 → length front + length rest + size ≤ 78 → length (32 ∷ (bytes_word (front ++ rest) ++ 61 ∷ [] ++ item)) ≤ 160
entry_fits front rest item size short few = omega (arith, length-entry (bytes_word (front ++ rest)) item, length-word (front ++ rest), length-append front rest)
