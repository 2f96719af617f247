-- Where a text is cut.
use Rattle.std.proofs.Common.{◌≡◌, ℕ, zero, suc, ◌+◌, ◌-◌, ◌<◌, [], ◌∷◌, ◌++◌, length, take, drop, get_or, sym, ap, ◌∙◌, arith, refl}
use Rattle.std.proofs.lemmas.List.{take-append-drop, take_rest, drop_more}
use Rattle.sled_base.specs.Order.{Bytes}
use Rattle.sled_lines.specs.Cut.{HasNo}

-- no byte before the n-th is the mark
pub none_before : (mark : ℕ) (text : Bytes) (n : ℕ) → ((k : ℕ) → k < n → get_or text k 0 ≡ mark → ⊥) → HasNo mark (take n text)
none_before mark [] zero h = tt
none_before mark (byte ∷ text) zero h = tt
none_before mark [] (suc n) h = tt
none_before mark (byte ∷ text) (suc n) h = (h 0 (omega arith), none_before mark text n (λ k below. h (suc k) (omega arith)))

-- a text around one of its bytes
pub around : (text : Bytes) (n mark : ℕ) → n < length text → get_or text n 0 ≡ mark → text ≡ take n text ++ mark ∷ take (length text - (n + 1)) (drop (n + 1) text)
around text n mark below e = sym (take-append-drop n text) ∙ ap (λ rest. take n text ++ rest) (drop_more text n 0 below ∙ ap (λ byte. byte ∷ drop (n + 1) text) e ∙ ap (λ rest. mark ∷ rest) (sym (take_rest text (n + 1))))

-- a text has one front before the first mark
pub cut_once : (mark : ℕ) (a b rest others : Bytes) → HasNo mark a → HasNo mark b → a ++ mark ∷ rest ≡ b ++ mark ∷ others → (a ≡ b) × (rest ≡ others)
cut_once mark [] [] rest others p q e = (refl, cc)
cut_once mark [] (y ∷ b) rest others p q e = absurd (q.0 cc)
cut_once mark (x ∷ a) [] rest others p q e = absurd (p.0 cc)
cut_once mark (x ∷ a) (y ∷ b) rest others p q e =
    let both = cut_once mark a b rest others p.1 q.1 cc in
    (cc (both.0), both.1)

pub no_mark : (mark : ℕ) (a b rest : Bytes) → HasNo mark a → a ≡ b ++ mark ∷ rest → ⊥
no_mark mark [] [] rest p e = cc
no_mark mark [] (y ∷ b) rest p e = cc
no_mark mark (x ∷ a) [] rest p e = p.0 cc
no_mark mark (x ∷ a) (y ∷ b) rest p e = no_mark mark a b rest p.1 cc

pub none_in_both : (mark : ℕ) (a b : Bytes) → HasNo mark a → HasNo mark b → HasNo mark (a ++ b)
none_in_both mark [] b p q = q
none_in_both mark (x ∷ a) b p q = (p.0, none_in_both mark a b p.1 q)
