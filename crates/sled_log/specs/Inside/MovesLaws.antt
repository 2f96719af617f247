-- A message that is due is of a page that exists.
use Rattle.std.proofs.Common.{◌≡◌, ◌<◌, ◌==◌, ◌||◌, nat_lt, ℕ, Bool, true, false, cond, Some, None, List, [], ◌∷◌, refl, subst}
use Rattle.std.proofs.lemmas.Bool.{ltb-true}
use Rattle.sled_log.specs.Moves.{Moves, first_of, due_among}

first-within : (pages : ℕ) (waiting : List (ℕ × ℕ)) (pid place : ℕ) → first_of pages waiting ≡ Some (pid, place) → pid < pages
first-within pages [] pid place is = absurd cc
first-within pages (named ∷ waiting) pid place is = by (nat_lt named.0 pages) refl is
  where
    by : (b : Bool) → nat_lt named.0 pages ≡ b → cond b (Some named) None ≡ Some (pid, place) → pid < pages
    by true lt is = let same : named ≡ (pid, place) = cc in subst (λ (p : ℕ × ℕ). p.0 < pages) same (ltb-true named.0 pages lt)
    by false lt is = absurd cc

pub due_within : (pages every : ℕ) (moves : Moves) (pid place : ℕ) → due_among pages every moves ≡ Some (pid, place) → pid < pages
due_within pages every moves pid place is = by ((every == 0) || nat_lt moves.appended every) is
  where
    by : (b : Bool) → cond b None (first_of pages moves.waiting) ≡ Some (pid, place) → pid < pages
    by true is = absurd cc
    by false is = first-within pages moves.waiting pid place is
