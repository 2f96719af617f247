-- The ghost side of a history's steps. Assumes `Logic`.
use Rattle.std.proofs.Common.{◌≡◌, ℕ, ◌+◌, ◌≤◌, ◌==◌, ◌≢◌, ◌⊎◌, inl, inr, Bool, true, false, List, [], ◌∷◌, ◌++◌, map, reverse, length, sym, refl, ap, ◌∙◌, subst, arith, length-append, le_refl}
use Rattle.std.proofs.lemmas.Bool.Decides.{eqb_tells, nat_tests}
use Rattle.std.proofs.lemmas.List.{reverse-append}
use mathlib.Core.List.{IsPrefix, cons≢nil}
use seplogic.Ra.Ura.{Ura}
use base.Fraction.{full_share}
use base.Stored.{Gv, Coded}
use base.Logic.{SProp, ent, sep, ex, guard, emp, via, guard_i}
use base.Fml.{Fml}
use base.Growing.{numbers, latest, at_least, prefix_refl}
use types.Logic.{Logic, sem}
use types.Owned.{basic}
use types.Growing.{latest_new, latest_grows, latest_shows, latest_bounds}
use types.Kit.{‵, ◌⊛◌, some, given, later, ◌$◌, ◌∵◌, !, qed, move, keep, split, fsplit, fjoin, pick, learn, show, check, done, use0, use1, use2, updating, await, now, rewrite}
use denote.Steps.{nothing}
use Rattle.sled_shared.specs.History.{Line, line_coded, line_code, with_entry_if, written_by, Writes, HasAll, counted, logs, history_owns, pen_owns}

-- ---- what a pen wrote

empty : {X : Type 0} → (xs : List X) → length xs ≤ 0 → xs ≡ []
empty [] z = refl
empty (x ∷ xs) z = absurd (omega arith)

module _ {E : Type 0} where
  onto : (b : Bool) (e : E) (xs ys : List E) → with_entry_if b e (xs ++ ys) ≡ with_entry_if b e xs ++ ys
  onto true e xs ys = refl
  onto false e xs ys = refl

  pub written-more : (k : ℕ) (xs ys : List (Line E)) → written_by k (xs ++ ys) ≡ written_by k xs ++ written_by k ys
  written-more k [] ys = refl
  written-more k (x ∷ xs) ys = ap (with_entry_if (x.0 == k) x.1) (written-more k xs ys) ∙ onto (x.0 == k) x.1 (written_by k xs) (written_by k ys)

  count-back : (k : ℕ) (log : List (Line E)) → length (written_by k (reverse log)) ≡ length (written_by k log)
  count-back k [] = refl
  count-back k (x ∷ log) =
      let one : List (Line E) = x ∷ [] in
      let turned : reverse (x ∷ log) ≡ reverse log ++ one = reverse-append one log in
      let back : length (written_by k (reverse (x ∷ log))) ≡ length (written_by k (reverse log)) + length (written_by k one) = ap (λ (l : List (Line E)). length (written_by k l)) turned ∙ (ap length (written-more k (reverse log) one) ∙ length-append (written_by k (reverse log)) (written_by k one)) in
      let here : length (written_by k (x ∷ log)) ≡ length (written_by k one) + length (written_by k log) = ap length (written-more k one log) ∙ length-append (written_by k one) (written_by k log) in
      let rest : length (written_by k (reverse log)) ≡ length (written_by k log) = count-back k log in
      omega arith

  newest : (log : List (Line E)) (x : Line E) → reverse (log ++ x ∷ []) ≡ x ∷ reverse log
  newest log x = reverse-append log (x ∷ [])

  counts-more : (k : ℕ) (seen others log : List (Line E)) → log ≡ seen ++ others → length (written_by k log) ≡ length (written_by k seen) + length (written_by k others)
  counts-more k seen others log is = ap length (ap (written_by k) is ∙ written-more k seen others) ∙ length-append (written_by k seen) (written_by k others)

  none-more : (k : ℕ) (seen log : List (Line E)) → IsPrefix seen log → length (written_by k log) ≤ length (written_by k seen) → HasAll k seen log
  none-more k seen log p le =
      let l : length (written_by k log) ≡ length (written_by k seen) + length (written_by k p.0) = counts-more k seen p.0 log (sym p.1) in
      (p.0, empty (written_by k p.0) (omega arith), sym p.1)

  own-one : (k : ℕ) (e : E) → written_by k ((k, e) ∷ []) ≡ e ∷ []
  own-one k e = let self : (k == k) ≡ true = grind (arith, nat_tests) in ap (λ (b : Bool). with_entry_if b e []) self

  -- a pen that has written an entry counts one more
  pub counts_one : (k : ℕ) (seen : List (Line E)) (e : E) (after : List (Line E)) → Writes k seen e after → length (written_by k after) ≡ length (written_by k seen) + 1
  counts_one k seen e after w =
      let one : List (Line E) = (k, e) ∷ [] in
      let a : length (written_by k after) ≡ length (written_by k (seen ++ w.0)) + length (written_by k one) = counts-more k (seen ++ w.0) one after w.2 in
      let b : length (written_by k (seen ++ w.0)) ≡ length (written_by k seen) + length (written_by k w.0) = counts-more k seen w.0 (seen ++ w.0) refl in
      let c : length (written_by k w.0) ≡ 0 = ap length w.1 in
      let d : length (written_by k one) ≡ 1 = ap length (own-one k e) in
      omega arith

  -- ---- the log as ghost values

  module _ (cv : Coded E) where
    abbrev head : Gv → List Gv → Gv
    head d [] = d
    head d (g ∷ gs) = g

    abbrev tail : List Gv → List Gv
    tail [] = []
    tail (g ∷ gs) = gs

    abbrev code : Line E → Gv
    code = line_code cv.code

    uncoded : (xs ys : List (Line E)) (t : List Gv) → map code xs ++ t ≡ map code ys → IsPrefix xs ys
    uncoded [] ys t e = (ys, refl)
    uncoded (x ∷ xs) [] t e = absurd (cons≢nil e)
    uncoded (x ∷ xs) (y ∷ ys) t e = let r = uncoded xs ys t (ap tail e) in (r.0, λ i. (line_coded cv).inj x y (ap (head (code x)) e) i ∷ r.1 i)

    pub prefix_out : (xs ys : List (Line E)) → IsPrefix (map code xs) (map code ys) → IsPrefix xs ys
    prefix_out xs ys p = uncoded xs ys p.0 p.1

    joined_codes : (xs t : List (Line E)) → map code xs ++ map code t ≡ map code (xs ++ t)
    joined_codes [] t = refl
    joined_codes (x ∷ xs) t = ap (λ (gs : List Gv). code x ∷ gs) (joined_codes xs t)

    pub prefix_in : (xs t : List (Line E)) → IsPrefix (map code xs) (map code (xs ++ t))
    prefix_in xs t = (map code t, joined_codes xs t)

-- ---- the steps

module _ {M : Type 1} {𝓤 : Ura M} (𝓛 : Logic 𝓤) where
  open 𝓛 use {H}

  abbrev Pr : Type 2
  Pr = SProp 𝓤

  abbrev ◌⊢◌ : Pr → Pr → Type 1
  P ⊢ Q = ent 𝓤 P Q

  abbrev ◌∗◌ : Pr → Pr → Pr
  P ∗ Q = sep 𝓤 P Q

  abbrev ⟦◌⟧ : Fml → Pr
  ⟦ P ⟧ = sem 𝓛 P

  infix 26 ◌⊢◌
  infixr 35 ◌∗◌
  module _ {E : Type 0} (cv : Coded E) where
    abbrev top : ℕ → List (Line E) → Fml
    top name log = latest logs full_share name (map (line_code cv.code) log)

    abbrev had : ℕ → List (Line E) → Fml
    had name log = at_least logs name (map (line_code cv.code) log)

    abbrev own : ℕ → ℕ → Fml
    own k n = latest numbers full_share k n

    abbrev Hist : ℕ → List (Line E) → Fml
    Hist name log = history_owns cv.code name log

    abbrev Held : ℕ → ℕ → List (Line E) → Fml
    Held of k seen = pen_owns cv.code of k seen

    abbrev Bounded : List (Line E) → ℕ → ℕ → Type 1
    Bounded log k n = ⟦ counted log ⟧ ∗ ⟦ own k n ⟧ ⊢ guard 𝓤 (length (written_by k log) ≤ n) (⟦ counted log ⟧ ∗ ⟦ own k n ⟧)

    one-bounded : (x : Line E) (log : List (Line E)) (k n : ℕ) → Bounded log k n → (((x.0 == k) ≡ true) × (x.0 ≡ k)) ⊎ (((x.0 == k) ≡ false) × (x.0 ≢ k)) → Bounded (x ∷ log) k n
    one-bounded x log k n rest (inl h) = let at : ℕ → Fml = λ j. at_least numbers j (length (written_by j (x ∷ log))) in
        qed 𝓛 (‵ (counted (x ∷ log)) ∷ ‵ (own k n) ∷ []) ∵ fsplit ! $ move ! (2 ∷ 0 ∷ []) $ rewrite ! 1 (λ (j : ℕ). ‵ (at j)) h.1 refl $
        use2 𝓛 (given (length (written_by k (x ∷ log)) ≤ n) (‵ (own k n) ⊛ ‵ (at k))) (latest_bounds numbers 𝓛 full_share k n (length (written_by k (x ∷ log)))) $ learn ! (λ le. split ! $
        check ! le $ rewrite ! 1 (λ (j : ℕ). ‵ (at j)) (sym h.1) refl $ move ! (1 ∷ 2 ∷ []) $ fjoin ! $ done !)
    one-bounded x log k n rest (inr h) = let same : written_by k (x ∷ log) ≡ written_by k log = ap (λ (b : Bool). with_entry_if b x.1 (written_by k log)) h.0 in
        qed 𝓛 (‵ (counted (x ∷ log)) ∷ ‵ (own k n) ∷ []) ∵ fsplit ! $ move ! (1 ∷ 2 ∷ []) $
        use2 𝓛 (given (length (written_by k log) ≤ n) (‵ (counted log) ⊛ ‵ (own k n))) rest $ learn ! (λ le. split ! $
        check ! (subst (λ (l : List E). length l ≤ n) (sym same) le) $ move ! (2 ∷ 0 ∷ []) $ fjoin ! $ done !)

    bounded : (log : List (Line E)) (k n : ℕ) → Bounded log k n
    bounded [] k n = guard_i 𝓤 _ _ (omega arith)
    bounded (x ∷ log) k n = one-bounded x log k n (bounded log k n) (eqb_tells x.0 k)

    pub audits : (name k : ℕ) (log seen : List (Line E)) → ⟦ Hist name log ⟧ ∗ ⟦ Held name k seen ⟧ ⊢ guard 𝓤 (HasAll k seen log) (⟦ Hist name log ⟧ ∗ ⟦ Held name k seen ⟧)
    unfolding history_owns pen_owns
    audits name k log seen = let n : ℕ = length (written_by k seen) in
        qed 𝓛 (‵ (Hist name log) ∷ ‵ (Held name k seen) ∷ []) ∵ fsplit ! $ move ! (2 ∷ []) $ fsplit ! $ move ! (2 ∷ 0 ∷ []) $
        use2 𝓛 (given (IsPrefix (map (line_code cv.code) seen) (map (line_code cv.code) log)) (‵ (top name log) ⊛ ‵ (had name seen))) (latest_bounds logs 𝓛 full_share name (map (line_code cv.code) log) (map (line_code cv.code) seen)) $ learn ! (λ p. split ! $ move ! (3 ∷ 2 ∷ []) $
        use2 𝓛 (given (length (written_by k (reverse log)) ≤ n) (‵ (counted (reverse log)) ⊛ ‵ (own k n))) (bounded (reverse log) k n) $ learn ! (λ le. split ! $
        let q : IsPrefix seen log = prefix_out cv seen log p in check ! (none-more k seen log q (subst (λ (m : ℕ). m ≤ n) (count-back k log) le)) $
        move ! (2 ∷ 0 ∷ []) $ fjoin ! $ move ! (2 ∷ 1 ∷ []) $ fjoin ! $ move ! (1 ∷ 0 ∷ []) $ done !))

    pub enters : (name k : ℕ) (log seen : List (Line E)) (e : E) → ⟦ Hist name log ⟧ ∗ ⟦ Held name k seen ⟧ ⊢ H.⇛ (guard 𝓤 (HasAll k seen log) (⟦ Hist name (log ++ (k, e) ∷ []) ⟧ ∗ ⟦ Held name k (log ++ (k, e) ∷ []) ⟧))
    unfolding history_owns pen_owns
    enters name k log seen e = let one : List (Line E) = (k, e) ∷ [] in let log' : List (Line E) = log ++ one in let n : ℕ = length (written_by k seen) in let n' : ℕ = length (written_by k log') in
        let more : n' ≡ length (written_by k log) + length (written_by k one) = ap length (written-more k log one) ∙ length-append (written_by k log) (written_by k one) in
        let told : n' ≡ length (written_by k ((k, e) ∷ reverse log)) = sym (count-back k log') ∙ ap (λ (l : List (Line E)). length (written_by k l)) (newest log (k, e)) in
        qed 𝓛 (‵ (Hist name log) ∷ ‵ (Held name k seen) ∷ []) ∵ updating ! $ use2 𝓛 (given (HasAll k seen log) (‵ (Hist name log) ⊛ ‵ (Held name k seen))) (audits name k log seen) $ learn ! (λ so. split ! $
        let same : length (written_by k log) ≡ n + length (written_by k so.0) = counts-more k seen so.0 log so.2 in let none : length (written_by k so.0) ≡ 0 = ap length so.1 in
        fsplit ! $ move ! (2 ∷ []) $ fsplit ! $ move ! (1 ∷ []) $
        use1 𝓛 (later (‵ (own k n'))) (via 𝓤 _ (latest_grows numbers 𝓛 k n n' (omega arith)) (basic 𝓛 _)) $ await ! tt $
        use1 𝓛 (‵ (own k n') ⊛ ‵ (at_least numbers k n')) (latest_shows numbers 𝓛 full_share k n' n' (le_refl n')) $ split ! $ move ! (3 ∷ []) $
        use1 𝓛 (later (‵ (top name log'))) (via 𝓤 _ (latest_grows logs 𝓛 name (map (line_code cv.code) log) (map (line_code cv.code) log') (prefix_in cv log one)) (basic 𝓛 _)) $ await ! tt $
        use1 𝓛 (‵ (top name log') ⊛ ‵ (had name log')) (latest_shows logs 𝓛 full_share name (map (line_code cv.code) log') (map (line_code cv.code) log') (prefix_refl (map (line_code cv.code) log'))) $ split ! $
        rewrite ! 3 (λ (m : ℕ). ‵ (at_least numbers k m)) told refl $ move ! (3 ∷ 5 ∷ []) $ fjoin ! $
        rewrite ! 0 (λ (l : List (Line E)). ‵ (counted l)) {x = reverse log'} {y = (k, e) ∷ reverse log} (sym (newest log (k, e))) refl $
        move ! (1 ∷ 0 ∷ []) $ fjoin ! $ move ! (1 ∷ 2 ∷ []) $ fjoin ! $ now ! $ check ! so $ keep ! (1 ∷ 0 ∷ []) $ done !)

    abbrev pub Penned : ℕ → List (Line E) → ℕ → Pr
    Penned name log k = guard 𝓤 (written_by k log ≡ []) (⟦ Hist name log ⟧ ∗ ⟦ Held name k log ⟧)

    pub pens : (name : ℕ) (log : List (Line E)) → ⟦ Hist name log ⟧ ⊢ H.⇛ (ex 𝓤 (Penned name log))
    unfolding history_owns pen_owns
    pens name log = qed 𝓛 (‵ (Hist name log) ∷ []) ∵ updating ! $ use0 𝓛 (later (some (λ (k : ℕ). ‵ (own k 0)))) (via 𝓤 _ (latest_new numbers 𝓛 0) (basic 𝓛 _)) $ await ! tt $ pick ! (λ k.
        move ! (1 ∷ []) $ fsplit ! $ use1 𝓛 (‵ (top name log) ⊛ ‵ (had name log)) (latest_shows logs 𝓛 full_share name (map (line_code cv.code) log) (map (line_code cv.code) log) (prefix_refl (map (line_code cv.code) log))) $ split ! $ move ! (2 ∷ 3 ∷ []) $
        use2 𝓛 (given (length (written_by k (reverse log)) ≤ 0) (‵ (counted (reverse log)) ⊛ ‵ (own k 0))) (bounded (reverse log) k 0) $ learn ! (λ le. split ! $
        let none : written_by k log ≡ [] = empty (written_by k log) (subst (λ (m : ℕ). m ≤ 0) (count-back k log) le) in
        move ! (2 ∷ 0 ∷ []) $ fjoin ! $ rewrite ! 1 (λ (m : ℕ). ‵ (own k m)) (sym (ap length none)) refl $ move ! (2 ∷ 1 ∷ []) $ fjoin ! $
        now ! $ show ! (Penned name log) k $ check ! none $ move ! (1 ∷ 0 ∷ []) $ done !))

    abbrev pub Begun : ℕ → Pr
    Begun name = ⟦ Hist name [] ⟧

    pub begins : emp 𝓤 ⊢ H.⇛ (ex 𝓤 Begun)
    unfolding history_owns
    begins = qed 𝓛 [] ∵ updating ! $ use0 𝓛 (later (some (λ (η : ℕ). ‵ (latest logs full_share η [])))) (via 𝓤 _ (latest_new logs 𝓛 []) (basic 𝓛 _)) $ await ! tt $ pick ! (λ η.
        nothing ! $ move ! (1 ∷ 0 ∷ []) $ fjoin ! $ now ! $ show ! Begun η $ done !)
