-- The laws of values that are encoded one after the other.
use Rattle.std.specs.Prelude.{◌≡◌, ℕ, ◌+◌, ◌*◌, ◌<◌, ◌≤◌, List, [], ◌∷◌, ◌++◌, length, refl}
use Rattle.std.proofs.Common.{sym, ap, subst, ◌∙◌, append_assoc, arith}
use Rattle.std.specs.List.{flat_map, AllByRecursion}
use Rattle.std.proofs.Math.Nat.{suc-mul}
use Rattle.sled_base.specs.Payloads.Reading.{IsGrammar, ReadsNoValue}
use Rattle.sled_node.specs.Payloads.Sequences.{ReadsAll}

module _ {V : Type 0} {reads : List ℕ → V → List ℕ → Type 0} {written : V → List ℕ} {can_write : V → Type 0} {can_follow : V → List ℕ → Type 0} {least : ℕ} where
  -- two lists of the same length that are read from the same input are the same
  pub ReadsAll-one : IsGrammar reads written can_write can_follow least → (input : List ℕ) (vs ws : List V) (r s : List ℕ) → length vs ≡ length ws → ReadsAll reads input vs r → ReadsAll reads input ws s → (vs ≡ ws) × (r ≡ s)
  ReadsAll-one g input [] [] r s len left right = (refl, sym left ∙ right)
  ReadsAll-one g input [] (w ∷ ws) r s len left right = absurd (omega arith)
  ReadsAll-one g input (v ∷ vs) [] r s len left right = absurd (omega arith)
  ReadsAll-one g input (v ∷ vs) (w ∷ ws) r s len (m, a, left) (n, b, right) =
      let one = g.one_reading input v w m n a b in
      let others = ReadsAll-one g m vs ws r s (omega arith) left (subst (λ k. ReadsAll reads k ws s) (sym one.1) right) in
      (λ i. one.0 i ∷ others.0 i, others.1)

  -- what was written one after the other is read again, if anything may follow each value
  pub ReadsAll-again : IsGrammar reads written can_write can_follow least → ((v : V) (rest : List ℕ) → can_follow v rest) → (vs : List V) (rest : List ℕ) → AllByRecursion can_write vs → ReadsAll reads (flat_map written vs ++ rest) vs rest
  ReadsAll-again g follows [] rest can = refl
  ReadsAll-again g follows (v ∷ vs) rest can =
      let middle = flat_map written vs ++ rest in
      (middle, subst (λ input. reads input v middle) (sym (append_assoc (written v) (flat_map written vs) rest)) (g.read_again v middle can.0 (follows v middle)), ReadsAll-again g follows vs rest can.1)

  -- each value takes at least its least size
  pub ReadsAll-takes : IsGrammar reads written can_write can_follow least → (input : List ℕ) (vs : List V) (rest : List ℕ) → ReadsAll reads input vs rest → length rest + length vs * least ≤ length input
  ReadsAll-takes g input [] rest is = omega (arith, ap length is)
  ReadsAll-takes g input (v ∷ vs) rest (m, a, others) =
      let here = g.takes input v m a in
      let there = ReadsAll-takes g m vs rest others in
      rw suc-mul (omega arith)

  -- if no next value can be read, no longer list can be read
  pub ReadsAll-stops : IsGrammar reads written can_write can_follow least → (input : List ℕ) (vs : List V) (middle : List ℕ) → ReadsAll reads input vs middle → ReadsNoValue reads middle → (ws : List V) (rest : List ℕ) → length vs < length ws → ReadsAll reads input ws rest → ⊥
  ReadsAll-stops g input [] middle is nothing [] rest lt found = absurd (omega arith)
  ReadsAll-stops g input [] middle is nothing (w ∷ ws) rest lt (m, a, found) = nothing w m (subst (λ k. reads k w m) is a)
  ReadsAll-stops g input (v ∷ vs) middle (m, a, others) nothing [] rest lt found = absurd (omega arith)
  ReadsAll-stops g input (v ∷ vs) middle (m, a, others) nothing (w ∷ ws) rest lt (n, b, found) =
      let one = g.one_reading input v w m n a b in
      ReadsAll-stops g m vs middle others nothing ws rest (omega arith) (subst (λ k. ReadsAll reads k ws rest) (sym one.1) found)

-- one more value
pub ReadsAll-more : {V : Type 0} (reads : List ℕ → V → List ℕ → Type 0) (input : List ℕ) (vs : List V) (middle : List ℕ) (v : V) (rest : List ℕ) → ReadsAll reads input vs middle → reads middle v rest → ReadsAll reads input (vs ++ v ∷ []) rest
ReadsAll-more reads input [] middle v rest is a = (rest, subst (λ k. reads k v rest) (sym is) a, refl)
ReadsAll-more reads input (u ∷ vs) middle v rest (m, b, others) a = (m, b, ReadsAll-more reads m vs middle v rest others a)
