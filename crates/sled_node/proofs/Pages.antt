-- Taking the first pair that leads to a page out of an index.
use Rattle.std.proofs.Common.{◌≡◌, ℕ, zero, suc, ◌+◌, ◌<◌, ◌≤◌, ◌^◌, Bool, true, false, List, [], ◌∷◌, ◌++◌, cond, length, get_or, take, drop, Some, None, refl, sym, ap, ◌∙◌, arith}
use Rattle.std.specs.Prelude.{◌==◌, if◌then◌else◌}
use Rattle.std.specs.List.{AllByRecursion, position, position_from}
use Rattle.std.proofs.lemmas.List.Quantifiers.{position-Some}
use Rattle.std.proofs.lemmas.Iterator.Adapters.{position_from-zero}
use Rattle.sled_base.specs.Order.{Bytes, IsBelow}
use Rattle.sled_node.specs.Pairs.{IsWithinLimit, IsAscending, HasPairs}
use Rattle.sled_node.specs.Parts.{without_page}

module _ (page : ℕ) where
  abbrev pub leads : Bytes × ℕ → Bool
  leads pair = pair.1 == page

  -- the first pair, by whether it leads to the page
  first : (b : Bool) (pair : Bytes × ℕ) (pairs : List (Bytes × ℕ)) → pair.1 == page ≡ b → without_page page (pair ∷ pairs) ≡ (if b then pairs else pair ∷ without_page page pairs)
  first b pair pairs is = ap (λ t. if t then pairs else pair ∷ without_page page pairs) is

  at_place : (pairs : List (Bytes × ℕ)) (i : ℕ) → i < length pairs → ((d : Bytes × ℕ) → (get_or pairs i d).1 == page ≡ true) → ((k : ℕ) (d : Bytes × ℕ) → k < i → (get_or pairs k d).1 == page ≡ false) → take i pairs ++ drop (suc i) pairs ≡ without_page page pairs
  at_place [] i lt here before = absurd (omega arith)
  at_place (pair ∷ pairs) zero lt here before = sym (first true pair pairs (here pair))
  at_place (pair ∷ pairs) (suc i) lt here before =
      ap (λ rest. pair ∷ rest) (at_place pairs i (omega arith) here (λ k d less. before (suc k) d (omega arith))) ∙ sym (first false pair pairs (before 0 pair (omega arith)))

  nowhere_so : (b : Bool) (i : ℕ) (pair : Bytes × ℕ) (pairs : List (Bytes × ℕ)) → leads pair ≡ b → cond b (Some i) (position_from leads (i + 1) pairs) ≡ None → (position_from leads (i + 1) pairs ≡ None → pairs ≡ without_page page pairs) → pair ∷ pairs ≡ without_page page (pair ∷ pairs)
  nowhere_so true i pair pairs is none rest = absurd cc
  nowhere_so false i pair pairs is none rest = ap (λ others. pair ∷ others) (rest none) ∙ sym (first false pair pairs is)

  nowhere : (i : ℕ) (pairs : List (Bytes × ℕ)) → position_from leads i pairs ≡ None → pairs ≡ without_page page pairs
  nowhere i [] none = refl
  nowhere i (pair ∷ pairs) none = nowhere_so (leads pair) i pair pairs refl none (nowhere (i + 1) pairs)

  all_chosen : (P : Bytes × ℕ → Type 0) (b : Bool) (pair : Bytes × ℕ) (pairs rest : List (Bytes × ℕ)) → P pair → AllByRecursion P pairs → AllByRecursion P rest → AllByRecursion P (if b then pairs else pair ∷ rest)
  all_chosen P true pair pairs rest here all kept = all
  all_chosen P false pair pairs rest here all kept = (here, kept)

  -- what holds of each pair still does
  pub all_without : (P : Bytes × ℕ → Type 0) (pairs : List (Bytes × ℕ)) → AllByRecursion P pairs → AllByRecursion P (without_page page pairs)
  all_without P [] all = tt
  all_without P (pair ∷ pairs) all = all_chosen P (pair.1 == page) pair pairs (without_page page pairs) all.0 all.1 (all_without P pairs all.1)

  ascending_chosen : (b : Bool) (pair : Bytes × ℕ) (pairs : List (Bytes × ℕ)) → IsAscending (pair ∷ pairs) → IsAscending (without_page page pairs) → IsAscending (if b then pairs else pair ∷ without_page page pairs)
  ascending_chosen true pair pairs ascending rest = ascending.1
  ascending_chosen false pair pairs ascending rest = (all_without (λ later. IsBelow pair.0 later.0) pairs ascending.0, rest)

  pub ascending_without : (pairs : List (Bytes × ℕ)) → IsAscending pairs → IsAscending (without_page page pairs)
  ascending_without [] ascending = tt
  ascending_without (pair ∷ pairs) ascending = ascending_chosen (pair.1 == page) pair pairs ascending (ascending_without pairs ascending.1)

  few_chosen : (b : Bool) (pair : Bytes × ℕ) (pairs rest : List (Bytes × ℕ)) → length rest ≤ length pairs → length (if b then pairs else pair ∷ rest) ≤ length (pair ∷ pairs)
  few_chosen true pair pairs rest le = omega arith
  few_chosen false pair pairs rest le = omega arith

  pub few_without : (pairs : List (Bytes × ℕ)) → length (without_page page pairs) ≤ length pairs
  few_without [] = omega arith
  few_without (pair ∷ pairs) = few_chosen (pair.1 == page) pair pairs (without_page page pairs) (few_without pairs)

  module _ (pairs : List (Bytes × ℕ)) where
    -- the first pair that leads to the page, taken out
    pub without_found : (i : ℕ) → position leads pairs ≡ Some i → take i pairs ++ drop (suc i) pairs ≡ without_page page pairs
    without_found i found =
        at_place pairs i (position-Some leads pairs i ([], 0) found).0 (λ d. (position-Some leads pairs i d found).1) (λ k d. (position-Some leads pairs i d found).2 k)

    pub without_none : position leads pairs ≡ None → pairs ≡ without_page page pairs
    without_none none = nowhere 0 pairs (sym (position_from-zero leads pairs) ∙ none)

    pub has_without : HasPairs (λ item. item < 2 ^ 64) pairs → HasPairs (λ item. item < 2 ^ 64) (without_page page pairs)
    has_without has = record {
      few = omega (arith, has.few, few_without pairs);
      ascending = ascending_without pairs has.ascending;
      keys = all_without (λ pair. IsWithinLimit pair.0) pairs has.keys;
      items = all_without (λ pair. pair.1 < 2 ^ 64) pairs has.items;
    }
