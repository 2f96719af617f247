-- Where a whole key stands among pairs whose stored keys lack a prefix.
use Rattle.std.proofs.Common.{◌≡◌, ◌≢◌, ℕ, zero, suc, ◌+◌, ◌<◌, List, [], ◌∷◌, ◌++◌, length, map, refl, sym, ap, subst, ◌∙◌, arith}
use Rattle.std.specs.Prelude.{Result, Ok, Err, IfOk, IfErr}
use Rattle.std.specs.List.{AllByRecursion, HoldsAt}
use Rattle.std.specs.Ordering.{nat_cmp, ordering_then, ordering_reverse}
use Rattle.std.specs.declared.cmp.Ordering.{Ordering}
use Rattle.std.specs.declared.cmp.Ordering.TheVariants.{Less, Equal, Greater}
use Rattle.std.proofs.lemmas.Cmp.{nat_cmp_total}
use Rattle.std.proofs.lemmas.Map.Lookups.{exact_unsigned}
use Rattle.std.proofs.lemmas.List.{length-map, take-map, drop-map}
use Rattle.std.proofs.Math.Seq.{take-length, drop-length}
use Rattle.sled_base.specs.Order.{Bytes, bytes_cmp, IsBelow}
use Rattle.sled_node.specs.Node.{Item}
use Rattle.sled_node.specs.Pairs.{StandsAt, IsGap}
use Rattle.sled_node.proofs.NodeEdits.{made, below_under, above_under}
use Rattle.sled_node.proofs.Places.{all_above, all_below}

-- ---- keys that don't begin with the prefix

-- the first bytes decide, or else the others
then_less : (o p q : Ordering) → ordering_then o p ≡ Less → (p ≡ Less → q ≡ Less) → ordering_then o q ≡ Less
then_less Less p q lt so = refl
then_less Equal p q lt so = so lt
then_less Greater p q lt so = absurd cc

then_not_less : (o p q : Ordering) → (ordering_then o p ≡ Less → ⊥) → (o ≡ Equal → (p ≡ Less → ⊥) → q ≡ Less) → ordering_then (ordering_reverse o) q ≡ Less
then_not_less Less p q least so = absurd (least refl)
then_not_less Equal p q least so = so refl least
then_not_less Greater p q least so = refl

-- a key below the prefix is below what begins with it
pub below_front : (key front stored : Bytes) → IsBelow key front → IsBelow key (front ++ stored)
below_front [] [] stored lt = absurd cc
below_front [] (y ∷ front) stored lt = refl
below_front (x ∷ key) [] stored lt = absurd cc
below_front (x ∷ key) (y ∷ front) stored lt = then_less (nat_cmp x y) (bytes_cmp key front) (bytes_cmp key (front ++ stored)) lt (λ less. below_front key front stored less)

-- another key that doesn't begin with it is above
pub above_front : (key front stored : Bytes) → ((rest : Bytes) → key ≢ front ++ rest) → (IsBelow key front → ⊥) → IsBelow (front ++ stored) key
above_front key [] stored other least = absurd (other key refl)
above_front [] (y ∷ front) stored other least = absurd (least refl)
above_front (x ∷ key) (y ∷ front) stored other least =
    ap (λ o. ordering_then o (bytes_cmp (front ++ stored) key)) (nat_cmp_total.antisymm y x) ∙ then_not_less (nat_cmp x y) (bytes_cmp key front) (bytes_cmp (front ++ stored) key) least (λ level more. above_front key front stored (λ rest is. other rest (ap (λ z. z ∷ key) (exact_unsigned x y level) ∙ ap (λ tail. y ∷ tail) is)) more)

all_made : {V : Type 0} (P : Bytes × Item → Type 0) (front : Bytes) (make : V → Item) → ((pair : Bytes × V) → P (made front make pair)) → (pairs : List (Bytes × V)) → AllByRecursion P (map (made front make) pairs)
all_made P front make so [] = tt
all_made P front make so (pair ∷ pairs) = (so pair, all_made P front make so pairs)

-- the pair with the stored key has the whole key
same_whole : {V : Type 0} (front : Bytes) (make : V → Item) (key stored : Bytes) (pairs : List (Bytes × V)) (i : ℕ) → key ≡ front ++ stored → i < length pairs → HoldsAt (λ pair. pair.0 ≡ stored) pairs i → HoldsAt (λ pair. pair.0 ≡ key) (map (made front make) pairs) i
same_whole front make key stored [] i is lt same = absurd (omega arith)
same_whole front make key stored (pair ∷ pairs) zero is lt same = λ d. ap (λ k. front ++ k) (same pair) ∙ sym is
same_whole front make key stored (pair ∷ pairs) (suc i) is lt same = same_whole front make key stored pairs i is (omega arith) same

module _ {V : Type 0} (front : Bytes) (make : V → Item) (pairs : List (Bytes × V)) where
  abbrev wholes : List (Bytes × Item)
  wholes = map (made front make) pairs

  -- a stored key stands where its whole key does
  stands_under : (key : Bytes) (i : ℕ) → StandsAt pairs key i → StandsAt wholes (front ++ key) i
  stands_under key i at = record {
    within = omega (arith, at.within, length-map pairs (made front make));
    before = take-map (made front make) i pairs ∙ ap (map (made front make)) at.before ∙ below_under front make key pairs;
    after = drop-map (made front make) (i + 1) pairs ∙ ap (map (made front make)) at.after ∙ above_under front make key pairs;
  }

  -- and would stand there
  gap_under : (key : Bytes) (i : ℕ) → IsGap pairs key i → IsGap wholes (front ++ key) i
  gap_under key i at = record {
    within = omega (arith, at.within, length-map pairs (made front make));
    before = take-map (made front make) i pairs ∙ ap (map (made front make)) at.before ∙ below_under front make key pairs;
    after = drop-map (made front make) i pairs ∙ ap (map (made front make)) at.after ∙ above_under front make key pairs;
  }

  -- what a search for the stored key finds
  pub found_under : (key stored : Bytes) (r : Result ℕ ℕ) → key ≡ front ++ stored → IfOk r (StandsAt pairs stored) → IfOk r (StandsAt wholes key)
  found_under key stored (Ok i) is at = subst (λ k. StandsAt wholes k i) (sym is) (stands_under stored i at)
  found_under key stored (Err i) is at = tt

  pub same_under : (key stored : Bytes) (r : Result ℕ ℕ) → key ≡ front ++ stored → IfOk r (StandsAt pairs stored) → IfOk r (HoldsAt (λ pair. pair.0 ≡ stored) pairs) → IfOk r (HoldsAt (λ pair. pair.0 ≡ key) wholes)
  same_under key stored (Ok i) is at same = λ d. same_whole front make key stored pairs i is at.within same d
  same_under key stored (Err i) is at same = tt

  pub missing_under : (key stored : Bytes) (r : Result ℕ ℕ) → key ≡ front ++ stored → IfErr r (IsGap pairs stored) → IfErr r (IsGap wholes key)
  missing_under key stored (Ok i) is at = tt
  missing_under key stored (Err i) is at = subst (λ k. IsGap wholes k i) (sym is) (gap_under stored i at)

  -- a key below the prefix would stand first
  pub gap_first : (key : Bytes) → IsBelow key front → IsGap wholes key 0
  gap_first key lt =
      let others = all_above key wholes (all_made (λ pair. IsBelow key pair.0) front make (λ pair. below_front key front pair.0 lt) pairs) in
      record { within = omega arith; before = sym others.0; after = sym others.1 }

  -- another key that doesn't begin with the prefix would stand last
  pub gap_last : (key : Bytes) → ((rest : Bytes) → key ≢ front ++ rest) → (IsBelow key front → ⊥) → IsGap wholes key (length pairs)
  gap_last key other least =
      let others = all_below key wholes (all_made (λ pair. IsBelow pair.0 key) front make (λ pair. above_front key front pair.0 other least) pairs) in
      subst (IsGap wholes key) (length-map pairs (made front make)) (record { within = omega arith; before = take-length wholes ∙ sym others.0; after = drop-length wholes ∙ sym others.1 })
