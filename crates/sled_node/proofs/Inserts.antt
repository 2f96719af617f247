-- Putting a pair among ascending ones, unless its key is there.
use Rattle.std.proofs.Common.{◌≡◌, ◌↔◌, IsTrue, ℕ, zero, suc, ◌<◌, ◌≤◌, ◌^◌, Bool, true, false, cond, List, [], ◌∷◌, length, get_or, take, drop, inl, inr, refl, sym, ap, subst, ◌∙◌, arith}
use Rattle.std.specs.Prelude.{◌⊎◌}
use Rattle.std.specs.List.{AllByRecursion}
use Rattle.std.specs.declared.cmp.Ordering.{Ordering}
use Rattle.std.specs.declared.cmp.Ordering.TheVariants.{Less, Equal, Greater}
use Rattle.std.specs.Ordering.{is_lt, ordering_reverse}
use Rattle.std.proofs.lemmas.List.{length-append, take-append-drop, get_or_default}
use Rattle.std.proofs.Math.Numerals.{add-one}
use Rattle.sled_base.specs.Order.{Bytes, bytes_cmp, is_below, IsBelow}
use Rattle.sled_base.specs.OrderLaws.{equal_is_same, not_below_itself, reversed}
use Rattle.sled_node.specs.Pairs.{IsWithinLimit, IsAscending, pairs_below, pairs_above, set_pair, StandsAt, IsGap, HasPairs}
use Rattle.sled_node.specs.Inserts.{HasKey, inserted}
use Rattle.sled_base.proofs.Each.{all_at}
use Rattle.sled_node.proofs.Edits.{all_append, all_filter, all_passed, few_del, has_set}
use Rattle.sled_node.proofs.Places.{all_so}

-- neither below nor above is equal
neither : (o p : Ordering) → o ≡ ordering_reverse p → is_lt o ≡ false → is_lt p ≡ false → o ≡ Equal
neither Less p is low high = absurd cc
neither Equal p is low high = refl
neither Greater Less is low high = absurd cc
neither Greater Equal is low high = absurd cc
neither Greater Greater is low high = absurd cc

not_lt : (o : Ordering) → (o ≡ Less → ⊥) → is_lt o ≡ false
not_lt Less h = absurd (h refl)
not_lt Equal h = refl
not_lt Greater h = refl

not_below_same : (a b : Bytes) → a ≡ b → is_below a b ≡ false
not_below_same a b same = not_lt (bytes_cmp a b) (λ lt. not_below_itself a (ap (bytes_cmp a) same ∙ lt))

-- the test of the first pair, where it doesn't pass and where it does
first_goes : {X : Type 0} (b : Bool) (x : X) (xs : List X) → [] ≡ cond b (x ∷ xs) xs → b ≡ false
first_goes true x xs is = absurd cc
first_goes false x xs is = refl

first_stays : {X : Type 0} (b : Bool) (x : X) (xs ys : List X) → x ∷ ys ≡ cond b (x ∷ xs) xs → (x ∷ ys ≡ xs → ⊥) → b ≡ true
first_stays true x xs ys is twin = refl
first_stays false x xs ys is twin = absurd (twin is)

last_goes : {X : Type 0} (b : Bool) (x : X) (xs ys : List X) → xs ≡ cond b (x ∷ ys) ys → (x ∷ ys ≡ xs → ⊥) → b ≡ false
last_goes true x xs ys is twin = absurd (twin (sym is))
last_goes false x xs ys is twin = refl

apart : (o p : Ordering) → o ≡ ordering_reverse p → is_lt o ≡ true → is_lt p ≡ false
apart o Less is h = absurd cc
apart o Equal is h = refl
apart o Greater is h = refl

tails : {X : Type 0} {x y : X} {xs ys : List X} → x ∷ xs ≡ y ∷ ys → xs ≡ ys
tails is = cc

module _ {V : Type 0} (key : Bytes) where
  -- a key that is below, or above, is another
  other_below : (pair : Bytes × V) → is_below pair.0 key ≡ true → pair.0 ≡ key → ⊥
  other_below pair below same = let other = not_below_same pair.0 key same in absurd cc

  other_above : (pair : Bytes × V) → is_below key pair.0 ≡ true → pair.0 ≡ key → ⊥
  other_above pair above same = let other = not_below_same key pair.0 (sym same) in absurd cc

  -- ascending pairs don't begin with one that stands behind it
  no_twin : (pair : Bytes × V) (pairs others : List (Bytes × V)) → AllByRecursion (λ later. IsBelow pair.0 later.0) pairs → pair ∷ others ≡ pairs → ⊥
  no_twin pair pairs others above twin = not_below_itself pair.0 (subst (AllByRecursion (λ later. IsBelow pair.0 later.0)) (sym twin) above).0

  -- the pair where the key stands has that key
  stands_with : (pairs : List (Bytes × V)) (i : ℕ) (d : Bytes × V) → IsAscending pairs → i < length pairs → take i pairs ≡ pairs_below key pairs → drop (suc i) pairs ≡ pairs_above key pairs → (get_or pairs i d).0 ≡ key
  stands_with [] i d ascending lt before after = absurd (omega arith)
  stands_with (pair ∷ pairs) zero d ascending lt before after =
      let low : is_below pair.0 key ≡ false = first_goes (is_below pair.0 key) pair (pairs_below key pairs) before in
      let high : is_below key pair.0 ≡ false = last_goes (is_below key pair.0) pair pairs (pairs_above key pairs) after (no_twin pair pairs (pairs_above key pairs) ascending.0) in
      equal_is_same pair.0 key (neither (bytes_cmp pair.0 key) (bytes_cmp key pair.0) (reversed pair.0 key) low high)
  stands_with (pair ∷ pairs) (suc i) d ascending lt before after =
      let here : is_below pair.0 key ≡ true = first_stays (is_below pair.0 key) pair (pairs_below key pairs) (take i pairs) before (no_twin pair (pairs_below key pairs) (take i pairs) (all_filter (λ later. IsBelow pair.0 later.0) (λ p. is_below p.0 key) pairs ascending.0)) in
      let there : is_below key pair.0 ≡ false = apart (bytes_cmp pair.0 key) (bytes_cmp key pair.0) (reversed pair.0 key) here in
      stands_with pairs i d ascending.1 (omega arith) (tails (rw here at before)) (rw there at after)

  pub stands_has : (pairs : List (Bytes × V)) (i : ℕ) → IsAscending pairs → StandsAt pairs key i → HasKey pairs key
  stands_has [] i ascending place = absurd (omega (arith, place.within))
  stands_has (pair ∷ pairs) i ascending place =
      let xs = pair ∷ pairs in
      (i, get_or xs i pair, place.within, get_or_default xs i (get_or xs i pair) pair place.within, stands_with xs i pair ascending place.within place.before (ap (λ k. drop k xs) (sym (add-one i)) ∙ place.after))

  -- at a gap the key is missing
  pub gap_misses : (pairs : List (Bytes × V)) (i : ℕ) → IsGap pairs key i → HasKey pairs key → ⊥
  gap_misses pairs i gap (k, pair, lt, is, same) =
      let others = all_append (λ p. p.0 ≡ key → ⊥) (take i pairs) (drop i pairs)
      (subst (AllByRecursion (λ p. p.0 ≡ key → ⊥)) (sym gap.before) (all_so other_below (pairs_below key pairs) (all_passed (λ p. is_below p.0 key) pairs)))
      (subst (AllByRecursion (λ p. p.0 ≡ key → ⊥)) (sym gap.after) (all_so other_above (pairs_above key pairs) (all_passed (λ p. is_below key p.0) pairs))) in
      all_at (λ p. p.0 ≡ key → ⊥) pairs k pair (subst (AllByRecursion (λ p. p.0 ≡ key → ⊥)) (take-append-drop i pairs) others) lt (ap (λ p. p.0) is ∙ same)

  -- where there is room for a new pair, the limit is kept
  pub few_set : (pairs : List (Bytes × V)) (item : V) → (HasKey pairs key → ⊥) → (length pairs < 2 ^ 24) ⊎ HasKey pairs key → length (set_pair key item pairs) ≤ 2 ^ 24
  few_set pairs item missing (inl few) = omega (arith, few, few_del key pairs, length-append (pairs_below key pairs) ((key, item) ∷ pairs_above key pairs))
  few_set pairs item missing (inr there) = absurd (missing there)

  pub has_inserted : {fits : V → Type 0} (pairs : List (Bytes × V)) (item : V) (is_new : Bool) → HasPairs fits pairs → IsWithinLimit key → fits item → (length pairs < 2 ^ 24) ⊎ HasKey pairs key → IsTrue is_new ↔ (HasKey pairs key → ⊥) → HasPairs fits (inserted is_new (set_pair key item pairs) pairs)
  has_inserted pairs item true has key_fits item_fits room tells = has_set key pairs has item key_fits item_fits (few_set pairs item (tells.0 refl) room)
  has_inserted pairs item false has key_fits item_fits room tells = has
