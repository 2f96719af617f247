-- The parts of a well-formed node are well-formed.
use Rattle.std.proofs.Common.{◌≡◌, ◌≢◌, ℕ, zero, suc, ◌+◌, ◌-◌, ◌≤◌, Bool, true, false, List, [], ◌∷◌, ◌++◌, length, take, drop, Option, Some, None, refl, sym, ap, subst, ◌∙◌, arith}
use Rattle.std.specs.Prelude.{slice_get}
use Rattle.std.specs.List.{AllByRecursion}
use Rattle.std.specs.Option.{option_map}
use Rattle.std.proofs.lemmas.List.{take-append-drop, length-take-le, length-drop, length-append}
use Rattle.sled_base.specs.Order.{Bytes, IsBelow, IsAtMost}
use Rattle.sled_base.specs.OrderLaws.{below_trans, under_one_front}
use Rattle.sled_node.specs.Pairs.{IsWithinLimit, IsAscending}
use Rattle.sled_node.specs.Node.{Item, WholeNode, whole, IsInRange, IsWellFormed, ItemFits}
use Rattle.sled_node.specs.Splitting.{common_length, own_prefix, IsSeparator, least, greatest, Separates, SeparatesAt, SplitsBehind, MergeBack}
use Rattle.sled_node.proofs.Prefixes.{not_below_empty}
use Rattle.sled_node.proofs.Separators.{most_below, below_is_most, most_itself, cut_key, cut_under, cut_separates, shared_within}
use Rattle.sled_node.proofs.Restoring.{all_parts}
use Rattle.sled_node.proofs.Receiving.{own_open, own_common}

-- ---- ascending pairs in two

all_both : {X : Type 0} {P Q R : X → Type 0} → ((x : X) → P x → Q x → R x) → (xs : List X) → AllByRecursion P xs → AllByRecursion Q xs → AllByRecursion R xs
all_both so [] p q = tt
all_both so (x ∷ xs) p q = (so x p.0 q.0, all_both so xs p.1 q.1)

ascending_parts : {V : Type 0} (xs ys : List (Bytes × V)) → IsAscending (xs ++ ys) → IsAscending xs × IsAscending ys
ascending_parts [] ys ascending = (tt, ascending)
ascending_parts (x ∷ xs) ys ascending =
    let rest = ascending_parts xs ys ascending.1 in
    (((all_parts (λ later. IsBelow x.0 later.0) xs ys ascending.0).0, rest.0), rest.1)

-- the key at the end of the first pairs is their greatest, and that at the head of the others their least
greatest_at : (pairs : List (Bytes × Item)) (i : ℕ) (pair : Bytes × Item) → slice_get pairs i ≡ Some pair → greatest (take (suc i) pairs) ≡ Some pair.0
greatest_at [] i pair at = absurd cc
greatest_at (x ∷ []) zero pair at = ap (λ o. option_map (λ p. p.0) o) at
greatest_at (x ∷ y ∷ pairs) zero pair at = ap (λ o. option_map (λ p. p.0) o) at
greatest_at (x ∷ []) (suc i) pair at = absurd cc
greatest_at (x ∷ y ∷ pairs) (suc i) pair at = greatest_at (y ∷ pairs) i pair at

least_at : (pairs : List (Bytes × Item)) (i : ℕ) (pair : Bytes × Item) → slice_get pairs i ≡ Some pair → least (drop i pairs) ≡ Some pair.0
least_at [] i pair at = absurd cc
least_at (x ∷ pairs) zero pair at = ap (λ o. option_map (λ p. p.0) o) at
least_at (x ∷ pairs) (suc i) pair at = least_at pairs i pair at

module _ (Q : Bytes → Type 0) where
  greatest_so : (pairs : List (Bytes × Item)) (key : Bytes) → AllByRecursion (λ pair. Q pair.0) pairs → greatest pairs ≡ Some key → Q key
  greatest_so [] key all is = absurd cc
  greatest_so (pair ∷ []) key all is = subst Q (cc) all.0
  greatest_so (pair ∷ next ∷ pairs) key all is = greatest_so (next ∷ pairs) key all.1 is

  least_so : (pairs : List (Bytes × Item)) (key : Bytes) → AllByRecursion (λ pair. Q pair.0) pairs → least pairs ≡ Some key → Q key
  least_so [] key all is = absurd cc
  least_so (pair ∷ pairs) key all is = subst Q (cc) all.0

-- what is above the greatest key is above all, and what is not above the least is above none
below_all : (pairs : List (Bytes × Item)) (key s : Bytes) → IsAscending pairs → greatest pairs ≡ Some key → IsBelow key s → AllByRecursion (λ pair. IsBelow pair.0 s) pairs
below_all [] key s ascending is lt = tt
below_all (pair ∷ []) key s ascending is lt = (subst (λ k. IsBelow k s) (cc) lt, tt)
below_all (pair ∷ next ∷ pairs) key s ascending is lt = let rest = below_all (next ∷ pairs) key s ascending.1 is lt in (below_trans pair.0 next.0 s ascending.0.0 rest.0, rest)

above_first : (first : Bytes) (pairs : List (Bytes × Item)) (s : Bytes) → AllByRecursion (λ later. IsBelow first later.0) pairs → IsAtMost s first → AllByRecursion (λ pair. IsAtMost s pair.0) pairs
above_first first [] s above le = tt
above_first first (pair ∷ pairs) s above le = (below_is_most s pair.0 (most_below s first pair.0 le above.0), above_first first pairs s above.1 le)

above_all : (pairs : List (Bytes × Item)) (key s : Bytes) → IsAscending pairs → least pairs ≡ Some key → IsAtMost s key → AllByRecursion (λ pair. IsAtMost s pair.0) pairs
above_all [] key s ascending is le = tt
above_all (pair ∷ pairs) key s ascending is le =
    let here : IsAtMost s pair.0 = subst (IsAtMost s) (cc) le in
    (here, above_first pair.0 pairs s ascending.0 here)

-- the greatest of the first pairs is below the least of the others
greatest_below : (xs ys : List (Bytes × Item)) (left right : Bytes) → IsAscending (xs ++ ys) → greatest xs ≡ Some left → least ys ≡ Some right → IsBelow left right
greatest_below [] ys left right ascending is so = absurd cc
greatest_below (x ∷ []) [] left right ascending is so = absurd cc
greatest_below (x ∷ []) (y ∷ ys) left right ascending is so =
    let a : x.0 ≡ left = cc in
    let b : y.0 ≡ right = cc in
    subst (λ k. IsBelow k right) a (subst (IsBelow x.0) b ascending.0.0)
greatest_below (x ∷ next ∷ xs) ys left right ascending is so = greatest_below (next ∷ xs) ys left right ascending.1 is so

-- ---- where a node is parted

pub record IsSplitBy (index : Bool) (xs ys : List (Bytes × Item)) (s : Bytes) : Type 0 where
  pub left : Bytes
  pub right : Bytes
  pub left_is : greatest xs ≡ Some left
  pub right_is : least ys ≡ Some right
  pub parted : Separates index left right s

split_by : (index : Bool) (xs ys : List (Bytes × Item)) (s : Bytes) (a b : Option Bytes) → greatest xs ≡ a → least ys ≡ b → SeparatesAt index a b s → IsSplitBy index xs ys s
split_by index xs ys s (Some left) (Some right) a b parts = record { left = left; right = right; left_is = a; right_is = b; parted = parts }
split_by index xs ys s None right a b parts = absurd parts
split_by index xs ys s (Some left) None a b parts = absurd parts

parts_so : (index : Bool) (left right s : Bytes) → IsBelow left right → Separates index left right s → IsBelow left s × IsAtMost s right × (length s ≤ length right)
parts_so true left right s lt is = (subst (IsBelow left) (sym is) lt, subst (IsAtMost s) is (most_itself s), let e = ap length is in omega arith)
parts_so false left right s lt is = (is.above_left, is.not_above_right, let e = ap length is.beginning.1 in omega (arith, e, length-append s is.beginning.0))

all_get : {X : Type 0} (P : X → Type 0) (xs : List X) (i : ℕ) (x : X) → AllByRecursion P xs → slice_get xs i ≡ Some x → P x
all_get P [] i x all at = absurd cc
all_get P (y ∷ xs) zero x all at = let same : y ≡ x = cc in subst P same all.0
all_get P (y ∷ xs) (suc i) x all at = all_get P xs i x all.1 at

-- two pairs that are next to each other
module _ (pairs : List (Bytes × Item)) (count : ℕ) (p q : Bytes × Item) (left_at : slice_get pairs (count - 1) ≡ Some p) (right_at : slice_get pairs count ≡ Some q) (some : 1 ≤ count) where
  greatest_is : greatest (take count pairs) ≡ Some p.0
  greatest_is = let before : suc (count - 1) ≡ count = omega arith in ap (λ k. greatest (take k pairs)) (sym before) ∙ greatest_at pairs (count - 1) p left_at

  least_is : least (drop count pairs) ≡ Some q.0
  least_is = least_at pairs count q right_at

  next_below : IsAscending pairs → IsBelow p.0 q.0
  next_below ascending = greatest_below (take count pairs) (drop count pairs) p.0 q.0 (subst IsAscending (sym (take-append-drop count pairs)) ascending) greatest_is least_is

  parts_next : (index : Bool) (s : Bytes) → Separates index p.0 q.0 s → SeparatesAt index (greatest (take count pairs)) (least (drop count pairs)) s
  parts_next index s parts = rw (greatest_is, least_is) parts

-- two stored keys that are next to each other, in a well-formed node
module _ (n : WholeNode) (formed : IsWellFormed n) (count : ℕ) (left right : Bytes) {p q : Item} (left_at : slice_get n.pairs (count - 1) ≡ Some (whole n left, p)) (right_at : slice_get n.pairs count ≡ Some (whole n right, q)) (some : 1 ≤ count) where
  whole_below : IsBelow (whole n left) (whole n right)
  whole_below = next_below n.pairs count (whole n left, p) (whole n right, q) left_at right_at some formed.ascending

  -- the right one has the byte at which it is cut
  pub cut_within : common_length left right + 1 ≤ length right
  cut_within = shared_within left right (sym (under_one_front (take n.prefix_len n.lo) left right) ∙ whole_below)

  pub right_short : IsWithinLimit right
  right_short =
      let short = all_get (λ pair. IsWithinLimit pair.0) n.pairs count (whole n right, q) formed.keys right_at in
      omega (arith, short, length-append (take n.prefix_len n.lo) right)

  pub index_parts : n.is_index ≡ true → (s : Bytes) → s ≡ whole n right → SeparatesAt n.is_index (greatest (take count n.pairs)) (least (drop count n.pairs)) s
  index_parts index s is = parts_next n.pairs count (whole n left, p) (whole n right, q) left_at right_at some n.is_index s (subst (λ b. Separates b (whole n left) (whole n right) s) (sym index) is)

  pub leaf_parts : n.is_index ≡ false → (s : Bytes) → s ≡ whole n (cut_key left right) → SeparatesAt n.is_index (greatest (take count n.pairs)) (least (drop count n.pairs)) s
  leaf_parts leaf s is =
      let separates = subst (IsSeparator (whole n left) (whole n right)) (sym (is ∙ cut_under (take n.prefix_len n.lo) left right)) (cut_separates (whole n left) (whole n right) whole_below) in
      parts_next n.pairs count (whole n left, p) (whole n right, q) left_at right_at some n.is_index s (subst (λ b. Separates b (whole n left) (whole n right) s) (sym leaf) separates)

-- ---- the parts

-- the parts that meet at s
abbrev pub left_part : ℕ → Bytes → WholeNode → WholeNode
left_part count s n = record { prefix_len = own_prefix n.lo s; lo = n.lo; hi = s; next = None; child = n.child; capped = n.capped; is_index = n.is_index; pairs = take count n.pairs }

abbrev pub right_part : ℕ → Bytes → WholeNode → WholeNode
right_part count s n = record { prefix_len = own_prefix s n.hi; lo = s; hi = n.hi; next = n.next; child = None; capped = false; is_index = n.is_index; pairs = drop count n.pairs }

module _ (n : WholeNode) (formed : IsWellFormed n) (count : ℕ) (within : count ≤ length n.pairs) (s : Bytes) where
  abbrev xs : List (Bytes × Item)
  xs = take count n.pairs

  abbrev ys : List (Bytes × Item)
  ys = drop count n.pairs

  all_pairs : xs ++ ys ≡ n.pairs
  all_pairs = take-append-drop count n.pairs

  in_parts : (P : Bytes × Item → Type 0) → AllByRecursion P n.pairs → AllByRecursion P xs × AllByRecursion P ys
  in_parts P all = all_parts P xs ys (subst (AllByRecursion P) (sym all_pairs) all)

  ascending : IsAscending (xs ++ ys)
  ascending = subst IsAscending (sym all_pairs) formed.ascending

  module _ (parts : SeparatesAt n.is_index (greatest xs) (least ys) s) where
    parted : IsSplitBy n.is_index xs ys s
    parted = split_by n.is_index xs ys s (greatest xs) (least ys) refl refl parts

    so : IsBelow parted.left s × IsAtMost s parted.right × (length s ≤ length parted.right)
    so = parts_so n.is_index parted.left parted.right s (greatest_below xs ys parted.left parted.right ascending parted.left_is parted.right_is) parted.parted

    some : s ≢ []
    some none = not_below_empty parted.left (subst (IsBelow parted.left) none so.0)

    inside : AllByRecursion (λ pair. IsInRange n pair.0) xs × AllByRecursion (λ pair. IsInRange n pair.0) ys
    inside = in_parts (λ pair. IsInRange n pair.0) formed.in_range

    lo_below : IsBelow n.lo s
    lo_below = most_below n.lo parted.left s (greatest_so (IsInRange n) xs parted.left inside.0 parted.left_is).0 so.0

    below_hi : n.hi ≢ [] → IsBelow s n.hi
    below_hi bounded = most_below s parted.right n.hi so.1 ((least_so (IsInRange n) ys parted.right inside.1 parted.right_is).1 bounded)

    keys : AllByRecursion (λ pair. IsWithinLimit pair.0) xs × AllByRecursion (λ pair. IsWithinLimit pair.0) ys
    keys = in_parts (λ pair. IsWithinLimit pair.0) formed.keys

    short : IsWithinLimit s
    short = let right = least_so IsWithinLimit ys parted.right keys.1 parted.right_is in omega (arith, so.2, right)

    items : AllByRecursion (λ pair. ItemFits n.is_index pair.1) xs × AllByRecursion (λ pair. ItemFits n.is_index pair.1) ys
    items = in_parts (λ pair. ItemFits n.is_index pair.1) formed.items

    pub left_formed : IsWellFormed (left_part count s n)
    left_formed = record {
      range = λ _. lo_below;
      prefix_byte = omega arith;
      prefix_open = own_open n.lo s;
      prefix_common = own_common n.lo s;
      ascending = (ascending_parts xs ys ascending).0;
      in_range = all_both (λ pair inside lt. (inside.0, λ _. lt)) xs inside.0 (below_all xs parted.left s (ascending_parts xs ys ascending).0 parted.left_is so.0);
      few = omega (arith, formed.few, length-take-le count n.pairs within);
      bounds = (formed.bounds.0, short);
      keys = keys.0;
      items = items.0;
      pages = (tt, formed.pages.1);
    }

    pub right_formed : IsWellFormed (right_part count s n)
    right_formed = record {
      range = below_hi;
      prefix_byte = omega arith;
      prefix_open = own_open s n.hi;
      prefix_common = own_common s n.hi;
      ascending = (ascending_parts xs ys ascending).1;
      in_range = all_both (λ pair inside le. (le, inside.1)) ys inside.1 (above_all ys parted.right s (ascending_parts xs ys ascending).1 parted.right_is so.1);
      few = omega (arith, formed.few, length-drop count n.pairs);
      bounds = (short, formed.bounds.1);
      keys = keys.1;
      items = items.1;
      pages = (formed.pages.0, tt);
    }

    pub parts_split : SplitsBehind n count (left_part count s n) (right_part count s n)
    parts_split =
        let many : length xs ≡ count = length-take-le count n.pairs within in
        grind (arith, all_pairs, parts)

    pub parts_merge : MergeBack n (left_part count s n) (right_part count s n)
    parts_merge = record {
      received = record {
        kind = refl;
        bounded = some;
        meet = refl;
        few = omega (arith, formed.few, length-take-le count n.pairs within, length-drop count n.pairs);
      };
      whole = (λ i. record n { prefix_len = own_prefix n.lo n.hi; pairs = all_pairs i });
    }
