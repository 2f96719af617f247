-- Pairs as bytes: they tell which pairs they are.
use Rattle.std.proofs.Common.{◌≡◌, ◌≢◌, ℕ, zero, suc, Bool, true, false, get_or, ◌<◌, ◌^◌, List, [], ◌∷◌, ◌++◌, length, take, drop, map, Option, None, Some, Result, Ok, Err, IfOk, IfSome, IfNone, refl, sym, ap, ◌∙◌, subst, append_assoc, arith}
use Rattle.std.specs.Prelude.{◌==◌}
use Rattle.std.specs.Int.{w32, to_le_bytes, from_le_bytes}
use Rattle.std.specs.List.{AllByRecursion, flat_map}
use Rattle.std.specs.Option.{SomeIff}
use Rattle.std.proofs.Math.Seq.{take-append_seam, drop-append_seam}
use Rattle.std.proofs.lemmas.Bool.Decides.{nat_tests}
use Rattle.std.proofs.lemmas.Nat.{from_le_bytes-to_le_bytes_4}
use Rattle.sled_base.specs.Order.{Bytes, IsBelow}
use Rattle.sled_node.specs.Node.{Value, WholeNode, leaf_of}
use Rattle.sled_node.specs.Pairs.{HasPairs, IsAscending, IsWithinLimit}
use Rattle.sled_handle.specs.Pairs.{AreAbove, EncodeLeaf, EncodePairs, IsShort, pair_bytes}

-- two numbers in four bytes each, with something behind them
same_number : (a b : ℕ) (x y : Bytes) → a < 2 ^ 32 → b < 2 ^ 32 → to_le_bytes w32 a ++ x ≡ to_le_bytes w32 b ++ y → (a ≡ b) × (x ≡ y)
same_number a b x y first second e =
    let bytes : to_le_bytes w32 a ≡ to_le_bytes w32 b = ap (take 4) e in
    (sym (from_le_bytes-to_le_bytes_4 a first) ∙ ap (from_le_bytes w32) bytes ∙ from_le_bytes-to_le_bytes_4 b second, ap (drop 4) e)

-- two byte strings of one length, likewise
same_front : (s t x y : Bytes) → length s ≡ length t → s ++ x ≡ t ++ y → (s ≡ t) × (x ≡ y)
same_front s t x y len e = (
  sym (take-append_seam s x) ∙ ap (take (length s)) e ∙ ap (λ n. take n (t ++ y)) len ∙ take-append_seam t y,
  sym (drop-append_seam s x) ∙ ap (drop (length s)) e ∙ ap (λ n. drop n (t ++ y)) len ∙ drop-append_seam t y,
)

-- two pairs, likewise
same_pair : (p q : Bytes × Bytes) (x y : Bytes) → IsShort p → IsShort q → pair_bytes p ++ x ≡ pair_bytes q ++ y → (p ≡ q) × (x ≡ y)
same_pair p q x y first second e =
    let key = same_number (length p.0) (length q.0) _ _ first.0 second.0 e in
    let value = same_number (length p.1) (length q.1) _ _ first.1 second.1 key.1 in
    let keys = same_front p.0 q.0 (p.1 ++ x) (q.1 ++ y) key.0 (sym (append_assoc p.0 p.1 x) ∙ value.1 ∙ append_assoc q.0 q.1 y) in
    let values = same_front p.1 q.1 x y value.0 keys.1 in
    (ap (λ k. (k, p.1)) keys.0 ∙ ap (λ v. (q.0, v)) values.0, values.1)

-- So bytes are one list of pairs.
same_pairs : (ps qs : List (Bytes × Bytes)) → AllByRecursion IsShort ps → AllByRecursion IsShort qs → flat_map pair_bytes ps ≡ flat_map pair_bytes qs → ps ≡ qs
same_pairs [] [] first second e = refl
same_pairs [] (q ∷ qs) first second e = cc
same_pairs (p ∷ ps) [] first second e = cc
same_pairs (p ∷ ps) (q ∷ qs) first second e =
    let front = same_pair p q _ _ first.0 second.0 e in
    ap (λ r. r ∷ ps) front.0 ∙ ap (λ rs. q ∷ rs) (same_pairs ps qs first.1 second.1 front.1)

-- ---- reading a number

-- what stands in front of bytes are bytes
pub front_fits : (n : ℕ) (bytes : Bytes) → ((i : ℕ) → get_or bytes i 0 < 256) → (i : ℕ) → get_or (take n bytes) i 0 < 256
front_fits zero bytes all i = omega arith
front_fits (suc n) [] all i = omega arith
front_fits (suc n) (byte ∷ bytes) all zero = all zero
front_fits (suc n) (byte ∷ bytes) all (suc i) = front_fits n bytes (λ j. all (suc j)) i

-- a test for no bytes
pub is_empty : (bytes : Bytes) (test : Bool) → test ≡ (length bytes == 0) → test ≡ true → bytes ≡ []
is_empty [] test is shown = refl
is_empty (byte ∷ bytes) test is shown = absurd (grind (arith, nat_tests))

pub is_some : (bytes : Bytes) (test : Bool) → test ≡ (length bytes == 0) → test ≡ false → bytes ≢ []
is_some bytes test is shown empty = let e : false ≡ (length bytes == 0) = sym shown ∙ is in let f : (length bytes == 0) ≡ true = ap (λ xs. length xs == 0) empty in cc

-- ---- a turn of the loop

-- with the pairs behind it, it is one pair more
pub one_more : (left behind : Bytes) (pair : Bytes × Bytes) (others : List (Bytes × Bytes)) → IsShort pair × (left ≡ pair_bytes pair ++ behind) → EncodePairs behind others → EncodePairs left (pair ∷ others)
one_more left behind pair others read encode = ((read.0, encode.0), read.1 ∙ ap (λ t. pair_bytes pair ++ t) encode.1)

-- and of the pairs that there are, one less is left
pub one_less : (left behind : Bytes) (pair : Bytes × Bytes) (all : List (Bytes × Bytes)) → IsShort pair × (left ≡ pair_bytes pair ++ behind) → EncodePairs left all → (others : List (Bytes × Bytes)) × EncodePairs behind others
one_less left behind pair [] read encode = let e : [] ≡ pair_bytes pair ++ behind = sym encode.1 ∙ read.1 in cc
one_less left behind pair (q ∷ others) read encode =
    let front = same_pair pair q behind _ read.0 encode.0.0 (sym read.1 ∙ encode.1) in
    (others, (encode.0.1, front.1))

-- If the pairs ascend, those behind the first are above it.
pub one_less_ascending : (left behind : Bytes) (pair : Bytes × Bytes) (all : List (Bytes × Bytes)) → IsShort pair × (left ≡ pair_bytes pair ++ behind) → EncodePairs left all → IsAscending all
    → (others : List (Bytes × Bytes)) × EncodePairs behind others × AreAbove pair.0 others
one_less_ascending left behind pair [] read encode ascending = let e : [] ≡ pair_bytes pair ++ behind = sym encode.1 ∙ read.1 in cc
one_less_ascending left behind pair (q ∷ others) read encode ascending =
    let front = same_pair pair q behind _ read.0 encode.0.0 (sym read.1 ∙ encode.1) in
    (others, (encode.0.1, front.1), subst (λ p. AreAbove p.0 others) (sym front.0) ascending)

-- Of pairs above a key the first is above it, too.
pub one_less_above : (left behind last : Bytes) (pair : Bytes × Bytes) (all : List (Bytes × Bytes)) → IsShort pair × (left ≡ pair_bytes pair ++ behind) → EncodePairs left all → AreAbove last all
    → (others : List (Bytes × Bytes)) × IsBelow last pair.0 × EncodePairs behind others × AreAbove pair.0 others
one_less_above left behind last pair [] read encode above = let e : [] ≡ pair_bytes pair ++ behind = sym encode.1 ∙ read.1 in cc
one_less_above left behind last pair (q ∷ others) read encode above =
    let front = same_pair pair q behind _ read.0 encode.0.0 (sym read.1 ∙ encode.1) in
    let less = one_less_ascending left behind pair (q ∷ others) read encode above.1 in
    (less.0, subst (λ p. IsBelow last p.0) (sym front.0) above.0.0, less.1, less.2)

-- Where bytes are left and no pair stands in front, they are no pairs.
pub no_pairs : (left : Bytes) → left ≢ [] → ((pair : Bytes × Bytes) → (behind : Bytes) → IsShort pair → left ≢ pair_bytes pair ++ behind) → (pairs : List (Bytes × Bytes)) → EncodePairs left pairs → ⊥
no_pairs left some none [] encode = some encode.1
no_pairs left some none (pair ∷ pairs) encode = none pair _ encode.0.0 encode.1

-- ---- the leaf of the pairs

pub leaf_encoded : {E : Type 0} (bytes : Bytes) (pairs : List (Bytes × Bytes)) (result : Result (Option WholeNode) E) → EncodePairs bytes pairs
    → IfOk result (λ node. SomeIff node (HasPairs IsWithinLimit pairs) (leaf_of (map (λ pair. (pair.0, Value pair.1)) pairs))) → IfOk result (λ found. IfSome found (EncodeLeaf bytes))
leaf_encoded bytes pairs (Ok None) encode made = tt
leaf_encoded bytes pairs (Ok (Some node)) encode made = record { pairs = pairs; encode = encode; fits = made.0; leaf = made.1 }
leaf_encoded bytes pairs (Err error) encode made = tt

pub no_leaf_encoded : {E : Type 0} (bytes : Bytes) (pairs : List (Bytes × Bytes)) (result : Result (Option WholeNode) E) → EncodePairs bytes pairs
    → IfOk result (λ node. SomeIff node (HasPairs IsWithinLimit pairs) (leaf_of (map (λ pair. (pair.0, Value pair.1)) pairs))) → IfOk result (λ found. IfNone found ((node : WholeNode) → EncodeLeaf bytes node → ⊥))
no_leaf_encoded bytes pairs (Ok None) encode made = λ node leaf.
    made (subst (HasPairs IsWithinLimit) (same_pairs leaf.pairs pairs leaf.encode.0 encode.0 (sym leaf.encode.1 ∙ encode.1)) leaf.fits)
no_leaf_encoded bytes pairs (Ok (Some node)) encode made = tt
no_leaf_encoded bytes pairs (Err error) encode made = tt
