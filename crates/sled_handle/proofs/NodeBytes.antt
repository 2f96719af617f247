-- The pairs of a node as bytes: how many there are, and how they are written.
use Rattle.std.proofs.Common.{◌≡◌, ℕ, zero, suc, ◌+◌, ◌*◌, ◌<◌, ◌≤◌, ◌^◌, Bool, true, false, List, [], ◌∷◌, ◌++◌, length, take, drop, Some, sym, ap, subst, ◌∙◌, append_assoc, arith}
use Rattle.std.specs.Prelude.{slice_get}
use Rattle.std.specs.Int.{w32, to_le_bytes}
use Rattle.std.specs.List.{AllByRecursion, flat_map}
use Rattle.std.proofs.lemmas.List.{take_at, drop_at, length-append, length-take, drop-drop}
use Rattle.std.proofs.lemmas.Option.{slice_get_within, get_or_from_slice_get}
use Rattle.sled_base.specs.Order.{Bytes}
use Rattle.sled_node.specs.Node.{Item, Value, Child, ItemFits, IsWellFormed, WholeNode}
use Rattle.sled_node.specs.Pairs.{IsWithinLimit}
use Rattle.sled_node.proofs.Payloads.WriteAll.{next_is}
use Rattle.sled_handle.specs.Pairs.{IsPut, IsShort, item_bytes, node_bytes, pair_bytes, value_of}

-- the pair at a place, and those behind it
pub next_pair : {X : Type 0} (xs : List X) (i : ℕ) (x : X) → slice_get xs i ≡ Some x → drop i xs ≡ x ∷ drop (i + 1) xs
next_pair xs i x is = next_is xs i x (slice_get_within xs i x is) (sym (get_or_from_slice_get xs i x x is))

all_behind : {X : Type 0} (P : X → Type 0) (xs : List X) (i : ℕ) → AllByRecursion P xs → AllByRecursion P (drop i xs)
all_behind P xs zero all = all
all_behind P [] (suc i) all = tt
all_behind P (x ∷ xs) (suc i) all = all_behind P xs i all.1

-- what holds of each holds of the one at a place
all_at : {X : Type 0} (P : X → Type 0) (xs : List X) (i : ℕ) (x : X) → AllByRecursion P xs → slice_get xs i ≡ Some x → P x
all_at P xs i x all is = (subst (AllByRecursion P) (next_pair xs i x is) (all_behind P xs i all)).0

value_short : (is_index : Bool) (item : Item) → ItemFits is_index item → length (value_of item) < 2 ^ 31
value_short false (Value value) fits = omega (arith, fits)
value_short true (Child page) fits = omega arith
value_short false (Child page) fits = absurd fits
value_short true (Value value) fits = absurd fits

-- the lengths of a pair of a node fit into four bytes
pub short_at : (n : WholeNode) (i : ℕ) (pair : Bytes × Item) → IsWellFormed n → slice_get n.pairs i ≡ Some pair → IsShort (pair.0, value_of pair.1)
short_at n i pair formed is =
    let key : length pair.0 < 2 ^ 31 = omega (arith, all_at (λ p. IsWithinLimit p.0) n.pairs i pair formed.keys is) in
    let value = value_short n.is_index pair.1 (all_at (λ p. ItemFits n.is_index p.1) n.pairs i pair formed.items is) in
    (omega (arith, key), omega (arith, value))

few_bytes : (is_index : Bool) (pairs : List (Bytes × Item)) → AllByRecursion (λ p. IsWithinLimit p.0) pairs → AllByRecursion (λ p. ItemFits is_index p.1) pairs → length (flat_map item_bytes pairs) ≤ length pairs * 2 ^ 34
few_bytes is_index [] keys items = omega arith
few_bytes is_index (pair ∷ pairs) keys items =
    let value = value_short is_index pair.1 items.0 in
    let others = few_bytes is_index pairs keys.1 items.1 in
    omega (arith, keys.0, value, others, length-append (item_bytes pair) (flat_map item_bytes pairs), length-append pair.0 (value_of pair.1))

-- the pairs of a node take fewer bytes than there can be
pub node_fits : (n : WholeNode) → IsWellFormed n → length (node_bytes n) < 2 ^ 60
node_fits n formed = omega (arith, formed.few, few_bytes n.is_index n.pairs formed.keys formed.items)

-- what is written behind what was written stands behind it
pub put_behind : (out mid after x y : Bytes) (s t : ℕ) → t ≡ s + length x → t ≤ length out → IsPut out s x mid → IsPut mid t y after → IsPut out s (x ++ y) after
put_behind out mid after x y s t is room first second =
    let len : length (take s out ++ x) ≡ t = omega (arith, is, room, length-append (take s out) x, length-take s out) in
    let front : take t mid ≡ take s out ++ x = ap (take t) first ∙ take_at (take s out ++ x) (drop (s + length x) out) t len in
    let rest : drop t mid ≡ drop t out = ap (drop t) first ∙ drop_at (take s out ++ x) (drop (s + length x) out) t len ∙ ap (λ k. drop k out) (sym is) in
    let back : drop (t + length y) mid ≡ drop (t + length y) out = sym (drop-drop (length y) t mid) ∙ ap (drop (length y)) rest ∙ drop-drop (length y) t out in
    let ends : t + length y ≡ s + length (x ++ y) = omega (arith, is, length-append x y) in
    second ∙ ap (λ f. (f ++ y) ++ drop (t + length y) mid) front ∙ ap (λ b. ((take s out ++ x) ++ y) ++ b) back ∙ ap (λ f. f ++ drop (t + length y) out) (append_assoc (take s out) x y)
    ∙ ap (λ k. (take s out ++ (x ++ y)) ++ drop k out) ends

-- so a pair is written by its parts
pub pair_put : (out first second third fourth after front rest value k v : Bytes) (s a b c d : ℕ) → k ≡ to_le_bytes w32 (length front + length rest) → v ≡ to_le_bytes w32 (length value)
    → a ≡ s + 4 → b ≡ a + 4 → c ≡ b + length front → d ≡ c + length rest → s + length (pair_bytes (front ++ rest, value)) ≤ length out
    → IsPut out s k first → IsPut first a v second → IsPut second b front third → IsPut third c rest fourth → IsPut fourth d value after → IsPut out s (pair_bytes (front ++ rest, value)) after
pair_put out first second third fourth after front rest value k v s a b c d is_k is_v at_a at_b at_c at_d room p q r t u =
    let K = to_le_bytes w32 (length (front ++ rest)) in let V = to_le_bytes w32 (length value) in
    let is_k' : k ≡ K = is_k ∙ ap (to_le_bytes w32) (sym (length-append front rest)) in
    let few : s + 8 + length front + length rest + length value ≤ length out = omega (arith, room, length-append (front ++ rest) value, length-append front rest) in
    let p' : IsPut out s K first = subst (λ x. IsPut out s x first) is_k' p in
    let q' : IsPut first a V second = subst (λ x. IsPut first a x second) is_v q in
    let two = put_behind out first second K V s a at_a (omega (arith, at_a, few)) p' q' in
    let three = put_behind out second third (K ++ V) front s b (omega (arith, at_a, at_b)) (omega (arith, at_a, at_b, few)) two r in
    let four = put_behind out third fourth ((K ++ V) ++ front) rest s c (omega (arith, at_a, at_b, at_c)) (omega (arith, at_a, at_b, at_c, few)) three t in
    put_behind out fourth after (((K ++ V) ++ front) ++ rest) value s d (omega (arith, at_a, at_b, at_c, at_d, length-append front rest)) (omega (arith, at_a, at_b, at_c, at_d, few)) four u
