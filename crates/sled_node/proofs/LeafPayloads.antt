-- How a leaf's strings are written and read.
use Rattle.std.proofs.Common.{◌≡◌, ℕ, ◌-◌, ◌*◌, ◌/◌, ◌^◌, ◌≤◌, List, [], ◌∷◌, ◌++◌, length, take, drop, refl, sym, ap, subst, ◌∙◌, arith}
use Rattle.std.proofs.lemmas.List.{length-append, length-take-le, length-drop, take-append-drop, take_all, drop_at}
use Rattle.std.proofs.lemmas.List.Concat.{flat_map-append}
use Rattle.std.specs.List.{flat_map, AllByRecursion}
use Rattle.sled_base.specs.Order.{Bytes}
use Rattle.sled_base.specs.Payloads.Reading.{ReadsNoValue}
use Rattle.sled_base.specs.Payloads.Numbers.{ReadsU64, written_u64}
use Rattle.sled_base.specs.Payloads.NumberLaws.{U64-grammar}
use Rattle.sled_base.specs.Payloads.ByteStrings.{ReadsBytes, written_bytes, CanWriteBytes}
use Rattle.sled_base.specs.Payloads.ByteStringLaws.{Bytes-grammar}
use Rattle.sled_node.specs.Pairs.{IsWithinLimit}
use Rattle.sled_node.specs.LeafStrings.{pairs_of, paired}
use Rattle.sled_node.specs.Payloads.Sequences.{ReadsAll, ReadsCount}
use Rattle.sled_node.specs.Payloads.SequenceLaws.{ReadsAll-again}
use Rattle.sled_node.specs.Payloads.Pairs.{keys_of, items_of, ReadsPairs, written_pairs}
use Rattle.sled_node.specs.Payloads.Data.{ReadsLeaf}
use Rattle.sled_node.specs.Payloads.ShortStrings.{ReadsShort}
use Rattle.sled_node.proofs.LeafStrings.{many_both, short_both}

-- ---- writing

-- the strings behind their count are the pairs as they are written
pub written_so : (strings : List Bytes) (pairs : List (Bytes × Bytes)) → strings ≡ keys_of pairs ++ items_of pairs → written_u64 (length pairs) ++ flat_map written_bytes strings ≡ written_pairs written_bytes pairs
written_so strings pairs are = ap (λ rest. written_u64 (length pairs) ++ rest) (ap (flat_map written_bytes) are ∙ flat_map-append written_bytes (keys_of pairs) (items_of pairs))

-- ---- the halves of strings

keys_back : (keys items : List Bytes) → length keys ≡ length items → keys_of (pairs_of keys items) ≡ keys
keys_back [] items same = refl
keys_back (key ∷ keys) [] same = absurd (omega arith)
keys_back (key ∷ keys) (item ∷ items) same = ap (λ rest. key ∷ rest) (keys_back keys items (omega arith))

items_back : (keys items : List Bytes) → length keys ≡ length items → items_of (pairs_of keys items) ≡ items
items_back [] [] same = refl
items_back [] (item ∷ items) same = absurd (omega arith)
items_back (key ∷ keys) [] same = absurd (omega arith)
items_back (key ∷ keys) (item ∷ items) same = ap (λ rest. item ∷ rest) (items_back keys items (omega arith))

-- strings of an even number are keys and values
pub halves : (strings : List Bytes) (count : ℕ) → length strings ≡ 2 * count → keys_of (paired strings) ++ items_of (paired strings) ≡ strings
halves strings count many =
    let n = length strings / 2 in
    let half : n ≡ count = omega (arith, many) in
    let first : length (take n strings) ≡ n = length-take-le n strings (omega (arith, many, half)) in
    let second : length (drop n strings) ≡ length strings - n = length-drop n strings in
    let same : length (take n strings) ≡ length (drop n strings) = omega (arith, first, second, half, many) in
    (λ i. keys_back (take n strings) (drop n strings) same i ++ items_back (take n strings) (drop n strings) same i) ∙ take-append-drop n strings

-- ---- reading

module _ {V : Type 0} (reads : List ℕ → V → List ℕ → Type 0) where
  reads_parts : (input : List ℕ) (xs ys : List V) (rest : List ℕ) → ReadsAll reads input (xs ++ ys) rest → (middle : List ℕ) × ReadsAll reads input xs middle × ReadsAll reads middle ys rest
  reads_parts input [] ys rest all = (input, refl, all)
  reads_parts input (x ∷ xs) ys rest (m, a, others) = let more = reads_parts m xs ys rest others in (more.0, (m, a, more.1), more.2)

  reads_both : (input : List ℕ) (xs ys : List V) (middle rest : List ℕ) → ReadsAll reads input xs middle → ReadsAll reads middle ys rest → ReadsAll reads input (xs ++ ys) rest
  reads_both input [] ys middle rest is all = subst (λ k. ReadsAll reads k ys rest) (sym is) all
  reads_both input (x ∷ xs) ys middle rest (m, a, others) all = (m, a, reads_both m xs ys middle rest others all)

pub any_length : (input : List ℕ) (strings : List Bytes) (rest : List ℕ) → ReadsAll ReadsShort input strings rest → ReadsAll ReadsBytes input strings rest
any_length input [] rest is = is
any_length input (string ∷ strings) rest (m, a, others) = (m, a.0, any_length m strings rest others)

each_short : (input : List ℕ) (strings : List Bytes) (rest : List ℕ) → ReadsAll ReadsBytes input strings rest → AllByRecursion IsWithinLimit strings → ReadsAll ReadsShort input strings rest
each_short input [] rest is all = is
each_short input (string ∷ strings) rest (m, a, others) all = (m, (a, all.0), each_short m strings rest others all.1)

-- behind strings as they are written they are read
pub read_behind : (strings : List Bytes) (input rest : List ℕ) (n : ℕ) → input ≡ flat_map written_bytes strings ++ rest → n ≡ length (flat_map written_bytes strings) → AllByRecursion CanWriteBytes strings → ReadsAll ReadsBytes input strings (take (length input - n) (drop n input))
read_behind strings input rest n is n_is can =
    let written = flat_map written_bytes strings in
    let tail : drop n input ≡ rest = ap (drop n) is ∙ drop_at written rest n (sym n_is) in
    let many : length input - n ≡ length rest = omega (arith, ap length is, length-append written rest, n_is) in
    let all : take (length input - n) (drop n input) ≡ rest = (λ i. take (many i) (tail i)) ∙ take_all (length rest) rest (omega arith) in
    subst (ReadsAll ReadsBytes input strings) (sym all) (subst (λ k. ReadsAll ReadsBytes k strings rest) (sym is) (ReadsAll-again Bytes-grammar (λ v follows. tt) strings rest can))

module _ (input : List ℕ) (count : ℕ) (keys : List ℕ) (number : ReadsU64 input count keys) where
  -- the strings that are read are the pairs'
  pub leaf_read : count ≤ 2 ^ 24 → (strings : List Bytes) (rest : List ℕ) → ReadsCount (2 * count) ReadsBytes keys strings rest → ReadsPairs ReadsBytes input (paired strings) rest
  leaf_read few strings rest read =
      let whole = halves strings count read.0 in
      let many : length (paired strings) ≡ count = omega (arith, ap length whole, many_both (paired strings), read.0) in
      let parts = reads_parts ReadsBytes keys (keys_of (paired strings)) (items_of (paired strings)) rest (subst (λ ss. ReadsAll ReadsBytes keys ss rest) (sym whole) read.1) in
      (keys, parts.0, subst (λ n. ReadsU64 input n keys) (sym many) number, omega (arith, few, many), parts.1, parts.2)

  -- where there are not so many short strings, no leaf is read
  pub no_leaf_strings : ReadsNoValue (ReadsCount (2 * count) ReadsShort) keys → ReadsNoValue ReadsLeaf input
  no_leaf_strings nothing pairs rest (found, has) =
      let same = U64-grammar.one_reading input count (length pairs) keys found.0 number found.2 in
      let strings = keys_of pairs ++ items_of pairs in
      let all = reads_both ReadsBytes keys (keys_of pairs) (items_of pairs) found.1 rest (subst (λ k. ReadsAll ReadsBytes k (keys_of pairs) found.1) (sym same.1) found.4) found.5 in
      nothing strings rest (omega (arith, many_both pairs, same.0), each_short keys strings rest all (short_both strings pairs refl has.keys has.items))

  -- none but the empty leaf
  pub empty_read : count ≡ 0 → ReadsLeaf input [] keys
  empty_read none = ((keys, keys, subst (λ n. ReadsU64 input n keys) none number, omega arith, refl, refl), record { few = omega arith; ascending = tt; keys = tt; items = tt })
