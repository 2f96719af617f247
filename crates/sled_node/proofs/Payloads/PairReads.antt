-- Reading a count, keys and items, and where no pairs are read.
use Rattle.std.proofs.Common.{◌≡◌, ℕ, ◌+◌, ◌*◌, ◌<◌, ◌≤◌, ◌^◌, List, [], ◌∷◌, ◌++◌, length, refl, sym, ap, subst, ◌∙◌, arith}
use Rattle.std.proofs.Math.Nat.{mul-le-mul_left}
use Rattle.std.proofs.lemmas.List.{length-map}
use Rattle.sled_base.specs.Order.{Bytes}
use Rattle.sled_base.specs.Payloads.Reading.{IsGrammar, ReadsNoValue}
use Rattle.sled_base.specs.Payloads.Numbers.{ReadsU64}
use Rattle.sled_base.specs.Payloads.NumberLaws.{U64-grammar}
use Rattle.sled_base.specs.Payloads.ByteStrings.{ReadsBytes}
use Rattle.sled_base.specs.Payloads.ByteStringLaws.{Bytes-grammar}
use Rattle.sled_node.specs.Payloads.Sequences.{ReadsAll, ReadsCount}
use Rattle.sled_node.specs.Payloads.SequenceLaws.{ReadsAll-one, ReadsAll-takes, ReadsAll-stops}
use Rattle.sled_node.specs.Payloads.Pairs.{keys_of, items_of, IsBehindKeys, ReadsBoth, ReadsPairs}

-- one more pair
pub keys_more : {V : Type 0} (pairs : List (Bytes × V)) (key : Bytes) (item : V) → keys_of (pairs ++ (key, item) ∷ []) ≡ keys_of pairs ++ key ∷ []
keys_more [] key item = refl
keys_more (pair ∷ pairs) key item = ap (λ keys. pair.0 ∷ keys) (keys_more pairs key item)

pub items_more : {V : Type 0} (pairs : List (Bytes × V)) (key : Bytes) (item : V) → items_of (pairs ++ (key, item) ∷ []) ≡ items_of pairs ++ item ∷ []
items_more [] key item = refl
items_more (pair ∷ pairs) key item = ap (λ items. pair.1 ∷ items) (items_more pairs key item)

pub length_more : {V : Type 0} (pairs : List (Bytes × V)) (key : Bytes) (item : V) → length (pairs ++ (key, item) ∷ []) ≡ length pairs + 1
length_more [] key item = refl
length_more (pair ∷ pairs) key item = omega (arith, length_more pairs key item)

module _ {V : Type 0} (pairs : List (Bytes × V)) where
  pub length-keys_of : length (keys_of pairs) ≡ length pairs
  length-keys_of = length-map pairs (λ pair. pair.0)

  pub length-items_of : length (items_of pairs) ≡ length pairs
  length-items_of = length-map pairs (λ pair. pair.1)

-- where the next key isn't read, so many keys aren't
pub no_more_keys : (count : ℕ) (input : List ℕ) (keys : List Bytes) (rest : List ℕ) → ReadsAll ReadsBytes input keys rest → length keys < count → ReadsNoValue ReadsBytes rest → ReadsNoValue (ReadsCount count ReadsBytes) input
no_more_keys count input keys rest so_far lt nothing others end found = ReadsAll-stops Bytes-grammar input keys rest so_far nothing others end (omega (arith, lt, found.0)) found.1

-- so many keys are followed by one rest
pub one_behind : (count : ℕ) (input : List ℕ) (keys others : List Bytes) (r s : List ℕ) → length keys ≡ count → ReadsAll ReadsBytes input keys r → length others ≡ count → ReadsAll ReadsBytes input others s → r ≡ s
one_behind count input keys others r s len all other_len other_all = (ReadsAll-one Bytes-grammar input keys others r s (len ∙ sym other_len) all other_all).1

module _ {V : Type 0} (reads : List ℕ → V → List ℕ → Type 0) {written : V → List ℕ} {can_write : V → Type 0} {can_follow : V → List ℕ → Type 0} {least : ℕ} (grammar : IsGrammar reads written can_write can_follow least) where
  -- ---- keys from the one input and items from the other

  module _ (count : ℕ) (keys input : List ℕ) (pairs : List (Bytes × V)) (lt : length pairs < count) where
    pub no_key : (rest : List ℕ) → ReadsAll ReadsBytes keys (keys_of pairs) rest → ReadsNoValue ReadsBytes rest → ReadsNoValue (ReadsBoth reads count keys) input
    no_key rest so_far nothing others end found =
        ReadsAll-stops Bytes-grammar keys (keys_of pairs) rest so_far nothing (keys_of others) input (omega (arith, lt, found.0, length-keys_of pairs, length-keys_of others)) found.1

    pub no_item : (rest : List ℕ) → ReadsAll reads input (items_of pairs) rest → ReadsNoValue reads rest → ReadsNoValue (ReadsBoth reads count keys) input
    no_item rest so_far nothing others end found =
        ReadsAll-stops grammar input (items_of pairs) rest so_far nothing (items_of others) end (omega (arith, lt, found.0, length-items_of pairs, length-items_of others)) found.2

  pub both_read : (count : ℕ) (keys input : List ℕ) (pairs : List (Bytes × V)) (key_rest rest : List ℕ) → IsBehindKeys count keys input → length pairs ≡ count → ReadsAll ReadsBytes keys (keys_of pairs) key_rest → ReadsAll reads input (items_of pairs) rest → ReadsBoth reads count keys input pairs rest
  both_read count keys input pairs key_rest rest behind len first second =
      let same = one_behind count keys (keys_of pairs) behind.0 key_rest input (length-keys_of pairs ∙ len) first behind.1.0 behind.1.1 in
      (len, subst (λ k. ReadsAll ReadsBytes keys (keys_of pairs) k) same first, second)

  -- ---- pairs

  module _ (input : List ℕ) where
    pub no_count : ReadsNoValue ReadsU64 input → ReadsNoValue (ReadsPairs reads) input
    no_count nothing pairs rest found = nothing (length pairs) found.0 found.2

    module _ (count : ℕ) (keys : List ℕ) (number : ReadsU64 input count keys) where
      -- the count of the pairs, and where their keys begin
      same_count : (pairs : List (Bytes × V)) (rest : List ℕ) (found : ReadsPairs reads input pairs rest) → (count ≡ length pairs) × (keys ≡ found.0)
      same_count pairs rest found = U64-grammar.one_reading input count (length pairs) keys found.0 number found.2

      same_keys : (pairs : List (Bytes × V)) (rest : List ℕ) (found : ReadsPairs reads input pairs rest) → ReadsAll ReadsBytes keys (keys_of pairs) found.1
      same_keys pairs rest found = subst (λ k. ReadsAll ReadsBytes k (keys_of pairs) found.1) (sym (same_count pairs rest found).1) found.4

      same_length : (pairs : List (Bytes × V)) (rest : List ℕ) → ReadsPairs reads input pairs rest → length (keys_of pairs) ≡ count
      same_length pairs rest found = length-keys_of pairs ∙ sym (same_count pairs rest found).0

      pub big_count : 1 ≤ least → (count ≤ 2 ^ 24 → length keys < 2 * count) → ReadsNoValue (ReadsPairs reads) input
      big_count one big pairs rest found =
          let same = same_count pairs rest found in
          let first = ReadsAll-takes Bytes-grammar found.0 (keys_of pairs) found.1 found.4 in
          let second = ReadsAll-takes grammar found.1 (items_of pairs) rest found.5 in
          let enough = mul-le-mul_left (length (items_of pairs)) one in
          let few : count ≤ 2 ^ 24 = omega (arith, same.0, found.3) in
          omega (arith, big few, same.0, first, second, enough, length-keys_of pairs, length-items_of pairs, ap length same.1)

      pub no_keys : ReadsNoValue (ReadsCount count ReadsBytes) keys → ReadsNoValue (ReadsPairs reads) input
      no_keys nothing pairs rest found = nothing (keys_of pairs) found.1 (same_length pairs rest found, same_keys pairs rest found)

      pub no_both : (items : List ℕ) → IsBehindKeys count keys items → ReadsNoValue (ReadsBoth reads count keys) items → ReadsNoValue (ReadsPairs reads) input
      no_both items behind nothing pairs rest found =
          let same = one_behind count keys (keys_of pairs) behind.0 found.1 items (same_length pairs rest found) (same_keys pairs rest found) behind.1.0 behind.1.1 in
          nothing pairs rest (sym (same_count pairs rest found).0, subst (λ k. ReadsAll ReadsBytes keys (keys_of pairs) k) same (same_keys pairs rest found), subst (λ k. ReadsAll reads k (items_of pairs) rest) same found.5)

      pub pairs_read : count ≤ 2 ^ 24 → (items : List ℕ) (pairs : List (Bytes × V)) (rest : List ℕ) → ReadsBoth reads count keys items pairs rest → ReadsPairs reads input pairs rest
      pairs_read few items pairs rest both =
          (keys, items, subst (λ n. ReadsU64 input n keys) (sym both.0) number, omega (arith, few, both.0), both.1, both.2)

-- where other pairs are read, or where they don't have what they should
pub only_others : {V : Type 0} (reads : List ℕ → V → List ℕ → Type 0) (Has : V → Type 0) {written : V → List ℕ} {can_write : V → Type 0} {can_follow : V → List ℕ → Type 0} {least : ℕ} → IsGrammar reads written can_write can_follow least
    → (input : List ℕ) (v : V) (r : List ℕ) → reads input v r → (Has v → ⊥) → ReadsNoValue (λ text value rest. reads text value rest × Has value) input
only_others reads Has grammar input v r found has_not w rest other = has_not (subst Has (sym (grammar.one_reading input v w r rest found other.0).0) other.1)
