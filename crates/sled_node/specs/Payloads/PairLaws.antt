-- The laws of the encoding of keys and items.
use Rattle.std.specs.Prelude.{◌≡◌, ℕ, ◌+◌, ◌≤◌, List, [], ◌∷◌, ◌++◌, length, refl}
use Rattle.std.proofs.Common.{sym, ap, subst, ◌∙◌, append_assoc, arith}
use Rattle.std.proofs.lemmas.List.{length-map}
use Rattle.std.specs.List.{flat_map, AllByRecursion}
use Rattle.sled_base.specs.Order.{Bytes}
use Rattle.sled_base.specs.Payloads.Reading.{IsGrammar}
use Rattle.sled_base.specs.Payloads.Numbers.{ReadsU64, written_u64}
use Rattle.sled_base.specs.Payloads.NumberLaws.{U64-grammar}
use Rattle.sled_base.specs.Payloads.ByteStrings.{ReadsBytes, written_bytes}
use Rattle.sled_base.specs.Payloads.ByteStringLaws.{Bytes-grammar}
use Rattle.sled_node.specs.Payloads.Sequences.{ReadsAll}
use Rattle.sled_node.specs.Payloads.SequenceLaws.{ReadsAll-one, ReadsAll-again, ReadsAll-takes}
use Rattle.sled_node.specs.Payloads.Pairs.{CanWritePairs, keys_of, items_of, ReadsPairs, written_pairs}

-- pairs with the same keys and the same items are the same
pub same_pairs : {V : Type 0} (ps qs : List (Bytes × V)) → keys_of ps ≡ keys_of qs → items_of ps ≡ items_of qs → ps ≡ qs
same_pairs [] [] keys items = refl
same_pairs [] (q ∷ qs) keys items = absurd cc
same_pairs (p ∷ ps) [] keys items = absurd cc
same_pairs (p ∷ ps) (q ∷ qs) keys items =
    let key : p.0 ≡ q.0 = cc in
    let item : p.1 ≡ q.1 = cc in
    let more_keys : keys_of ps ≡ keys_of qs = cc in
    let more_items : items_of ps ≡ items_of qs = cc in
    let others = same_pairs ps qs more_keys more_items in
    λ i. (key i, item i) ∷ others i

-- what holds for each key, and for each item
pub all_keys : {V : Type 0} {P Q : Bytes → Type 0} → ((key : Bytes) → P key → Q key) → (pairs : List (Bytes × V)) → AllByRecursion (λ pair. P pair.0) pairs → AllByRecursion Q (keys_of pairs)
all_keys so [] all = tt
all_keys so (pair ∷ pairs) all = (so pair.0 all.0, all_keys so pairs all.1)

pub all_items : {V : Type 0} {P Q : V → Type 0} → ((item : V) → P item → Q item) → (pairs : List (Bytes × V)) → AllByRecursion (λ pair. P pair.1) pairs → AllByRecursion Q (items_of pairs)
all_items so [] all = tt
all_items so (pair ∷ pairs) all = (so pair.1 all.0, all_items so pairs all.1)

module _ {V : Type 0} {reads : List ℕ → V → List ℕ → Type 0} {written : V → List ℕ} {can_write : V → Type 0} {least : ℕ} (grammar : IsGrammar reads written can_write (λ _ _. Unit {0}) least) where
  pub one_pairs : (input : List ℕ) (ps qs : List (Bytes × V)) (r s : List ℕ) → ReadsPairs reads input ps r → ReadsPairs reads input qs s → (ps ≡ qs) × (r ≡ s)
  one_pairs input ps qs r s (a, b, number, few, keys, items) (c, d, other_number, other_few, other_keys, other_items) =
      let same = U64-grammar.one_reading input (length ps) (length qs) a c number other_number in
      let front = ReadsAll-one Bytes-grammar a (keys_of ps) (keys_of qs) b d (length-map ps (λ pair. pair.0) ∙ same.0 ∙ sym (length-map qs (λ pair. pair.0))) keys (subst (λ k. ReadsAll ReadsBytes k (keys_of qs) d) (sym same.1) other_keys) in
      let back = ReadsAll-one grammar b (items_of ps) (items_of qs) r s (length-map ps (λ pair. pair.1) ∙ same.0 ∙ sym (length-map qs (λ pair. pair.1))) items (subst (λ k. ReadsAll reads k (items_of qs) s) (sym front.1) other_items) in
      (same_pairs ps qs front.0 back.0, back.1)

  pairs_again : (pairs : List (Bytes × V)) (rest : List ℕ) → CanWritePairs can_write pairs → ReadsPairs reads (written_pairs written pairs ++ rest) pairs rest
  pairs_again pairs rest can =
      let number = written_u64 (length pairs) in
      let keys = flat_map written_bytes (keys_of pairs) in
      let items = flat_map written (items_of pairs) in
      let few = can.few in
      let regrouped = append_assoc number (keys ++ items) rest ∙ ap (λ k. number ++ k) (append_assoc keys items rest) in (
        keys ++ (items ++ rest),
        items ++ rest,
        subst (λ input. ReadsU64 input (length pairs) (keys ++ (items ++ rest))) (sym regrouped) (U64-grammar.read_again (length pairs) (keys ++ (items ++ rest)) (omega arith) tt),
        few,
        ReadsAll-again Bytes-grammar (λ v bytes. tt) (keys_of pairs) (items ++ rest) can.keys,
        ReadsAll-again grammar (λ v bytes. tt) (items_of pairs) rest can.items,
      )

  pairs_take : (input : List ℕ) (pairs : List (Bytes × V)) (rest : List ℕ) → ReadsPairs reads input pairs rest → length rest + 1 ≤ length input
  pairs_take input pairs rest (a, b, number, few, keys, items) =
      let one = U64-grammar.takes input (length pairs) a number in
      let two = ReadsAll-takes Bytes-grammar a (keys_of pairs) b keys in
      let three = ReadsAll-takes grammar b (items_of pairs) rest items in
      omega (arith, one, two, three)

  pub Pairs-grammar : IsGrammar (ReadsPairs reads) (written_pairs written) (CanWritePairs can_write) (λ _ _. Unit {0}) 1
  Pairs-grammar = record {
    one_reading = one_pairs;
    read_again = λ pairs rest can follows. pairs_again pairs rest can;
    takes = pairs_take;
  }
