-- The laws of the encoding of a node's pairs.
use Rattle.std.specs.Prelude.{◌≡◌, ℕ, ◌+◌, ◌<◌, ◌≤◌, ◌^◌, List, ◌++◌, length, refl}
use Rattle.std.proofs.Common.{get_or, ap, arith}
use Rattle.sled_base.specs.Order.{Bytes}
use Rattle.sled_node.specs.declared.node.data.Data.{Data}
use Rattle.sled_node.specs.declared.node.data.Data.TheVariants.{Leaf, Index}
use Rattle.sled_node.specs.Pairs.{IsWithinLimit, HasPairs}
use Rattle.sled_node.specs.Parts.{HasStored}
use Rattle.sled_base.specs.Payloads.Reading.{IsGrammar}
use Rattle.sled_base.specs.Payloads.ReadingLaws.{Only-grammar, one_tagged, first}
use Rattle.sled_base.specs.Payloads.Numbers.{written_u64}
use Rattle.sled_base.specs.Payloads.NumberLaws.{U64-grammar}
use Rattle.sled_base.specs.Payloads.ByteStrings.{written_bytes, CanWriteBytes}
use Rattle.sled_base.specs.Payloads.ByteStringLaws.{Bytes-grammar}
use Rattle.sled_node.specs.Payloads.Pairs.{CanWritePairs, written_pairs}
use Rattle.sled_node.specs.Payloads.PairLaws.{all_keys, all_items, Pairs-grammar}
use Rattle.sled_node.specs.Payloads.Data.{ReadsLeaf, ReadsIndex, ReadsData, written_data}

-- ---- a leaf, and an index

pub short_can_write : (bytes : Bytes) → IsWithinLimit bytes → CanWriteBytes bytes
short_can_write bytes short = omega arith

pub leaf_can_write : (pairs : List (Bytes × Bytes)) → HasPairs IsWithinLimit pairs → CanWritePairs CanWriteBytes pairs
leaf_can_write pairs has = record { few = has.few; keys = all_keys short_can_write pairs has.keys; items = all_items short_can_write pairs has.items }

pub index_can_write : (pairs : List (Bytes × ℕ)) → HasPairs (λ page. page < 2 ^ 64) pairs → CanWritePairs (λ page. page < 2 ^ 64) pairs
index_can_write pairs has = record { few = has.few; keys = all_keys short_can_write pairs has.keys; items = all_items (λ page lt. lt) pairs has.items }

pub Leaf-grammar : IsGrammar ReadsLeaf (written_pairs written_bytes) (HasPairs IsWithinLimit) (λ _ _. Unit {0}) 1
Leaf-grammar = Only-grammar (HasPairs IsWithinLimit) (HasPairs IsWithinLimit) (λ pairs has. (leaf_can_write pairs has, has)) (Pairs-grammar Bytes-grammar)

pub Index-grammar : IsGrammar ReadsIndex (written_pairs written_u64) (HasPairs (λ page. page < 2 ^ 64)) (λ _ _. Unit {0}) 1
Index-grammar = Only-grammar (HasPairs (λ page. page < 2 ^ 64)) (HasPairs (λ page. page < 2 ^ 64)) (λ pairs has. (index_can_write pairs has, has)) (Pairs-grammar U64-grammar)

-- ---- either

-- the first byte
abbrev pub tag_of : Data → ℕ
tag_of (Leaf pairs) = 0
tag_of (Index pairs) = 1

pub tag_is : (input : List ℕ) (contents : Data) (rest : List ℕ) → ReadsData input contents rest → get_or input 0 5 ≡ tag_of contents
tag_is input (Leaf pairs) rest found = first input 0 found.0 found.1
tag_is input (Index pairs) rest found = first input 1 found.0 found.1

one_data : (input : List ℕ) (v w : Data) (r s : List ℕ) → ReadsData input v r → ReadsData input w s → (v ≡ w) × (r ≡ s)
one_data input (Leaf ps) (Leaf qs) r s left right = one_tagged Leaf-grammar (λ pairs. Leaf pairs) 0 input ps qs r s left right
one_data input (Index ps) (Index qs) r s left right = one_tagged Index-grammar (λ pairs. Index pairs) 1 input ps qs r s left right
one_data input v w r s left right =
    let one = tag_is input v r left in
    let other = tag_is input w s right in
    absurd (omega arith)

data_again : (contents : Data) (rest : List ℕ) → HasStored contents → ReadsData (written_data contents ++ rest) contents rest
data_again (Leaf pairs) rest can = (_, refl, Leaf-grammar.read_again pairs rest can tt)
data_again (Index pairs) rest can = (_, refl, Index-grammar.read_again pairs rest can tt)

data_takes : (input : List ℕ) (contents : Data) (rest : List ℕ) → ReadsData input contents rest → length rest + 2 ≤ length input
data_takes input (Leaf pairs) rest (parts, is, found) = omega (arith, ap length is, Leaf-grammar.takes parts pairs rest found)
data_takes input (Index pairs) rest (parts, is, found) = omega (arith, ap length is, Index-grammar.takes parts pairs rest found)

pub Data-grammar : IsGrammar ReadsData written_data HasStored (λ _ _. Unit {0}) 2
Data-grammar = record { one_reading = one_data; read_again = λ contents rest can follows. data_again contents rest can; takes = data_takes }
