-- A leaf over all keys, which is written as seven zeros and its pairs.
use Rattle.std.proofs.Common.{◌≡◌, ℕ, ◌-◌, ◌≤◌, false, List, ◌∷◌, [], length, get_or, take, drop, map, None, inr, refl, sym, subst, arith}
use Rattle.std.proofs.lemmas.List.{take_all}
use Rattle.sled_base.specs.Order.{Bytes}
use Rattle.sled_base.specs.Payloads.Reading.{ReadsNoValue, ReadsTriple}
use Rattle.sled_base.specs.Payloads.ReadingLaws.{Triple-grammar, behind}
use Rattle.sled_base.specs.Payloads.Numbers.{ReadsBool, ReadsU8}
use Rattle.sled_base.specs.Payloads.NumberLaws.{Bool-grammar, U8-grammar}
use Rattle.sled_base.specs.Payloads.Options.{ReadsPageNumber}
use Rattle.sled_base.specs.Payloads.OptionLaws.{Page-grammar}
use Rattle.sled_base.specs.Payloads.ByteStrings.{ReadsBytes}
use Rattle.sled_base.specs.Payloads.ByteStringLaws.{Bytes-grammar}
use Rattle.sled_node.specs.declared.node.data.Data.{Data}
use Rattle.sled_node.specs.declared.node.data.Data.TheVariants.{Leaf, Index}
use Rattle.sled_node.specs.Node.{Value, leaf_of}
use Rattle.sled_node.specs.Payloads.Pairs.{AsksPairs}
use Rattle.sled_node.specs.Payloads.Data.{ReadsLeaf, ReadsData}
use Rattle.sled_node.specs.Payloads.Nodes.{NodeParts, ReadsNode, AsksNode}
use Rattle.sled_node.proofs.LeafNodes.{leaf_formed}
use Rattle.sled_node.proofs.Payloads.Nodes.{asks_node}

abbrev pub zeros_before : List ℕ → List ℕ
zeros_before leaf = 0 ∷ 0 ∷ 0 ∷ 0 ∷ 0 ∷ 0 ∷ 0 ∷ leaf

pub zeros_lead : (input : List ℕ) → 7 ≤ length input → get_or input 0 0 ≡ 0 → get_or input 1 0 ≡ 0 → get_or input 2 0 ≡ 0 → get_or input 3 0 ≡ 0 → get_or input 4 0 ≡ 0 → get_or input 5 0 ≡ 0 → get_or input 6 0 ≡ 0 → input ≡ zeros_before (take (length input - 7) (drop 7 input))
zeros_lead (a ∷ b ∷ c ∷ d ∷ e ∷ f ∷ g ∷ rest) long a_is b_is c_is d_is e_is f_is g_is =
    let all = take_all (length (a ∷ b ∷ c ∷ d ∷ e ∷ f ∷ g ∷ rest) - 7) rest (omega arith) in
    λ i. a_is i ∷ b_is i ∷ c_is i ∷ d_is i ∷ e_is i ∷ f_is i ∷ g_is i ∷ sym all i
zeros_lead input long a_is b_is c_is d_is e_is f_is g_is = absurd (omega arith)

-- no neighbour, no mark, no prefix and no bounds
abbrev open_parts : Data → NodeParts
open_parts contents = ((None, None, false), (0, [], []), contents)

module _ (leaf : List ℕ) where
  abbrev middle : List ℕ
  middle = 0 ∷ 0 ∷ 0 ∷ 0 ∷ leaf

  head_read : ReadsTriple ReadsPageNumber ReadsPageNumber ReadsBool (zeros_before leaf) (None, None, false) middle
  head_read = (Triple-grammar Page-grammar Page-grammar Bool-grammar).read_again (None, None, false) middle (omega arith, (omega arith, tt)) (tt, (tt, tt))

  bounds_read : ReadsTriple ReadsU8 ReadsBytes ReadsBytes middle (0, [], []) (0 ∷ leaf)
  bounds_read = (Triple-grammar U8-grammar Bytes-grammar Bytes-grammar).read_again (0, [], []) (0 ∷ leaf) (omega arith, (omega arith, omega arith)) (tt, (tt, tt))

  -- a leaf behind them is a node
  pub open_read : (pairs : List (Bytes × Bytes)) (rest : List ℕ) → ReadsLeaf leaf pairs rest → ReadsNode (zeros_before leaf) (leaf_of (map (λ pair. (pair.0, Value pair.1)) pairs)) rest
  open_read pairs rest read = (open_parts (Leaf pairs), (middle, head_read, (0 ∷ leaf, bounds_read, (leaf, refl, read))), refl, leaf_formed pairs read.1)

  -- and no node is read but such a leaf
  data_read : (contents : Data) (rest : List ℕ) → ReadsData (0 ∷ leaf) contents rest → ((pairs : List (Bytes × Bytes)) → ReadsLeaf leaf pairs rest → ⊥) → ⊥
  data_read (Leaf pairs) rest (parts, is, read) nothing = nothing pairs (subst (λ text. ReadsLeaf text pairs rest) (behind 0 (0 ∷ leaf) parts leaf is refl) read)
  data_read (Index pairs) rest (parts, is, read) nothing = absurd cc

  pub open_none : ReadsNoValue ReadsLeaf leaf → ReadsNoValue ReadsNode (zeros_before leaf)
  open_none nothing n rest (parts, (m, head, (k, bounds, contents)), is, formed) =
      let first = (Triple-grammar Page-grammar Page-grammar Bool-grammar).one_reading (zeros_before leaf) parts.0 (None, None, false) m middle head head_read in
      let second = (Triple-grammar U8-grammar Bytes-grammar Bytes-grammar).one_reading middle parts.1 (0, [], []) k (0 ∷ leaf) (subst (λ text. ReadsTriple ReadsU8 ReadsBytes ReadsBytes text parts.1 k) first.1 bounds) bounds_read in
      data_read parts.2 rest (subst (λ text. ReadsData text parts.2 rest) second.1 contents) (λ pairs read. nothing pairs rest read)

  pub open_asks : AsksPairs leaf → AsksNode (zeros_before leaf)
  open_asks asks = asks_node (zeros_before leaf) (inr ((None, None, false), middle, head_read, inr ((0, [], []), 0 ∷ leaf, bounds_read, (0, leaf, refl, omega arith, asks))))
