-- Where no pairs of a node are read.
use Rattle.std.proofs.Common.{◌≡◌, ℕ, ◌≤◌, List, length, get_or, arith}
use Rattle.sled_node.specs.declared.node.data.Data.TheVariants.{Leaf, Index}
use Rattle.sled_base.specs.Payloads.Reading.{ReadsNoValue}
use Rattle.sled_base.specs.Payloads.ReadingLaws.{first}
use Rattle.sled_node.specs.Payloads.Pairs.{AsksPairs}
use Rattle.sled_node.specs.Payloads.Data.{ReadsLeaf, ReadsIndex, ReadsData, AsksData}
use Rattle.sled_node.specs.Payloads.DataLaws.{tag_is}
use Rattle.sled_base.proofs.Payloads.Refusals.{rest_of, behind_first, no_tagged}

module _ (input : List ℕ) (long : 1 ≤ length input) where
  pub no_leaf : get_or input 0 0 ≡ 0 → ReadsNoValue ReadsLeaf (rest_of input) → ReadsNoValue ReadsData input
  no_leaf is nothing (Leaf pairs) rest found = no_tagged ReadsLeaf 0 input long is nothing pairs rest found
  no_leaf is nothing contents rest found = absurd (omega (arith, tag_is input contents rest found, first input 0 (rest_of input) (behind_first input 0 long is)))

  pub no_index : get_or input 0 0 ≡ 1 → ReadsNoValue ReadsIndex (rest_of input) → ReadsNoValue ReadsData input
  no_index is nothing (Index pairs) rest found = no_tagged ReadsIndex 1 input long is nothing pairs rest found
  no_index is nothing contents rest found = absurd (omega (arith, tag_is input contents rest found, first input 1 (rest_of input) (behind_first input 1 long is)))

-- where memory is asked for
pub asks_behind : (input : List ℕ) (tag : ℕ) → 1 ≤ length input → get_or input 0 0 ≡ tag → tag ≤ 1 → AsksPairs (rest_of input) → AsksData input
asks_behind input tag long is low asks = (tag, rest_of input, behind_first input tag long is, low, asks)
