-- A node that has taken in its right neighbour is well-formed.
use Rattle.std.proofs.Common.{◌≡◌, [], ◌∷◌, ◌++◌, take, refl, sym, ap, subst, ◌∙◌, arith}
use Rattle.std.specs.List.{AllByRecursion}
use Rattle.std.proofs.lemmas.List.{length-append}
use Rattle.sled_base.specs.Order.{Bytes, IsBelow}
use Rattle.sled_base.specs.OrderLaws.{below_trans}
use Rattle.std.specs.Option.{option_map}
use Rattle.std.specs.Int.NonZero.{non_zero_u64_get}
use Rattle.sled_node.specs.declared.node.Node.TheInside.{Inside}
use Rattle.sled_node.specs.contracts.node.Node.{the_view}
use Rattle.sled_node.specs.declared.node.data.Data.{Data}
use Rattle.sled_node.specs.Pairs.{IsWithinLimit}
use Rattle.sled_node.specs.Node.{WholeNode, IsInRange, IsWellFormed, ItemFits}
use Rattle.sled_node.specs.Parts.{is_index, pairs_under, node_of, HasStored}
use Rattle.sled_node.specs.Splitting.{own_prefix, CanReceive, merged}
use Rattle.sled_node.specs.Restoring.{restored_data, joined_data}
use Rattle.sled_node.proofs.Edits.{all_append, ascending_append}
use Rattle.sled_node.proofs.Places.{all_so}
use Rattle.sled_node.proofs.Prefixes.{common_front, shares}
use Rattle.sled_node.proofs.Separators.{below_most, below_is_most}
use Rattle.sled_node.proofs.Restoring.{Share, all_parts, stored_from, restored_under, joined_under, restored_kind, joined_kind}

-- the prefix length of a node's own bounds
pub own_open : (lo hi : Bytes) → hi ≡ [] → own_prefix lo hi ≡ 0
own_open [] hi none = refl
own_open (x ∷ lo) [] none = refl
own_open (x ∷ lo) (y ∷ hi) none = absurd cc

pub own_common : (lo hi : Bytes) → take (own_prefix lo hi) lo ≡ take (own_prefix lo hi) hi
own_common lo hi = common_front (own_prefix lo hi) lo hi (omega arith)

-- the keys of a well-formed node have its own prefix
pub share_own : (n : WholeNode) → IsWellFormed n → Share (own_prefix n.lo n.hi) n.lo n.pairs
share_own n formed = all_so (λ pair inside. shares n.lo n.hi pair.0 inside.0 inside.1) n.pairs formed.in_range

module _ (l r : WholeNode) (left : IsWellFormed l) (right : IsWellFormed r) (can : CanReceive l r) where
  keys_low : AllByRecursion (λ pair. IsBelow pair.0 r.lo) l.pairs
  keys_low = all_so (λ pair inside. subst (IsBelow pair.0) can.meet (inside.1 can.bounded)) l.pairs left.in_range

  low : IsBelow l.lo r.lo
  low = subst (IsBelow l.lo) can.meet (left.range can.bounded)

  kind : r.is_index ≡ l.is_index
  kind = sym can.kind

  merged_formed : IsWellFormed (merged l r)
  merged_formed = record {
    range = λ some. below_trans l.lo r.lo r.hi low (right.range some);
    prefix_byte = omega arith;
    prefix_open = own_open l.lo r.hi;
    prefix_common = own_common l.lo r.hi;
    ascending = ascending_append l.pairs r.pairs left.ascending right.ascending
        (all_so (λ pair lt. all_so (λ later inside. below_most pair.0 r.lo later.0 lt inside.0) r.pairs right.in_range) l.pairs keys_low);
    in_range = all_append (λ pair. IsInRange (merged l r) pair.0) l.pairs r.pairs
        (all_so (λ pair inside. (inside.0, λ some. below_trans pair.0 r.lo r.hi (subst (IsBelow pair.0) can.meet (inside.1 can.bounded)) (right.range some))) l.pairs left.in_range)
        (all_so (λ pair inside. (below_is_most l.lo pair.0 (below_most l.lo r.lo pair.0 low inside.0), inside.1)) r.pairs right.in_range);
    few = omega (arith, can.few, length-append l.pairs r.pairs);
    bounds = (left.bounds.0, right.bounds.1);
    keys = all_append (λ pair. IsWithinLimit pair.0) l.pairs r.pairs left.keys right.keys;
    items = all_append (λ pair. ItemFits l.is_index pair.1) l.pairs r.pairs left.items (subst (λ b. AllByRecursion (λ pair. ItemFits b pair.1) r.pairs) kind right.items);
    pages = (right.pages.0, left.pages.1);
  }

-- ---- stored keys

module _ (l r : Inside) where
  abbrev left : Data
  left = restored_data (take l.prefix_len l.lo) (own_prefix l.lo r.hi) l.contents

  abbrev right : Data
  right = restored_data (take r.prefix_len r.lo) (own_prefix l.lo r.hi) r.contents

  abbrev joined : WholeNode
  joined = node_of (own_prefix l.lo r.hi) (option_map non_zero_u64_get r.next) (option_map non_zero_u64_get l.merging_child) l.merging l.lo r.hi (joined_data left right)

  module _ (left_formed : IsWellFormed (the_view l)) (right_formed : IsWellFormed (the_view r)) (can : CanReceive (the_view l) (the_view r)) where
    joined_pairs : joined.pairs ≡ (the_view l).pairs ++ (the_view r).pairs
    joined_pairs =
        let own = own_prefix l.lo r.hi in
        let share = all_parts _ (the_view l).pairs (the_view r).pairs (share_own (merged (the_view l) (the_view r)) (merged_formed (the_view l) (the_view r) left_formed right_formed can)) in
        let kinds = restored_kind (take l.prefix_len l.lo) own l.contents ∙ can.kind ∙ sym (restored_kind (take r.prefix_len r.lo) own r.contents) in
        joined_under own l.lo left right kinds
        ∙ ap (λ ps. ps ++ pairs_under (take own l.lo) right) (restored_under own l.lo (take l.prefix_len l.lo) l.contents share.0)
        ∙ ap (λ ps. (the_view l).pairs ++ ps) (restored_under own l.lo (take r.prefix_len r.lo) r.contents share.1)

    pub joined_node : joined ≡ merged (the_view l) (the_view r)
    joined_node =
        let kind : is_index (joined_data left right) ≡ is_index l.contents = joined_kind left right ∙ restored_kind (take l.prefix_len l.lo) (own_prefix l.lo r.hi) l.contents in
        (λ i. record (merged (the_view l) (the_view r)) { is_index = kind i; pairs = joined_pairs i })

    pub joined_formed : IsWellFormed joined
    joined_formed = subst IsWellFormed (sym joined_node) (merged_formed (the_view l) (the_view r) left_formed right_formed can)

    pub joined_stored : HasStored (joined_data left right)
    joined_stored = stored_from (own_prefix l.lo r.hi) (option_map non_zero_u64_get r.next) (option_map non_zero_u64_get l.merging_child) l.merging l.lo r.hi (joined_data left right) joined_formed
