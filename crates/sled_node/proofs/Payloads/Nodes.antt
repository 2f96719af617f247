-- The parts of a node, written one after the other.
use Rattle.std.proofs.Common.{◌≡◌, ℕ, ◌+◌, ◌≤◌, ◌^◌, Bool, true, false, List, ◌++◌, length, take, Option, Some, None, inl, inr, refl, sym, ap, subst, ◌∙◌, append_assoc, arith}
use Rattle.std.specs.Prelude.{IfSome}
use Rattle.std.proofs.lemmas.List.{length-append, length-take-le}
use Rattle.std.specs.declared.num.NonZeroU64.{NonZeroU64}
use Rattle.std.specs.Int.NonZero.{non_zero_u64_get}
use Rattle.std.specs.Option.{option_map}
use Rattle.sled_node.specs.declared.node.Node.TheInside.{Inside}
use Rattle.sled_node.specs.Node.{WholeNode, IsPage, IsWellFormed}
use Rattle.sled_node.specs.Parts.{HasStored}
use Rattle.sled_base.specs.Payloads.Reading.{ReadsNoValue, AsksNever, ReadsTriple, AsksTriple}
use Rattle.sled_base.specs.Payloads.Numbers.{ReadsBool, ReadsU8, written_u64, written_bool, written_u8}
use Rattle.sled_base.specs.Payloads.Options.{page_number, ReadsPageNumber, written_page, CanWritePage}
use Rattle.sled_base.specs.Payloads.ByteStrings.{ReadsBytes, AsksBytes, written_bytes}
use Rattle.sled_node.specs.Payloads.Data.{AsksData, written_data}
use Rattle.sled_node.specs.Payloads.Nodes.{NodeParts, ReadsParts, AsksNode, node_from, ReadsNode, written_node}
use Rattle.sled_node.specs.Payloads.NodeLaws.{number_of_page, stored_again, formed_stored, one_parts}
use Rattle.sled_node.proofs.WholeKeys.{prefix_within}
use Rattle.sled_base.proofs.Payloads.NumberSizes.{number_size}
use Rattle.sled_node.proofs.Payloads.Sizes.{string_size}

-- what a node is written of
abbrev pub parts_of : Inside → NodeParts
parts_of n = ((n.next, n.merging_child, n.merging), (n.prefix_len, n.lo, n.hi), n.contents)

module _ (parts : NodeParts) where
  abbrev pub written_head : List ℕ
  written_head = written_page parts.0.0 ++ (written_page parts.0.1 ++ written_bool parts.0.2)

  abbrev pub written_bounds : List ℕ
  written_bounds = written_u8 parts.1.0 ++ (written_bytes parts.1.1 ++ written_bytes parts.1.2)

  -- the head, the bounds and the pairs are the whole
  pub written_is : IsWellFormed (node_from parts) → (written_head ++ written_bounds) ++ written_data parts.2 ≡ written_node (node_from parts)
  written_is formed =
      let p = parts.1.0 in
      let within = (prefix_within (node_from parts) formed).0 in
      let stored = stored_again (take p parts.1.1) p parts.2 (length-take-le p parts.1.1 within) in
      append_assoc written_head written_bounds (written_data parts.2) ∙ (λ i.
      (written_u64 (number_of_page parts.0.0 i) ++ (written_u64 (number_of_page parts.0.1 i) ++ written_bool parts.0.2)) ++ (written_bounds ++ written_data (sym stored i)))

  pub whole_length : IsWellFormed (node_from parts) → length (written_node (node_from parts)) ≡ length written_head + length written_bounds + length (written_data parts.2)
  whole_length formed =
      omega (arith, ap length (written_is formed), length-append (written_head ++ written_bounds) (written_data parts.2), length-append written_head written_bounds)

  -- room for the whole is room for its parts
  pub rooms : IsWellFormed (node_from parts) → (n : WholeNode) → node_from parts ≡ n → (most : ℕ) → length (written_node n) ≤ most → length written_head + length written_bounds + length (written_data parts.2) ≤ most
  rooms formed n view most room = omega (arith, room, whole_length formed, ap (λ m. length (written_node m)) view)

  pub parts_stored : IsWellFormed (node_from parts) → HasStored parts.2
  parts_stored formed =
      let p = parts.1.0 in
      subst HasStored (stored_again (take p parts.1.1) p parts.2 (length-take-le p parts.1.1 (prefix_within (node_from parts) formed).0)) (formed_stored (node_from parts) formed)

  bool_size : (b : Bool) → length (written_bool b) ≡ 1
  bool_size false = refl
  bool_size true = refl

  pub head_size : length written_head ≤ 19
  head_size =
      omega (arith, number_size (page_number parts.0.0), number_size (page_number parts.0.1), bool_size parts.0.2, length-append (written_page parts.0.0) (written_page parts.0.1 ++ written_bool parts.0.2), length-append (written_page parts.0.1) (written_bool parts.0.2))

  pub bounds_size : IsWellFormed (node_from parts) → length written_bounds ≤ 2 ^ 33
  bounds_size formed =
      let bounds = formed.bounds in
      omega (arith, string_size parts.1.1 bounds.0, string_size parts.1.2 bounds.1, length-append (written_u8 parts.1.0) (written_bytes parts.1.1 ++ written_bytes parts.1.2), length-append (written_bytes parts.1.1) (written_bytes parts.1.2))

pub can_write_page : (page : Option NonZeroU64) → IfSome (option_map non_zero_u64_get page) IsPage → CanWritePage page
can_write_page None is = omega arith
can_write_page (Some page) is = is.1

-- where the parts that are read make no well-formed node, no node is read
pub only_parts : (input : List ℕ) (parts : NodeParts) (rest : List ℕ) → ReadsParts input parts rest → (IsWellFormed (node_from parts) → ⊥) → ReadsNoValue ReadsNode input
only_parts input parts rest read ill n others (found, reading, is, formed) =
    let same = one_parts input parts found rest others read reading in
    ill (subst IsWellFormed (sym (ap node_from same.0 ∙ is)) formed)

pub no_parts : (input : List ℕ) → ReadsNoValue ReadsParts input → ReadsNoValue ReadsNode input
no_parts input nothing n rest found = nothing found.0 rest found.1

-- the parts, as a triple of triples, ask for memory only where the node does
abbrev pub AsksParts : List ℕ → Type 0
AsksParts = AsksTriple (AsksTriple AsksNever ReadsPageNumber AsksNever ReadsPageNumber AsksNever) (ReadsTriple ReadsPageNumber ReadsPageNumber ReadsBool) (AsksTriple AsksNever ReadsU8 AsksBytes ReadsBytes AsksBytes) (ReadsTriple ReadsU8 ReadsBytes ReadsBytes) AsksData

pub asks_node : (input : List ℕ) → AsksParts input → AsksNode input
asks_node input (inl (inl never)) = absurd never
asks_node input (inl (inr (next, middle, read, inl never))) = absurd never
asks_node input (inl (inr (next, middle, read, inr (child, rest, also, never)))) = absurd never
asks_node input (inr (head, middle, read, inl (inl never))) = absurd never
asks_node input (inr (head, middle, read, inl (inr (p, at, skips, inl asks)))) = (at, inl ((head, middle, p, read, skips), asks))
asks_node input (inr (head, middle, read, inl (inr (p, at, skips, inr (lo, behind, low, asks))))) = (behind, inr (inl ((lo, at, (head, middle, p, read, skips), low), asks)))
asks_node input (inr (head, middle, read, inr ((p, lo, hi), behind, (at, skips, (next, low, high)), asks))) = (behind, inr (inr ((hi, next, (lo, at, (head, middle, p, read, skips), low), high), asks)))
