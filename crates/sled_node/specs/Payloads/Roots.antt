-- How a root map is encoded: its names with their root pages, to the end of the input.
use Rattle.std.specs.Prelude.{◌≡◌, ℕ, ◌≤◌, List, [], ◌++◌, length}
use Rattle.std.specs.List.{flat_map}
use Rattle.sled_base.specs.Order.{Bytes}
use Rattle.sled_node.specs.Meta.{Roots, with_roots}
use Rattle.sled_base.specs.Payloads.Reading.{ReadsPair}
use Rattle.sled_base.specs.Payloads.Numbers.{ReadsU64, written_u64}
use Rattle.sled_base.specs.Payloads.ByteStrings.{written_bytes}
use Rattle.sled_node.specs.Payloads.ShortStrings.{ReadsShort}
use Rattle.sled_node.specs.Payloads.Sequences.{ReadsAll}
use Rattle.sled_node.specs.Limits.{names_limit}

-- a name and its root
abbrev pub ReadsRoot : List ℕ → Bytes × ℕ → List ℕ → Type 0
ReadsRoot = ReadsPair ReadsShort ReadsU64

-- Pairs up to the end of the input. The map results from setting them in their order in the empty map, and keeps the limit of names.
abbrev pub ReadsRoots : List ℕ → Roots → List ℕ → Type 0
ReadsRoots input roots rest = (rest ≡ []) × (pairs : List (Bytes × ℕ)) × ReadsAll ReadsRoot input pairs [] × (roots ≡ with_roots pairs []) × (length roots ≤ names_limit)

-- memory is asked for if a name is at the front
abbrev pub AsksRoots : List ℕ → Type 0
AsksRoots input = (name rest : List ℕ) × ReadsShort input name rest

abbrev pub written_root : Bytes × ℕ → List ℕ
written_root pair = written_bytes pair.0 ++ written_u64 pair.1

-- the pairs in the order of names
abbrev pub written_roots : Roots → List ℕ
written_roots roots = flat_map written_root roots
