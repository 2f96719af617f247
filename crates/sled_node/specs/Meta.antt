-- A finite map from names to root pages, as the list of its names with their roots, in the order of names.
use Rattle.std.specs.Prelude.{◌≡◌, ℕ, ◌+◌, ◌<◌, ◌^◌, Bool, List, [], ◌∷◌, ◌++◌, map, length, Option, Some, None, ⊤, if◌then◌else◌}
use Rattle.std.specs.BTreeMap.{BTreeMap}
use Rattle.std.specs.Global.{Vec}
use Rattle.std.specs.List.{fold, sum_by}
use Rattle.std.specs.Ordering.{is_eq}
use Rattle.sled_base.specs.Order.{Bytes, bytes_cmp}
use Rattle.sled_node.specs.Pairs.{pairs_below, pairs_above, IsWithinLimit, HasPairs}
use Rattle.sled_node.specs.Limits.{bytes_limit, names_limit, page_bytes}

abbrev pub Roots : Type 0
Roots = List (Bytes × ℕ)

-- the entries of a `BTreeMap`, as names with their pages
abbrev pub named : List (Vec ℕ × ℕ) → Roots
named entries = map (λ entry. (entry.0.items, entry.1)) entries

abbrev pub named_pages : BTreeMap (Vec ℕ) ℕ → Roots
named_pages pages = named pages.entries

-- whether two names are the same
abbrev pub is_name : Bytes → Bytes → Bool
is_name name other = is_eq (bytes_cmp name other)

-- the root of the name, or None if the name is missing
abbrev pub root_of : Bytes → Roots → Option ℕ
root_of name [] = None
root_of name (pair ∷ roots) = if is_name name pair.0 then Some pair.1 else root_of name roots

-- the map with that name set: the names below it, the name with its root, and the names above it
abbrev pub with_root : Bytes → ℕ → Roots → Roots
with_root name root roots = pairs_below name roots ++ (name, root) ∷ pairs_above name roots

-- the map without that name: the names below it, and the names above it
abbrev pub without_root : Bytes → Roots → Roots
without_root name roots = pairs_below name roots ++ pairs_above name roots

-- the map with that name set to the root, or without that name if there is no root
abbrev pub changed_roots : Bytes → Option ℕ → Roots → Roots
changed_roots name None roots = without_root name roots
changed_roots name (Some root) roots = with_root name root roots

-- the map with the pairs set one after the other, so that a later pair of a name wins
abbrev pub with_roots : List (Bytes × ℕ) → Roots → Roots
with_roots pairs roots = fold (λ so_far pair. with_root pair.0 pair.1 so_far) roots pairs

-- strictly ascending names within the limit, at most as many as a node may have pairs, and pages of 64 bits
abbrev pub IsRootMap : Roots → Type 0
IsRootMap roots = HasPairs (λ page. page < 2 ^ 64) roots

-- if the name is missing, there is room for another
abbrev pub HasRoom : Bytes → Roots → Type 0
HasRoom name roots = root_of name roots ≡ None → length roots < names_limit

-- a name that should get a root is longer than the limit
abbrev pub IsTooLong : Bytes → Option ℕ → Type 0
IsTooLong name None = ⊥
IsTooLong name (Some root) = bytes_limit < length name

-- a name that should get a root is within the limit, but there is no room for it
abbrev pub LacksRoom : Bytes → Option ℕ → Roots → Type 0
LacksRoom name None roots = ⊥
LacksRoom name (Some root) roots = IsWithinLimit name × ¬ HasRoom name roots

-- a name that should get a root is within the limit, and there is room for it
abbrev pub CanChange : Bytes → Option ℕ → Roots → Type 0
CanChange name None roots = ⊤
CanChange name (Some root) roots = IsWithinLimit name × HasRoom name roots

-- for each name its length, and the bytes that its root counts as
abbrev pub roots_size : Roots → ℕ
roots_size roots = sum_by (λ pair. length pair.0 + page_bytes) roots
