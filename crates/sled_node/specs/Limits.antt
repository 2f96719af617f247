-- The numbers of nodes and root maps.
use Rattle.std.specs.Prelude.{ℕ, ◌-◌, ◌^◌, Bool, true, false}

-- the most bytes of a key, a value, a bound or a name
abbrev pub bytes_limit : ℕ
bytes_limit = 2 ^ 31 - 1

-- the most pairs of a node
abbrev pub pairs_limit : ℕ
pairs_limit = 2 ^ 24

-- the most names of a root map
abbrev pub names_limit : ℕ
names_limit = 2 ^ 24

-- the most first bytes of the bounds that stored keys lack
abbrev pub prefix_limit : ℕ
prefix_limit = 255

-- the most pairs of a leaf, and of an index, that shouldn't be split
abbrev pub most_pairs : Bool → ℕ
most_pairs false = 16
most_pairs true = 256

-- the fewest pairs of a leaf, and of an index, that shouldn't be merged
abbrev pub fewest_pairs : Bool → ℕ
fewest_pairs false = 4
fewest_pairs true = 64

-- how many bytes a node counts as, without its bounds and pairs
abbrev pub node_bytes : ℕ
node_bytes = 128

-- how many bytes the page of a key or of a name counts as
abbrev pub page_bytes : ℕ
page_bytes = 8
