-- How much the pages of a cache would take if each were stored by its content only.
use Rattle.std.specs.Prelude.{◌≡◌, ℕ, ◌+◌, List, Some, slice_get, if◌then◌else◌}
use Rattle.std.specs.List.{sum_by}
use Rattle.sled_log.specs.Chains.{is_empty}
use Rattle.sled_log.specs.Contents.{Content, Free, Counter, Roots, Node, Damaged}
use Rattle.sled_log.specs.Messages.{Chain, effect_of_entry}
use Rattle.sled_node.specs.Meta.{roots_size}
use Rattle.sled_node.specs.Sizes.{node_size}

-- A free page takes nothing, a counter 8 bytes. A damaged page has no size: it is reported.
abbrev pub content_size : Content → ℕ
content_size Free = 0
content_size (Counter n) = 8
content_size (Roots roots) = roots_size roots
content_size (Node node) = node_size node
content_size Damaged = 0

-- what all pages take, and one segment
abbrev pub logical_size : ℕ → List Content → ℕ
logical_size segment_size contents = sum_by content_size contents + segment_size

-- one of the pages is damaged
abbrev pub HasDamaged : List Content → Type 0
HasDamaged contents = (pid : ℕ) × (slice_get contents pid ≡ Some Damaged)

-- how many bytes of a log the messages take that make a page; the message that frees a page makes none
abbrev pub chain_live : Chain → ℕ
chain_live chain = if is_empty effect_of_entry chain then 0 else sum_by (λ entry. entry.place.log_size) chain

abbrev pub live_size : List Chain → ℕ
live_size chains = sum_by chain_live chains
