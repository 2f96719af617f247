-- How a table stores pages in chunks, and what contracts see of it.
use Rattle.std.specs.Prelude.{◌≡◌, ◌≤◌, ◌-◌, ℕ, Bool, false, ◌&&◌, nat_lt, List, [], ◌∷◌, ◌++◌, length, slice_get, unwrap_or, vec_len, vec_capacity}
use Rattle.std.specs.Option.{option_map}
use Rattle.std.specs.Global.{Vec}
use Rattle.sled_pagecache.specs.Limits.{chunk_length, most_pages}
use Rattle.sled_pagecache.specs.declared.pagecache.table.page_entry.Page.{Page}
use Rattle.sled_pagecache.specs.Table.{TableView}

-- the pages of chunks, in order
abbrev pub pages_in : List (Vec Page) → List Page
pages_in [] = []
pages_in (chunk ∷ chunks) = chunk.items ++ pages_in chunks

-- Each chunk but the last has as many pages as a chunk can have, and the last has no more.
abbrev pub AreFilled : ℕ → List (Vec Page) → Type 0
AreFilled most [] = Unit {0}
AreFilled most (last ∷ []) = vec_len last ≤ most
AreFilled most (chunk ∷ next ∷ chunks) = (vec_len chunk ≡ most) × AreFilled most (next ∷ chunks)

-- whether there is a last chunk, and it passes the test
abbrev pub at_last : (Vec Page → Bool) → List (Vec Page) → Bool
at_last test chunks = unwrap_or (option_map test (slice_get chunks (length chunks - 1))) false

-- whether a chunk can have one more page
abbrev pub is_unfilled : ℕ → Vec Page → Bool
is_unfilled most chunk = nat_lt (vec_len chunk) most

-- whether it can have one more without allocating
abbrev pub has_room : ℕ → Vec Page → Bool
has_room most chunk = is_unfilled most chunk && nat_lt (vec_len chunk) (vec_capacity chunk)

-- what contracts see of chunks
abbrev pub view_of : List (Vec Page) → TableView
view_of chunks = record { pages = pages_in chunks; room = at_last (has_room chunk_length) chunks }

-- what always holds of the chunks of a table
pub record IsPageTable (chunks : List (Vec Page)) : Type 0 where
  pub filled : AreFilled chunk_length chunks
  pub few : length (pages_in chunks) ≤ most_pages
