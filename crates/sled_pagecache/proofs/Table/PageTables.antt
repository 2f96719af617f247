-- What a table keeps at an id, and what a change of one of its chunks makes of it.
use Rattle.sled_pagecache.proofs.Names.{◌≡◌, ◌+◌, ◌-◌, ◌*◌, ◌/◌, ◌%◌, ◌<◌, ◌≤◌, ℕ, Bool, List, [], ◌∷◌, ◌++◌, length, take, Some, None, slice_get, get_or, set, vec_len, refl, sym, ◌∙◌, ap, subst, arith, cases_lt, append_assoc, length-append, length-set, slice_get_past, slice_get_read, slice_get_within, get_or_from_slice_get, Vec, option_and_then, with_item, Page, TableView, pages_in, AreFilled, at_last, is_unfilled, nat_lt, lt-ltb, ltb-true, and_parts, and_from, vec_capacity, true, has_room, view_of, IsPageTable, fan, most_pages, past-end, ⊎_elim}
use Rattle.sled_pagecache.proofs.Table.PageChunks as of_chunks
use Rattle.sled_pagecache.specs.Lending.{with_page}

-- ---- the page at an id

module _ {chunks : List (Vec Page)} (is : IsPageTable chunks) (pid : ℕ) {left right : ℕ} (is_left : left ≡ pid / fan) (is_right : right ≡ pid % fan) where
  place : left * fan + right ≡ pid
  place = omega arith

  pub page-of : slice_get (pages_in chunks) pid ≡ option_and_then (λ (chunk : Vec Page). slice_get chunk.items right) (slice_get chunks left)
  page-of = ap (slice_get (pages_in chunks)) (sym place) ∙ of_chunks.page-at fan chunks left right is.filled (omega arith)

  pub page-in : {chunk : Vec Page} → slice_get chunks left ≡ Some chunk → slice_get (pages_in chunks) pid ≡ slice_get chunk.items right
  page-in at = page-of ∙ ap (option_and_then (λ (chunk : Vec Page). slice_get chunk.items right)) at

  pub none-at : length chunks ≤ left → slice_get (pages_in chunks) pid ≡ None
  none-at past = page-of ∙ ap (option_and_then (λ (chunk : Vec Page). slice_get chunk.items right)) (slice_get_past chunks left past)

  module _ (few : pid < length (pages_in chunks)) where
    pub chunk-within : left < length chunks
    chunk-within = ⊎_elim (λ lt. lt) (λ past. absurd (omega (arith, few, past-end (pages_in chunks) pid (none-at past)))) (cases_lt left (length chunks))

    module _ {chunk : Vec Page} (lent : chunk ≡ get_or chunks left chunk) where
      at : slice_get chunks left ≡ Some chunk
      at = slice_get_read chunks (length chunks) left chunk refl chunk-within lent

      pub page-within : right < vec_len chunk
      page-within =
          ⊎_elim (λ lt. lt) (λ past. absurd (omega (arith, few, past-end (pages_in chunks) pid (page-in at ∙ slice_get_past chunk.items right (omega (arith, past, chunk.ok.0)))))) (cases_lt right (vec_len chunk))

      pub page-is : (page : Page) → page ≡ get_or chunk.items right page → slice_get (pages_in chunks) pid ≡ Some page
      page-is page is_page = page-in at ∙ slice_get_read chunk.items (vec_len chunk) right page chunk.ok.0 page-within is_page

      -- another page at the id
      module _ (page : Page) where
        pages-after : pages_in (set chunks left (with_item chunk right page)) ≡ set (pages_in chunks) pid page
        pages-after = of_chunks.pages-set fan chunks left right chunk page at is.filled page-within ∙ ap (λ i. set (pages_in chunks) i page) place

        pub seen-after : view_of (set chunks left (with_item chunk right page)) ≡ with_page (view_of chunks) pid page
        seen-after =
            let make : List Page → Bool → TableView = λ pages room. record { pages = pages; room = room } in
            ap (λ pages. make pages (at_last (has_room fan) (set chunks left (with_item chunk right page)))) pages-after ∙ ap (make (set (pages_in chunks) pid page)) (of_chunks.at_last-same (has_room fan) chunks left chunk (with_item chunk right page) lent refl)

        pub stays-table : IsPageTable (set chunks left (with_item chunk right page))
        stays-table = record {
          filled = of_chunks.filled-same fan chunks left chunk (with_item chunk right page) at is.filled refl;
          few = omega (arith, ap length pages-after, length-set (pages_in chunks) pid page, is.few);
        }

-- ---- the last chunk

pub table-length : {chunks : List (Vec Page)} → IsPageTable chunks → {chunk : Vec Page} → Some chunk ≡ slice_get chunks (length chunks - 1) → length (pages_in chunks) ≡ (length chunks - 1) * fan + vec_len chunk
table-length {chunks} is {chunk} at =
    let last = length chunks - 1 in
    let some = slice_get_within chunks last chunk (sym at) in
    let was = of_chunks.ends-in chunks last (omega arith) chunk (sym (get_or_from_slice_get chunks last chunk chunk (sym at))) in
    let front = take last chunks in
    let filled = of_chunks.length-front fan front chunk (subst (AreFilled fan) was is.filled) in
    omega (arith, ap length (ap pages_in was ∙ of_chunks.pages-push front chunk), length-append (pages_in front) chunk.items, chunk.ok.0, filled.0, ap length was, length-append front (chunk ∷ []))

module _ (chunks : Vec (Vec Page)) (test : Vec Page → Bool) (some : at_last test chunks.items ≡ true) {n : ℕ} (len : n ≡ vec_len chunks) {chunk : Vec Page} (lent : chunk ≡ get_or chunks.items (n - 1) chunk) where
  is_last : n - 1 + 1 ≡ length chunks.items
  is_last = let more = of_chunks.some-last test chunks.items some in omega (arith, chunks.ok.0)

  was : chunks.items ≡ take (n - 1) chunks.items ++ chunk ∷ []
  was = of_chunks.ends-in chunks.items (n - 1) is_last chunk lent

  last-test : (test : Vec Page → Bool) → at_last test chunks.items ≡ test chunk
  last-test test = ap (at_last test) was ∙ of_chunks.at_last-push test (take (n - 1) chunks.items) chunk

  -- where there is room, the chunk isn't full
  pub room-in : at_last (has_room fan) chunks.items ≡ true → vec_len chunk < fan
  room-in room = ltb-true (vec_len chunk) fan (and_parts (is_unfilled fan chunk) (nat_lt (vec_len chunk) (vec_capacity chunk)) (sym (last-test (has_room fan)) ∙ room)).0

  pub room-after : at_last (is_unfilled fan) chunks.items ≡ true → (new : Vec Page) → vec_len new ≡ vec_len chunk → vec_len new < vec_capacity new → at_last (has_room fan) (set chunks.items (n - 1) new) ≡ true
  room-after is_open new same spare =
      let few = ltb-true (vec_len chunk) fan (sym (last-test (is_unfilled fan)) ∙ is_open) in
      ap (at_last (has_room fan)) (of_chunks.ends chunks.items (n - 1) is_last new) ∙ of_chunks.at_last-push (has_room fan) (take (n - 1) chunks.items) new
      ∙ and_from (is_unfilled fan new) (nat_lt (vec_len new) (vec_capacity new)) (lt-ltb (vec_len new) fan (omega arith)) (lt-ltb (vec_len new) (vec_capacity new) spare)

  -- another one in place of it, with more pages
  pub grown : IsPageTable chunks.items → (new : Vec Page) (more : List Page) → new.items ≡ chunk.items ++ more → (vec_len chunk ≤ fan → vec_len new ≤ fan) → length (pages_in chunks.items) + length more ≤ most_pages
      → IsPageTable (set chunks.items (n - 1) new) × (pages_in (set chunks.items (n - 1) new) ≡ pages_in chunks.items ++ more)
  grown is new more items few room =
      let front = take (n - 1) chunks.items in
      let then = of_chunks.ends chunks.items (n - 1) is_last new in
      let pages : pages_in (set chunks.items (n - 1) new) ≡ pages_in chunks.items ++ more =
      ap pages_in then ∙ of_chunks.pages-push front new ∙ ap (λ (l : List Page). pages_in front ++ l) items ∙ sym (append_assoc (pages_in front) chunk.items more) ∙ ap (λ (l : List Page). l ++ more) (sym (ap pages_in was ∙ of_chunks.pages-push front chunk)) in
      let filled = subst (AreFilled fan) was is.filled in
      (record { filled = subst (AreFilled fan) (sym then) (of_chunks.filled-last fan front chunk new filled (few (of_chunks.length-front fan front chunk filled).1)); few = omega (arith, ap length pages, length-append (pages_in chunks.items) more, room) }, pages)
