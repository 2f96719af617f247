-- How much of a log the messages take that make the pages of a table, in the words of the model.
use Rattle.sled_pagecache.proofs.Names.{◌≡◌, ◌+◌, take, Some, slice_get, slice_get_within, get_or_from_slice_get, ℕ, ℤ, Bool, true, false, List, [], ◌∷◌, refl, sym, ◌∙◌, ap, AllZip, DiskPtr, Chain, Entry, effect_of_entry, said_of, place_of, IsKept, is_free, Page, size_in, sum_by, sum_by-cons}
use Rattle.std.proofs.lemmas.List.Sums.{sum_by_more}
use Rattle.sled_log.specs.Chains.{is_empty}
use Rattle.sled_pagecache.proofs.Sizes.ChainSizes.{sum_by-mapped}
use Rattle.sled_pagecache.proofs.Table.StatePages.{kept-free}
use Rattle.sled_pagecache.specs.Inside.Measurements.{page_live}
use Rattle.sled_pagecache.specs.Sizes.{chain_live, live_size}

-- a page that isn't free takes what its chain takes
full-live : (chain : Chain) (page : Page) → IsKept chain page → is_free page.kept ≡ false → size_in page.infos.items ≡ sum_by (λ (entry : Entry). entry.place.log_size) chain
full-live chain page is full =
    let size : ℤ × DiskPtr × ℕ → ℕ = λ place. place.2 in
    sym (sum_by-mapped size place_of page.infos.items) ∙ ap (sum_by size) (sym (is.places full)) ∙ sum_by-mapped size said_of chain

one-live : (chain : Chain) (page : Page) → IsKept chain page → page_live page ≡ chain_live chain
one-live chain page is = by (is_free page.kept) refl (kept-free chain page.kept is.holds)
  where
    by : (b : Bool) → is_free page.kept ≡ b → is_empty effect_of_entry chain ≡ is_free page.kept → page_live page ≡ chain_live chain
    by true free same = rw (same, free) refl
    by false full same = rw (same, full) (full-live chain page is full)

pub all-live : (chains : List Chain) (table : List Page) → AllZip IsKept chains table → sum_by page_live table ≡ live_size chains
all-live [] [] kept = refl
all-live [] (page ∷ table) kept = elim kept [ ]
all-live (chain ∷ chains) [] kept = elim kept [ ]
all-live (chain ∷ chains) (page ∷ table) kept =
    sum_by-cons page_live page table ∙ ap (λ n. n + sum_by page_live table) (one-live chain page kept.0) ∙ ap (λ n. chain_live chain + n) (all-live chains table kept.1) ∙ sym (sum_by-cons chain_live chain chains)

pub next-live : (table : List Page) (pid : ℕ) (q : Page) → slice_get table pid ≡ Some q → sum_by page_live (take (pid + 1) table) ≡ sum_by page_live (take pid table) + page_live q
next-live table pid q at = rw (sym (get_or_from_slice_get table pid q q at)) (sum_by_more page_live table pid q (slice_get_within table pid q at))
