-- What a swap makes of the chain of its page.
use Rattle.sled_pagecache.proofs.Names.{◌≡◌, ◌<◌, ℕ, List, [], ◌∷◌, length, sym, ◌∙◌, ap, arith, slice_set, slice_index_or, ne_eqb, get_or-set_same, chains_from, Put, Change, PageContent, Chain, placed_entry, effect_of_entry, IsUpdate, message_of, place_of, CanPut, content_of, IsKept, CacheInfo, Page}

-- ---- the chain of a page after a change of it

module _ (chains : List Chain) (pid : ℕ) (there : pid < length chains) where
  module _ (after : List Chain) (chain : Chain) (is : after ≡ slice_set chains pid chain) where
    pub at-page : slice_index_or after pid [] ≡ chain
    at-page = ap (λ (l : List Chain). slice_index_or l pid []) is ∙ get_or-set_same chains pid chain [] there

    pub other-pages : after ≡ slice_set chains pid (slice_index_or after pid [])
    other-pages = is ∙ ap (λ (c : Chain). slice_set chains pid c) (sym at-page)

  pub put-chains : (k : PageContent) → CanPut k → (info : CacheInfo)
      → chains_from effect_of_entry chains (Change pid (placed_entry (message_of (Put (content_of k))) (place_of info))) ≡ slice_set chains pid (placed_entry (message_of (Put (content_of k))) (place_of info) ∷ [])
  put-chains k can info = let apart = ne_eqb pid (length chains) (λ e. absurd (omega (arith, there, e))) in grind arith

-- ---- how its page is kept

-- a page that holds what was put there
pub kept-put : (chain : Chain) (page : Page) (k : PageContent) → CanPut k → (info : CacheInfo)
    → chain ≡ placed_entry (message_of (Put (content_of k))) (place_of info) ∷ [] → page.infos.items ≡ info ∷ [] → page.kept ≡ k
    → IsUpdate (message_of (Put (content_of k))) (Put (content_of k)) → IsKept chain page
kept-put chain page k can info is infos holds reads = grind arith
