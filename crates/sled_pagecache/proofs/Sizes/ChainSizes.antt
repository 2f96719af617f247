-- How much of the log the messages of a page take, beside those of its chain.
use Rattle.sled_pagecache.proofs.Names.{Recency, ◌≡◌, ◌^◌, ◌+◌, ℕ, ℤ, false, Bool, List, [], ◌∷◌, ◌++◌, map, Option, None, Some, slice_get, refl, sym, ◌∙◌, ap, arith, same_Some, slice_get-map, option_map, slice_index_or, ◌-◌, sum_by, sum_by-cons, DiskPtr, Chain, Entry, effect_of_entry, said_of, IsSized, Ghosts, chain_size, place_of, IsKept, is_free, IsConsistent, Config, CacheInfo, StickyLog, PageContent, Page, sum_by_push, head_size, capped_size, AreSized, size_in, access_size, size_if, node_access_size, min, now, AllZip-long, slice_get_within, slice_get-get_or, view, all-at, kept-at}

pub sum_by-mapped : {A B : Type 0} (f : B → ℕ) (g : A → B) (xs : List A) → sum_by f (map g xs) ≡ sum_by (λ x. f (g x)) xs
sum_by-mapped f g [] = refl
sum_by-mapped f g (x ∷ xs) = sum_by-cons f (g x) (map g xs) ∙ ap (λ n. f (g x) + n) (sum_by-mapped f g xs) ∙ sym (sum_by-cons (λ x. f (g x)) x xs)

-- a page that isn't free takes what its chain takes, which is little enough
page-size : (chain : Chain) (page : Page) → IsKept chain page → IsSized chain → is_free page.kept ≡ false → access_size page ≡ sum_by (λ (entry : Entry). entry.place.log_size) chain
page-size chain page is sized full =
    let size : ℤ × DiskPtr × ℕ → ℕ = λ place. place.2 in
    let same : size_in page.infos.items ≡ sum_by (λ (entry : Entry). entry.place.log_size) chain = sym (sum_by-mapped size place_of page.infos.items) ∙ ap (sum_by size) (sym (is.places full)) ∙ sum_by-mapped size said_of chain in
    let few = sized.total in
    omega (arith, same, few)

node-full : (size its : ℕ) (k : PageContent) → size_if size k ≡ Some its → (is_free k ≡ false) × (its ≡ size)
node-full size its k is = grind arith

-- what the messages of a node in memory take is what those of its chain take
pub sized-view : {L : Type 0} (g : Ghosts L) (next : ℕ) (config : Config) (recovered : Bool) (lru : Recency) (sticky_log : StickyLog L) (pages : List Page) (free : List ℕ)
    → IsConsistent g.tells g.state sticky_log pages free → AreSized g (view next config recovered lru sticky_log pages)
sized-view g next config recovered lru sticky_log pages free is told clear pid size has = by (slice_get pages pid) refl (sym (slice_get-map (λ (p : Page). node_access_size p) pages pid) ∙ has)
  where
    chains : List Chain
    chains = now effect_of_entry (g.state sticky_log.log)

    by : (o : Option Page) → slice_get pages pid ≡ o → option_map node_access_size o ≡ Some (Some size) → size ≡ chain_size g.state (view next config recovered lru sticky_log pages) pid
    by None past same = absurd cc
    by (Some q) at same =
        let node = node-full (access_size q) size q.kept (same_Some (node_access_size q) (Some size) same) in
        let kept = (is.beside clear).kept told in
        let long = AllZip-long IsKept chains pages kept in
        let within = slice_get_within pages pid q at in
        node.1 ∙ page-size (slice_index_or chains pid []) q (kept-at chains pages pid q kept at)
        (all-at IsSized chains pid (slice_index_or chains pid []) ((is.beside clear).sized told) (slice_get-get_or chains pid [] (omega (arith, long, within)))) node.0

-- ---- what is accessed

-- a page of one message, which is so long
pub size-alone : (infos : List CacheInfo) (info : CacheInfo) (payload : ℕ) → infos ≡ info ∷ [] → info.log_size ≡ head_size + payload → capped_size (head_size + payload) ≡ capped_size (size_in infos)
size-alone infos info payload alone is = grind (arith, sum_by-cons (λ (info : CacheInfo). info.log_size) info [])

-- a page with one message more
pub joined-size : (lent infos after : List CacheInfo) (payload total taken : ℕ) (info : CacheInfo) → lent ≡ infos → total ≡ min (size_in lent) (2 ^ 64 - 1) → taken ≡ min (total + head_size + payload) (2 ^ 64 - 1)
    → after ≡ infos ++ info ∷ [] → info.log_size ≡ head_size + payload → capped_size taken ≡ capped_size (size_in after)
joined-size lent infos after payload total taken info lends sums takes same is = grind (arith, sum_by_push (λ (info : CacheInfo). info.log_size) infos info)

pub capped-total : (size total : ℕ) → total ≡ min size (2 ^ 64 - 1) → capped_size total ≡ capped_size size
capped-total size total is = omega (arith, is)
