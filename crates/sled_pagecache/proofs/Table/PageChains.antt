-- How pages are kept beside their chains.
use Rattle.sled_pagecache.proofs.Names.{is_free, subst, HoldsChain, ◌≡◌, List, length, map, sym, ◌∙◌, ap, length-map, ℕ, ℤ, DiskPtr, Chain, said_of, freed_of, place_of, place_of_freeing, IsKept, CacheInfo, Page}
use Rattle.std.proofs.lemmas.Simd.{map-map}

-- by as many messages
pub kept-long : (chain : Chain) (page : Page) → IsKept chain page → length chain ≡ length page.infos.items
kept-long chain page is = sym (length-map chain freed_of) ∙ ap length is.at ∙ length-map page.infos.items place_of_freeing

abbrev without_size : ℤ × DiskPtr × ℕ → ℤ × DiskPtr
without_size place = (place.0, place.1)

-- messages of these places and sizes are at these places
pub placed-at : (chain : Chain) (infos : List CacheInfo) → map said_of chain ≡ map place_of infos → map freed_of chain ≡ map place_of_freeing infos
placed-at chain infos same = sym (map-map without_size said_of chain) ∙ ap (map without_size) same ∙ map-map without_size place_of infos

-- a page of the same messages, of which the same lies in memory
pub kept-same : (chain : Chain) (q page : Page) → page.infos.items ≡ q.infos.items → page.kept ≡ q.kept → IsKept chain q → IsKept chain page
kept-same chain q page infos kept is = record {
  places = λ full. is.places (sym (ap is_free kept) ∙ full) ∙ ap (map place_of) (sym infos);
  at = is.at ∙ ap (map place_of_freeing) (sym infos);
  holds = subst (HoldsChain chain) (sym kept) is.holds;
}
