-- What a page more makes of the chains, and of the table.
use Rattle.sled_pagecache.proofs.Names.{◌≡◌, ℕ, cond, List, [], ◌∷◌, ◌++◌, length, map, sym, ◌∙◌, ap, eq-eqb, slice_set, slice_index_or, chains_from, Node, Put, Change, Chain, placed_entry, effect_of_entry, IsUpdate, message_of, WholeNode, HasOneMore, place_of, IsKept, CacheInfo, Page}
use Rattle.std.proofs.Math.Seq.{get_or-append_seam}
use Rattle.sled_pagecache.proofs.Table.SwappedChains.{kept-put}
use Rattle.sled_pagecache.specs.declared.pagecache.table.page_entry.PageContent.TheVariants as page_content

-- the chain of the new page stands behind the others, and it is kept so
pub made-new : (chains : List Chain) (pid : ℕ) → pid ≡ length chains → (after : List Chain) (node : WholeNode) (info : CacheInfo)
    → after ≡ chains_from effect_of_entry chains (Change pid (placed_entry (message_of (Put (Node node))) (place_of info)))
    → (page : Page) → page.kept ≡ page_content.Node node → page.infos.items ≡ info ∷ [] → IsUpdate (message_of (Put (Node node))) (Put (Node node))
    → (after ≡ chains ++ slice_index_or after pid [] ∷ []) × IsKept (slice_index_or after pid []) page
made-new chains pid last after node info came page holds infos reads =
    let chain : Chain = placed_entry (message_of (Put (Node node))) (place_of info) ∷ [] in
    let added : after ≡ chains ++ chain ∷ [] = came ∙ ap (λ b. cond b (chains ++ chain ∷ []) (slice_set chains pid chain)) (eq-eqb pid (length chains) last) in
    let at : slice_index_or after pid [] ≡ chain = rw (added, last) (get_or-append_seam chains chain [] []) in
    (added ∙ ap (λ (c : Chain). chains ++ c ∷ []) (sym at), kept-put (slice_index_or after pid []) page (page_content.Node node) tt info at infos holds reads)

-- a page more
pub has-one-more : (tells : Type 0) (chain : Chain) (node : WholeNode) (info : CacheInfo) (before mid pages : List Page) (page : Page)
    → mid ≡ before → pages ≡ mid ++ page ∷ [] → page.stamp ≡ 1 → page.kept ≡ page_content.Node node → page.infos.items ≡ info ∷ []
    → info.ts ≡ 1 → (tells → IsKept chain page) → HasOneMore tells before pages chain node
has-one-more tells chain node info before mid pages page same is first holds infos at is_kept = record {
  page = page;
  is = is ∙ ap (λ (l : List Page). l ++ page ∷ []) same;
  stamp = first;
  holds = holds;
  kept = is_kept;
  stamps = ap (map (λ (i : CacheInfo). i.ts)) infos ∙ ap (λ n. n ∷ []) (at ∙ sym first);
}
