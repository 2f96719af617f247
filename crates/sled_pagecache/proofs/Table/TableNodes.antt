-- The node that the table of a cache keeps at an id, in the words of the cache's model.
pub use Rattle.sled_pagecache.specs.Inside.Eviction.{cache_of as view}
use Rattle.sled_pagecache.proofs.Names.{Recency, ◌≡◌, ◌≤◌, inl, inr, ℕ, Bool, false, List, [], length, Some, None, slice_get, refl, sym, ◌∙◌, ap, subst, arith, false≢true, get_or_past, AllZip-long, Chain, messages_of, effect_of_entry, Makes, one_content, Ghosts, WholeNode, Cache, chain_at, HoldsChain, IsKept, is_resident, IsNodeAt, IsConsistent, Token, token, Config, StickyLog, PageContent, Page, NodeView, Counter, Roots, Node, now, map-at, kept-at}
use Rattle.sled_pagecache.proofs.Table.StatePages.{node-full}
use Rattle.sled_pagecache.specs.declared.pagecache.table.page_entry.PageContent.TheVariants as page_content

module _ {L : Type 0} (g : Ghosts L) (next : ℕ) (config : Config) (recovered : Bool) (lru : Recency) (sticky_log : StickyLog L) (pages : List Page) (free : List ℕ) (pid : ℕ)
    (is : IsConsistent g.tells g.state sticky_log pages free) where
  abbrev cache : Cache L
  cache = view next config recovered lru sticky_log pages

  abbrev chain : Chain
  chain = chain_at (g.state sticky_log.log) pid

  -- no page is there
  pub no-page : length pages ≤ pid → IsNodeAt g cache pid None
  no-page past =
      inr (λ known clear node made.
      let long = AllZip-long IsKept (now effect_of_entry (g.state sticky_log.log)) pages ((is.beside clear).kept known) in
      subst (λ (c : Chain). Makes (messages_of c) (Node node)) (get_or_past (now effect_of_entry (g.state sticky_log.log)) pid [] (omega (arith, past, long))) made)

  module _ (q : Page) (at : slice_get pages pid ≡ Some q) where
    holds : g.tells → sticky_log.fault ≡ false → HoldsChain chain q.kept
    holds known clear = (kept-at (now effect_of_entry (g.state sticky_log.log)) pages pid q ((is.beside clear).kept known) at).holds

    -- the page holds no node
    pub no-node : ((node : WholeNode) → q.kept ≡ page_content.Node node → ⊥) → IsNodeAt g cache pid None
    no-node none = by q.kept refl
      where
        by : (k : PageContent) → q.kept ≡ k → IsNodeAt g cache pid None
        by page_content.OnLog held = inl (map-at (λ (page : Page). is_resident page.kept) pages pid q at ∙ ap (λ (k : PageContent). Some (is_resident k)) held)
        by page_content.Free held = inr (λ known clear node made. false≢true (sym (node-full chain node made) ∙ subst (HoldsChain chain) held (holds known clear)))
        by (page_content.Counter n) held = inr (λ known clear node made. absurd (let h = one_content (messages_of chain) (Counter n) (Node node) (subst (HoldsChain chain) held (holds known clear)) made in cc))
        by (page_content.Roots roots) held = inr (λ known clear node made. absurd (let h = one_content (messages_of chain) (Roots roots) (Node node) (subst (HoldsChain chain) held (holds known clear)) made in cc))
        by (page_content.Node node) held = absurd (none node held)

    -- the page holds a node
    pub a-node : (lent : NodeView) (node : WholeNode) → q.kept ≡ page_content.Node node → lent.token ≡ token pid q.stamp → lent.node.now ≡ node → IsNodeAt g cache pid (Some lent)
    a-node lent node held is_token is_node =
        let stamp : q.stamp ≡ lent.token.stamp = sym (ap (λ (t : Token). t.stamp) is_token) in (
          is_token ∙ ap (token pid) stamp,
          map-at (λ (page : Page). page.stamp) pages pid q at ∙ ap (λ n. Some n) stamp,
          map-at (λ (page : Page). is_resident page.kept) pages pid q at ∙ ap (λ (k : PageContent). Some (is_resident k)) held,
          λ known clear. subst (λ (n : WholeNode). Makes (messages_of chain) (Node n)) (sym is_node) (subst (HoldsChain chain) held (holds known clear)),
        )
