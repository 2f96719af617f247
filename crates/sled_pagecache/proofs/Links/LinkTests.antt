-- A link that is tested, and one of a damaged page.
use Rattle.sled_pagecache.proofs.Names.{Recency, ◌≡◌, inl, inr, ℕ, Bool, true, false, List, Some, Err, slice_get, slice_set, refl, sym, ◌∙◌, ap, slice_get-map, same_Some, error_of, Refusal, is_empty, Node, Chain, messages_of, effect_of_entry, Makes, one_content, Ghosts, WholeNode, Cache, Represents, chain_at, ReportsWrong, MeetsDamage, ReportsDamage, Judges, IsFresh, IsTested, TestsFirst, RefusesUnappended, TakesLink, RefusesAppended, Logged, HoldsChain, is_resident, is_free, State, page, page_at, Swapped, is_reserved, RefusesLink, stamps_in, resident_in, IsFreeOrNode, IsConsistent, Token, Config, StickyLog, Rejection, PageContent, NodeLink, StampedPage, KeptPage, map-at, kept-at, own-at, behind-own, arith}
use Rattle.sled_pagecache.proofs.CacheLog.LeftPages.{leaves-went}
use Rattle.sled_log.specs.LogState as log
use Rattle.sled_pagecache.proofs.Table.StateChains.{state-page}
use Rattle.sled_pagecache.proofs.Memory.PageIn.{stamps-same, page-kept-at}
use Rattle.sled_pagecache.proofs.Table.StatePages.{node-full, kept-free}
use Rattle.sled_pagecache.proofs.Table.TableNodes.{view}
use Rattle.sled_pagecache.specs.declared.pagecache.table.page_entry.PageContent.TheVariants as page_content

-- a page in memory whose chain makes the node holds it
node-kept : (chain : Chain) (node : WholeNode) (k : PageContent) → Makes (messages_of chain) (Node node) → HoldsChain chain k → IsFreeOrNode k → is_free k ≡ false → is_resident k ≡ true → k ≡ page_content.Node node
node-kept chain node k made holds own full resident = grind (arith, one_content (messages_of chain))

tested : (node : WholeNode) (link : NodeLink) (stamp : ℕ) (refusal : Refusal) → RefusesLink stamp (page_content.Node node) link refusal → IsTested node link stamp (Err (error_of refusal))
tested node link stamp refusal why = grind arith

module _ {L : Type 0} (g : Ghosts L) (next : ℕ) (config : Config) (recovered : Bool) (lru : Recency) (before : StickyLog L) (pages : List KeptPage) (free : List ℕ) (pid : ℕ)
    (c : IsConsistent g.tells g.state before pages free) (t : Token) where
  abbrev old : Cache L
  old = view next config recovered lru before pages

  abbrev chain : Chain
  chain = chain_at (g.state before.log) pid

  -- the token of a page that has a content, at its stamp, isn't rejected
  judged-fresh : (rejection : Rejection) → Judges before.fault pages pid t (Err rejection)
      → g.tells → before.fault ≡ false → is_reserved pid ≡ false → is_empty effect_of_entry chain ≡ false → slice_get (stamps_in pages) pid ≡ Some t.stamp → ⊥
  judged-fresh rejection judges known ready behind full stamp =
      let stamps = slice_get-map (λ (q : KeptPage). q.stamp) pages pid in
      let frees : (q : KeptPage) → slice_get pages pid ≡ Some q → is_empty effect_of_entry chain ≡ is_free q.kept
      = λ q at. kept-free chain q.kept (kept-at (log.now effect_of_entry (g.state before.log)) pages pid q ((c.beside ready).kept known) at).holds in
      grind arith

  pub judged-undamaged : (rejection : Rejection) → Judges before.fault pages pid t (Err rejection) → MeetsDamage g old pid → slice_get old.stamps pid ≡ Some t.stamp → ⊥
  judged-undamaged rejection judges meets stamp = judged-fresh rejection judges meets.tells meets.ready meets.behind meets.damaged.0 stamp

  -- ---- a state that the cache is in

  module _ (same : t.pid ≡ pid) (held : Logged) (s : State) (node : WholeNode) (is : Represents g old held s) (clear : s.fault ≡ false) (own : is_reserved t.pid ≡ false)
      (there : page_at s t.pid ≡ Some (page t.stamp (Node node))) where
    makes : Makes (messages_of chain) (Node node)
    makes = state-page g old held s is clear pid (page t.stamp (Node node)) (ap (page_at s) (sym same) ∙ there)

  pub judged-tests : t.pid ≡ pid → (rejection : Rejection) → Judges before.fault pages pid t (Err rejection) → (link : NodeLink) (answer : Swapped NodeLink) → TestsFirst g old t link answer
  judged-tests same rejection judges link answer held s node is clear own resident there =
      absurd (judged-fresh rejection judges is.tells (sym is.fault ∙ clear) (ap is_reserved (sym same) ∙ own) (node-full chain node (makes same held s node is clear own there))
      (sym (ap (λ (l : List ℕ). slice_get l pid) is.stamps) ∙ map-at (λ (p : StampedPage). p.stamp) s.pages pid (page t.stamp (Node node)) (ap (page_at s) (sym same) ∙ there)))

  module _ (q : KeptPage) (fresh : IsFresh before.fault pages pid t q) (link : NodeLink) where
    -- a link that was refused
    pub refused-tests : t.pid ≡ pid → (refusal : Refusal) → (g.tells → is_resident q.kept ≡ true → RefusesLink q.stamp q.kept link refusal) → TestsFirst g old t link (Err (error_of refusal))
    refused-tests same refusal why held s node is clear own resident there =
        let lies = same_Some (is_resident q.kept) true (sym (map-at (λ (p : KeptPage). is_resident p.kept) pages pid q fresh.at) ∙ ap (λ n. slice_get (resident_in pages) n) (sym same) ∙ resident) in
        let holds = (page-kept-at g before before pages free pid q q c fresh.clear fresh.behind fresh.at is.tells).holds in
        let is_node = node-kept chain node q.kept (makes same held s node is clear own there) holds (own-at pages pid q c.own (behind-own pid fresh.behind) fresh.at) fresh.full lies in
        rw (← fresh.stamp) (tested node link q.stamp refusal (rw is_node at (why is.tells lies)))

    -- a link that was taken
    pub taken-tests : t.pid ≡ pid → (after : StickyLog L) (page_then : KeptPage) → TakesLink g before pid q link after page_then → (answer : Swapped NodeLink) → TestsFirst g old t link answer
    taken-tests same after page_then takes answer held s node is clear own resident there =
        let one : Node takes.tells.node ≡ Node node = one_content (messages_of chain) (Node takes.tells.node) (Node node) (takes.tells.made is.tells) (makes same held s node is clear own there) in
        let below = takes.tells.below in
        let stamp = fresh.stamp in
        grind arith

    -- ---- a damaged page

    module _ (meets : MeetsDamage g old pid) (after : StickyLog L) (page_then : KeptPage) where
      unappended-wrong : (refusal : Refusal) → RefusesUnappended chain q.stamp link refusal → ReportsWrong chain (error_of refusal)
      unappended-wrong refusal why = let none = meets.damaged.1 in grind arith

      pub refused-damage : (refusal : Refusal) → RefusesAppended g before pid q link after refusal → page_then.stamp ≡ q.stamp
          → (g.tells → after.fault ≡ false → log.now effect_of_entry (g.state after.log) ≡ log.now effect_of_entry (g.state before.log))
          → ReportsDamage g old pid (let answer : Swapped NodeLink = Err (error_of refusal) in answer) (view next config recovered lru after (slice_set pages pid page_then))
      refused-damage refusal (inl (went, why)) stamp still = record {
        reported = unappended-wrong refusal why;
        left = leaves-went g _ _ (record { config = refl; recovered = refl }) (stamps-same g next config recovered lru before after pages free pid q page_then c fresh.clear fresh.behind fresh.at stamp) refl went still;
      }
      refused-damage refusal (inr (write, tells)) stamp still = absurd (meets.damaged.1 (tells.node, tells.made meets.tells))

      pub taken-damage : TakesLink g before pid q link after page_then → ⊥
      taken-damage takes = meets.damaged.1 (takes.tells.node, takes.tells.made meets.tells)
