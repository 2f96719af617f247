-- A link of a page that is read first: what the two calls of the log make together.
use Rattle.sled_pagecache.proofs.Names.{◌≡◌, ◌≢◌, ◌-◌, ◌^◌, ℕ, true, false, List, [], ◌∷◌, length, Result, Err, slice_set, ◌∙◌, ap, subst, arith, AllByRecursion, IfErr, Write, Refusal, Io, LogFull, Event, Change, Message, Chain, messages_of, effect_of_entry, IsSized, IsUpdate, Makes, now, message_of, Ghosts, Accepts, applied, WholeNode, chain_at, Went, IsCaused, IsOfLog, begun_by, Went-then, IsCaused-since, AppendsLink, TakesLink, RefusesAppended, HadNoRoom, HoldsChain, IsKept, is_free, is_resident, IsRaised, IsLinked, RefusesLink, update_of, link_update, linked_length, IsFreeOrNode, StickyLog, PageContent, Page, NodeLink}
use Rattle.sled_base.specs.declared.types.Refusal.TheVariants.{Unsupported}
use Rattle.sled_log.specs.Contents as content
use Rattle.sled_pagecache.specs.declared.pagecache.table.page_entry.PageContent.TheVariants as page_content

module _ {L : Type 0} (g : Ghosts L) {old mid : StickyLog L} (new : StickyLog L) (pid : ℕ) (q : Page) {page : Page} (page_then : Page) (link : NodeLink)
    (went : Went g old mid []) (clear : mid.fault ≡ false) (same : g.tells → mid.fault ≡ false → now effect_of_entry (g.state mid.log) ≡ now effect_of_entry (g.state old.log))
    (is : g.tells → IsKept (chain_at (g.state old.log) pid) page) (stamp : page.stamp ≡ q.stamp) (infos : page.infos.items ≡ q.infos.items) (resident : is_resident page.kept ≡ true) where
  abbrev chain : Chain
  chain = chain_at (g.state old.log) pid

  -- what is told where the page is kept so
  abbrev update : PageContent → content.Update
  update k = update_of (length page.infos.items) link k

  abbrev events : PageContent → List (Event Message)
  events k = Change pid (message_of (update k)) ∷ []

  joined : (more : List (Event Message)) → Went g mid new more → Went g old new more
  joined more second = Went-then g old mid new [] more went clear second

  tells : (node : WholeNode) → (g.tells → Makes (messages_of chain) (content.Node node)) → Accepts node link → q.stamp ≢ 2 ^ 64 - 1 → IsUpdate (message_of (update (page_content.Node node))) (update (page_content.Node node))
      → Went g mid new (events (page_content.Node node)) → AppendsLink g old pid q link new
  tells node made accepts below reads second =
      let n : length page.infos.items ≡ length q.infos.items = ap length infos in
      record {
        node = node;
        made = made;
        accepts = accepts;
        below = below;
        is = subst (λ (k : ℕ). IsUpdate (message_of (link_update k link (applied link node))) (link_update k link (applied link node))) n reads;
        went = subst (λ (k : ℕ). Went g old new (Change pid (message_of (link_update k link (applied link node))) ∷ [])) n (joined (events (page_content.Node node)) second);
      }

  pub taken : (k : PageContent) → (g.tells → HoldsChain chain k) → IsLinked k link page_then.kept → IsUpdate (message_of (update k)) (update k)
      → Went g mid new (events k)
      → IsRaised page.stamp page_then.stamp → (g.tells → IsKept (chain_at (g.state new.log) pid) page_then) → length page_then.infos.items ≡ linked_length (length page.infos.items)
      → (g.tells → now effect_of_entry (g.state new.log) ≡ slice_set (now effect_of_entry (g.state mid.log)) pid (chain_at (g.state new.log) pid))
      → (g.tells → AllByRecursion IsSized (now effect_of_entry (g.state new.log))) → TakesLink g old pid q link new page_then
  unfolding tells
  taken (page_content.Node node) holds linked reads second raised kept_then len others sized = record {
    tells = tells node holds linked.0 (let lt = raised.0 in λ last. omega (arith, lt, stamp, last)) reads second;
    raised = subst (λ (n : ℕ). IsRaised n page_then.stamp) stamp raised;
    holds = linked.1;
    kept = kept_then;
    len = len ∙ ap (λ (l : List _). linked_length (length l)) infos;
    others = λ known. others known ∙ ap (λ (l : List Chain). slice_set l pid (chain_at (g.state new.log) pid)) (same known clear);
    sized = sized;
  }
  taken k holds linked reads second raised kept_then len others sized = absurd linked

  -- ---- refused

  of-log : (node : WholeNode) (refusal : Refusal) → Makes (messages_of chain) (content.Node node) → Accepts node link → q.stamp ≢ 2 ^ 64 - 1 → IsOfLog refusal
      → (let err : Result (Unit {0}) Refusal = Err refusal in Went g mid new (begun_by err (events (page_content.Node node))))
      → (refusal ≡ Io Write → IsUpdate (message_of (update (page_content.Node node))) (update (page_content.Node node)))
      → RefusesAppended g old pid q link new refusal
  of-log node refusal made accepts below why second reads =
      let none = joined [] in
      let told = tells node (λ _. made) accepts below in
      grind arith

  pub refused : (k : PageContent) (refusal : Refusal) → HoldsChain chain k → is_resident k ≡ true → is_free k ≡ false → IsFreeOrNode k → RefusesLink page.stamp k link refusal
      → (let err : Result (Unit {0}) Refusal = Err refusal in Went g mid new (begun_by err (events k)))
      → (refusal ≡ Io Write → IsUpdate (message_of (update k)) (update k))
      → RefusesAppended g old pid q link new refusal
  refused k refusal holds there full own why second reads =
      let none = joined [] in
      grind (arith, of-log)

  -- ---- its cause

  full-by : (k : PageContent) → HoldsChain chain k → RefusesLink page.stamp k link (Unsupported LogFull) → ((n : ℕ) → g.is_full mid.log n → g.is_full old.log n)
      → g.is_full mid.log (length (message_of (update k)).payload) → HadNoRoom g old pid q link
  full-by (page_content.Node node) holds why room full = record {
    node = node;
    made = λ _. holds;
    full = room _ (subst (λ (k : ℕ). g.is_full mid.log (length (message_of (link_update k link (applied link node))).payload)) (ap length infos) full);
  }
  full-by k holds why room full = absurd cc

  pub caused : (result : Result (Unit {0}) Refusal) → (g.tells → IfErr result (RefusesLink page.stamp page.kept link)) → ((n : ℕ) → g.is_full mid.log n → g.is_full old.log n)
      → IsCaused g mid new (g.is_full mid.log (length (message_of (update page.kept)).payload)) result
      → IsCaused g old new (g.tells → HadNoRoom g old pid q link) result
  caused result why room cause =
      let since = IsCaused-since g old mid new [] (g.is_full mid.log (length (message_of (update page.kept)).payload)) result went cause in
      let full = λ (known : g.tells). full-by page.kept (is known).holds in
      grind arith
