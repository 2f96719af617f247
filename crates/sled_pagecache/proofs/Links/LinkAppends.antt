-- What a link that the log took makes of its page, and what one leaves that the log refused.
use Rattle.sled_pagecache.proofs.Names.{◌≡◌, ◌<◌, ◌≤◌, ◌+◌, ◌-◌, ◌^◌, ◌∙◌, ℕ, Bool, nat_lt, true, false, List, [], ◌∷◌, ◌++◌, length, length-append, inl, inr, sym, ap, subst, arith, slice_set, Result, Ok, Err, Refusal, Update, Change, Event, Message, message_of, IsUpdate, Accepts, applied, WholeNode, NodeLink, Ghosts, StickyLog, Accesses, WasAccessed, IsTouched, Page, PageContent, CacheInfo, IsKept, is_empty, is_free, access_size, effect_of_entry, now, chain_at, update_of, linked_length, IsLinked, IsFreeOrNode, RefusesLink, Went, Wrote, begun_by, IsCaused-handed_on}
use Rattle.sled_pagecache.proofs.Links.LinkedChains.{begun-handed}
use Rattle.sled_pagecache.specs.Inside.LinkWrites.{AppliesLink, RefusesToApply}
use Rattle.sled_pagecache.specs.Inside.StickyLog.{IsCaused}
use Rattle.sled_pagecache.specs.declared.pagecache.table.page_entry.PageContent.TheVariants as page_content

pub joined-length : (infos after : List CacheInfo) (info : CacheInfo) → length infos < 10 → after ≡ infos ++ info ∷ [] → length after ≡ linked_length (length infos)
joined-length infos after info few is = grind (arith, length-append infos (info ∷ []))

pub put-length : (infos after : List CacheInfo) (info : CacheInfo) → 10 ≤ length infos → after ≡ info ∷ [] → length after ≡ linked_length (length infos)
put-length infos after info many is = grind arith

-- which of the two a link does
pub few-join : (n : ℕ) → n < 10 → true ≡ nat_lt n 10
few-join n few = grind arith

pub many-are-put : (n : ℕ) → 10 ≤ n → false ≡ nat_lt n 10
many-are-put n many = grind arith

module _ {L : Type 0} (g : Ghosts L) {old new : StickyLog L} {pid stamp : ℕ} {page page_then : Page} {link : NodeLink} {accesses then : Accesses} {node : WholeNode} {update : Update}
    (holds : page.kept ≡ page_content.Node node) (accepts : Accepts node link) (below : page.stamp < 2 ^ 64 - 1) (is : update ≡ update_of (length page.infos.items) link page.kept) where
  pub link-applied : {info : CacheInfo} {joins : Bool} → joins ≡ nat_lt (length page.infos.items) 10 → Wrote g old new pid update stamp (Ok info)
      → (g.tells → (now effect_of_entry (g.state new.log) ≡ slice_set (now effect_of_entry (g.state old.log)) pid (chain_at (g.state new.log) pid)) × IsKept (chain_at (g.state new.log) pid) page_then)
      → page_then.stamp ≡ page.stamp + 1 → page_then.kept ≡ page_content.Node (applied link node) → length page_then.infos.items ≡ linked_length (length page.infos.items) → WasAccessed accesses pid (access_size page_then) then
      → AppliesLink g old pid page link new accesses then page_then joins
  link-applied joined wrote linked raised held len accessed = record {
    joined = joined;
    is = subst (λ (u : Update). IsUpdate (message_of u) u) is wrote.is;
    went = subst (λ (u : Update). Went g old new (Change pid (message_of u) ∷ [])) is wrote.writes.went;
    fault = wrote.writes.cause.fault;
    reads = wrote.writes.reads;
    sized = wrote.writes.sized;
    others = λ told. (linked told).0;
    kept = λ told. (linked told).1;
    stamp = (below, raised);
    linked = subst (λ (content : PageContent). IsLinked content link page_then.kept) (sym holds) (accepts, held);
    len = len;
    accessed = accessed;
  }

  -- its node is out of memory then
  pub link-refused : (refusal : Refusal) → Wrote g old new pid update stamp (Err refusal)
      → (g.tells → IsKept (chain_at (g.state old.log) pid) page) → (g.tells → is_empty effect_of_entry (chain_at (g.state old.log) pid) ≡ false)
      → page_then.stamp ≡ page.stamp → page_then.infos.items ≡ page.infos.items → page_then.kept ≡ page_content.OnLog → IsTouched accesses pid then
      → RefusesToApply g old pid page link new accesses then page_then refusal
  link-refused refusal wrote was full stays infos held touched =
      let told : Result (Unit {0}) Refusal = Err refusal in
      let writes = wrote.writes in
      record {
        is = λ write. subst (λ (u : Update). IsUpdate (message_of u) u) is wrote.is;
        went = subst (λ (u : Update). Went g old new (begun_by told (Change pid (message_of u) ∷ []))) is
            (subst (λ (events : List (Event Message)). Went g old new events) (begun-handed CacheInfo (Unit {0}) refusal (Change pid (message_of update) ∷ [])) writes.went);
        cause = subst (λ (u : Update). IsCaused g old new (g.is_full old.log (length (message_of u).payload)) told) is (IsCaused-handed_on g {U = Unit {0}} _ _ _ refusal writes.cause);
        reads = writes.reads;
        same = writes.same;
        still = λ tells clear. (let same = writes.same tells clear in let chain = was tells in let some = full tells in grind arith);
        refused = λ tells. subst (λ (content : PageContent). RefusesLink page.stamp content link refusal) (sym holds) (inr (accepts, inr ((λ most. omega (arith, below, most)), writes.of_log tells)));
        stamp = stays;
        infos = infos;
        free = ap is_free held ∙ sym (ap is_free holds);
        own = λ own. subst IsFreeOrNode (sym held) tt;
        touched = touched;
        lost = inr held;
        unasked = λ tells. inl (writes.of_log tells);
      }
