-- What a link makes of the chain of its page.
use Rattle.sled_pagecache.proofs.Names.{◌≡◌, ◌<◌, ◌≤◌, ℕ, false, cond, List, [], ◌∷◌, ◌++◌, length, map, sym, ◌∙◌, ap, subst, slice_set, slice_index_or, map-append, Result, Err, Refusal, is_empty, chains_from, Node, Put, Link, Event, Change, Message, Entry, Chain, messages_of, placed_entry, effect_of_entry, said_of, IsUpdate, Makes, message_of, Accepts, applied, WholeNode, place_of, begun_by, HoldsChain, IsKept, is_free, update_of, CacheInfo, PageContent, Page, NodeLink, arith}
use Rattle.sled_pagecache.proofs.Table.PageChains.{placed-at}
use Rattle.sled_pagecache.specs.declared.pagecache.table.page_entry.PageContent.TheVariants as page_content
use Rattle.sled_pagecache.proofs.Memory.FoundMessages.{makes-more}
use Rattle.sled_pagecache.proofs.Table.SwappedChains.{at-page, other-pages, put-chains, kept-put}
use Rattle.sled_pagecache.proofs.Table.StatePages.{node-full, kept-free}

-- what a link wrote that joined the other messages, in the words of the page before it
pub joined-update : (messages : ℕ) (link : NodeLink) (before : WholeNode) (held : PageContent) → messages < 10 → held ≡ page_content.Node before → Link link ≡ update_of messages link held
joined-update messages link before held few holds = grind arith

-- and one whose node was written whole
pub put-update : (messages : ℕ) (link : NodeLink) (before made : WholeNode) (held : PageContent) → 10 ≤ messages → made ≡ applied link before → held ≡ page_content.Node before → Put (Node made) ≡ update_of messages link held
put-update messages link before made held many is holds = grind arith

-- ---- a link that was refused

pub begun-handed : (T U : Type 0) (refusal : Refusal) (events : List (Event Message)) → (let one : Result T Refusal = Err refusal in begun_by one events) ≡ (let other : Result U Refusal = Err refusal in begun_by other events)
begun-handed T U refusal events = grind arith

-- a page that has a content isn't free
pub full-free : (chain : Chain) (held : PageContent) → is_empty effect_of_entry chain ≡ false → HoldsChain chain held → is_free held ≡ false
full-free chain held full holds = sym (kept-free chain held holds) ∙ full

-- ---- a page that a link was applied to

module _ (chains : List Chain) (pid : ℕ) (there : pid < length chains) (page : Page) (is : IsKept (slice_index_or chains pid []) page)
    (link : NodeLink) (before made : WholeNode) (holds : page.kept ≡ page_content.Node before) (accepts : Accepts before link) (applies : made ≡ applied link before) where
  makes : Makes (messages_of (slice_index_or chains pid [])) (Node before)
  makes = subst (HoldsChain (slice_index_or chains pid [])) holds is.holds

  pub page-full : is_empty effect_of_entry (slice_index_or chains pid []) ≡ false
  page-full = node-full (slice_index_or chains pid []) before makes

  -- the link was written as its last message
  pub page-joined : (after : List Chain) (info : CacheInfo) → after ≡ chains_from effect_of_entry chains (Change pid (placed_entry (message_of (Link link)) (place_of info)))
      → (new : Page) → IsUpdate (message_of (Link link)) (Link link) → new.infos.items ≡ page.infos.items ++ info ∷ [] → new.kept ≡ page_content.Node made
      → (after ≡ slice_set chains pid (slice_index_or after pid [])) × IsKept (slice_index_or after pid []) new
  page-joined after info came new reads infos held =
      let chain = slice_index_or chains pid [] in
      let last = placed_entry (message_of (Link link)) (place_of info) ∷ [] in
      let set : after ≡ slice_set chains pid (chain ++ last) = came ∙ ap (λ b. slice_set chains pid (cond b chain (chain ++ last))) page-full in
      let same = at-page chains pid there after (chain ++ last) set in
      let more = map-append said_of chain last ∙ ap (λ places. places ++ place_of info ∷ []) (is.places (ap is_free holds)) ∙ sym (ap (map place_of) infos ∙ map-append place_of page.infos.items (info ∷ [])) in (
        other-pages chains pid there after (chain ++ last) set,
        record {
          places = λ _. ap (map said_of) same ∙ more;
          at = placed-at (slice_index_or after pid []) new.infos.items (ap (map said_of) same ∙ more);
          holds = rw (held, same, map-append (λ (entry : Entry). entry.message) chain last) (makes-more (messages_of chain) before (message_of (Link link)) made makes (link, reads, accepts, applies));
        },
      )

  -- the node that it makes was written, as its only one
  pub page-put : (after : List Chain) (info : CacheInfo) → after ≡ chains_from effect_of_entry chains (Change pid (placed_entry (message_of (Put (Node made))) (place_of info)))
      → (new : Page) → IsUpdate (message_of (Put (Node made))) (Put (Node made)) → new.infos.items ≡ info ∷ [] → new.kept ≡ page_content.Node made
      → (after ≡ slice_set chains pid (slice_index_or after pid [])) × IsKept (slice_index_or after pid []) new
  page-put after info came new reads infos held =
      let set = came ∙ put-chains chains pid there (page_content.Node made) tt info in
      (other-pages chains pid there after _ set, kept-put _ new (page_content.Node made) tt info (at-page chains pid there after _ set) infos held reads)
