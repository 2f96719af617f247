-- What a change of a page from 2 on makes of pages as a cache leaves them.
use Rattle.sled_pagecache.proofs.Names.{◌≡◌, ◌≤◌, ◌<◌, ◌^◌, ℕ, List, [], ◌∷◌, ◌++◌, length, Some, slice_get, slice_set, slice_index_or, sym, subst, arith, eq-eqb, ne_eqb, length-append, length-set, get_or_from_slice_get, AllZip-long, applied, WholeNode, chain_with_link, chains_from, Content, Free, Node, Put, Link, after_link, contents_from, Change, Message, Messages, effect_of, Holds, Hold, message_of, IsUsers, IsProper, if◌then◌else◌, ◌==◌, NodeLink, each-set, add-by-id, past-two, set-by-id}
pub use Rattle.sled_node.proofs.Edits.{all_append as all-append}
use Rattle.sled_pagecache.specs.Logged.{AreRoots, IsCounter, IsOwnAt}

-- ---- a page changes, or is added

pub proper-set-own : (pages : List Messages) (contents : List Content) (pid : ℕ) (told : Messages) (content : Content)
    → IsProper pages contents → length told ≤ 10 → IsOwnAt pid content
    → IsProper (slice_set pages pid told) (slice_set contents pid content)
proper-set-own pages contents pid told content proper fits own = record {
  own = set-by-id IsOwnAt contents pid content proper.own own;
  short = each-set _ pages pid told fits proper.short;
  few = subst (λ n. n ≤ 2 ^ 37) (sym (length-set contents pid content)) proper.few;
}

-- a content of the cache's own, in place of what its page held
pub put-own : (pages : List Messages) (contents : List Content) → Hold pages contents → IsProper pages contents → (pid : ℕ) (m : Message) (content : Content) → IsOwnAt pid content → pid < length contents
    → IsProper (if pid == length pages then pages ++ (m ∷ []) ∷ [] else slice_set pages pid (m ∷ [])) (if pid == length contents then contents ++ content ∷ [] else slice_set contents pid content)
put-own pages contents hold proper pid m content own lt =
    let long = AllZip-long Holds pages contents hold in
    rw (ne_eqb pid (length pages) (λ same. omega (arith, same, lt, long)), ne_eqb pid (length contents) (λ same. omega (arith, same, lt)))
    (proper-set-own pages contents pid (m ∷ []) content proper (omega arith) own)

-- what is put on a page by its id: a node, or nothing
abbrev pub IsPut : Content → Type 0
IsPut Free = Unit {0}
IsPut (Node node) = Unit {0}
IsPut other = ⊥

module _ (pages : List Messages) (contents : List Content) (hold : Hold pages contents) (proper : IsProper pages contents) (pid : ℕ) (from : 2 ≤ pid) where
  users : (content : Content) → IsUsers content → IsOwnAt pid content
  users content node = (past-two AreRoots IsCounter IsUsers pid content from).0 node

  -- a content in place of what the page held
  pub put-proper : (content : Content) → IsPut content → pid < length contents
      → IsProper (chains_from effect_of pages (Change pid (message_of (Put content)))) (contents_from contents (Change pid (Put content)))
  put-proper Free put lt = put-own pages contents hold proper pid (message_of (Put Free)) Free (users Free tt) lt
  put-proper (Node node) put lt = put-own pages contents hold proper pid (message_of (Put (Node node))) (Node node) (users (Node node) tt) lt
  put-proper content put lt = absurd put

  -- a node on a new page
  pub add-proper : (node : WholeNode) → pid ≡ length contents → length contents < 2 ^ 37
      → IsProper (chains_from effect_of pages (Change pid (message_of (Put (Node node))))) (contents_from contents (Change pid (Put (Node node))))
  add-proper node last room =
      let long = AllZip-long Holds pages contents hold in
      rw (eq-eqb pid (length pages) (omega (arith, last, long)), eq-eqb pid (length contents) last)
      (record {
        own = add-by-id IsOwnAt contents (Node node) proper.own (subst (λ n. IsOwnAt n (Node node)) last (users (Node node) tt));
        short = all-append _ pages ((message_of (Put (Node node)) ∷ []) ∷ []) proper.short (omega arith, tt);
        few = let l = length-append contents (Node node ∷ []) in omega (arith, l, room);
      })

  -- a link on a page of fewer than ten messages
  pub link-proper : (link : NodeLink) (node : WholeNode) → slice_get contents pid ≡ Some (Node node) → length (slice_index_or pages pid []) < 10
      → IsProper (chains_from effect_of pages (Change pid (message_of (Link link)))) (contents_from contents (Change pid (Link link)))
  link-proper link node at short =
      subst (λ content. IsProper (chains_from effect_of pages (Change pid (message_of (Link link)))) (slice_set contents pid (after_link link content)))
      (sym (get_or_from_slice_get contents pid (Node node) Free at))
      (proper-set-own pages contents pid (chain_with_link effect_of (slice_index_or pages pid []) (message_of (Link link))) (Node (applied link node)) proper
      (let fits : length (chain_with_link effect_of (slice_index_or pages pid []) (message_of (Link link))) ≤ 10 = grind (arith, length-append) in fits) (users (Node (applied link node)) tt))
