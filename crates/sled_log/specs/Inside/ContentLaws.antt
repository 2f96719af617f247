-- Folding chains of updates and folding contents agree.
use Rattle.std.proofs.Common.{◌≡◌, ℕ, Bool, true, false, cond, ◌==◌, List, [], ◌∷◌, ◌++◌, length, map, refl, sym, ◌∙◌, ap, slice_set, slice_index_or}
use Rattle.std.proofs.lemmas.List.{map-append, map-set, length-map}
use Rattle.std.proofs.Math.ListN.{get_or-map}
use Rattle.sled_node.specs.declared.node.link.Link.{Link as NodeLink}
use Rattle.sled_log.specs.Chains.{chain_with_link, chains_with_new, chains_with_change, chains_from, chains_after}
use Rattle.sled_log.specs.Contents.{Content, Free, Counter, Roots, Node, Damaged, Update, Put, Link, after_link, contents_with, contents_after, effect_of_update, after_links, content_of}
use Rattle.sled_log.specs.Events.{Event, Change, Pin, Seal, Cancel}

after_links-free : (updates : List Update) → after_links Free updates ≡ Free
after_links-free [] = refl
after_links-free (Link link ∷ updates) = after_links-free updates
after_links-free (Put content ∷ updates) = after_links-free updates

after_links-append : (content : Content) (updates : List Update) (link : NodeLink) → after_links content (updates ++ Link link ∷ []) ≡ after_link link (after_links content updates)
after_links-append content [] link = refl
after_links-append content (Link other ∷ updates) link = after_links-append (after_link other content) updates link
after_links-append content (Put other ∷ updates) link = after_links-append content updates link

content_of-linked : (chain : List Update) (link : NodeLink) → content_of (chain_with_link effect_of_update chain (Link link)) ≡ after_link link (content_of chain)
content_of-linked [] link = refl
content_of-linked (Put Free ∷ updates) link = after_links-free updates ∙ sym (ap (after_link link) (after_links-free updates))
content_of-linked (Put (Counter n) ∷ updates) link = after_links-append (Counter n) updates link
content_of-linked (Put (Roots roots) ∷ updates) link = after_links-append (Roots roots) updates link
content_of-linked (Put (Node node) ∷ updates) link = after_links-append (Node node) updates link
content_of-linked (Put Damaged ∷ updates) link = after_links-append Damaged updates link
content_of-linked (Link other ∷ updates) link = refl

begun-content : (chains : List (List Update)) (id : ℕ) (content : Content) → map content_of (chains_with_new effect_of_update chains id (Put content)) ≡ contents_with (map content_of chains) id (Put content)
begun-content chains id content = by (id == length chains) ∙ ap (λ n. cond (id == n) (map content_of chains ++ content ∷ []) (slice_set (map content_of chains) id content)) (sym (length-map chains content_of))
  where
    by : (b : Bool) → map content_of (cond b (chains ++ (Put content ∷ []) ∷ []) (slice_set chains id (Put content ∷ []))) ≡ cond b (map content_of chains ++ content ∷ []) (slice_set (map content_of chains) id content)
    by true = map-append content_of chains ((Put content ∷ []) ∷ [])
    by false = map-set content_of chains id (Put content ∷ [])

changed-content : (chains : List (List Update)) (id : ℕ) (update : Update) → map content_of (chains_with_change effect_of_update (effect_of_update update) chains id update) ≡ contents_with (map content_of chains) id update
changed-content chains id (Put Free) = begun-content chains id Free
changed-content chains id (Put (Counter n)) = begun-content chains id (Counter n)
changed-content chains id (Put (Roots roots)) = begun-content chains id (Roots roots)
changed-content chains id (Put (Node node)) = begun-content chains id (Node node)
changed-content chains id (Put Damaged) = begun-content chains id Damaged
changed-content chains id (Link link) =
    map-set content_of chains id (chain_with_link effect_of_update (slice_index_or chains id []) (Link link))
    ∙ ap (slice_set (map content_of chains) id) (content_of-linked (slice_index_or chains id []) link ∙ ap (after_link link) (sym (get_or-map content_of chains id [])))

pub chains-contents : (chains : List (List Update)) (events : List (Event Update)) → map content_of (chains_after effect_of_update chains events) ≡ contents_after (map content_of chains) events
chains-contents chains [] = refl
chains-contents chains (Change id update ∷ events) =
    chains-contents (chains_from effect_of_update chains (Change id update)) events ∙ ap (λ (l : List Content). contents_after l events) (changed-content chains id update)
chains-contents chains (Pin ∷ events) = chains-contents chains events
chains-contents chains (Seal ∷ events) = chains-contents chains events
chains-contents chains (Cancel ∷ events) = chains-contents chains events
