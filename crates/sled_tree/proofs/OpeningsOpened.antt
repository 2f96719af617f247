-- The pages of a cache that was just opened.
use Rattle.std.proofs.Common.{◌≡◌, ◌≤◌, ℕ, List, [], ◌∷◌, ◌++◌, length, map, refl, sym, ◌∙◌, ap, arith}
use Rattle.std.proofs.Math.Seq.{drop-nil}
use Rattle.std.proofs.lemmas.List.{append-nil, map-append}
use Rattle.sled_log.specs.Contents.{Content, Update, contents_after}
use Rattle.sled_log.specs.Events.{Event}
use Rattle.sled_pagecache.specs.Opening.{missing_pages, changes_of_start, opened_state}
use Rattle.sled_pagecache.specs.State.{StampedPage, page, contents_of}
use Rattle.sled_pagecache.specs.declared.pagecache.handles.config.Config.{Config}

contents-stamped : (stamp : ℕ) (pages : List Content) → map (λ (p : StampedPage). p.content) (map (page stamp) pages) ≡ pages
contents-stamped stamp [] = refl
contents-stamped stamp (content ∷ pages) = ap (λ ps. content ∷ ps) (contents-stamped stamp pages)

with-missing : (pages : List Content) → pages ++ missing_pages pages ≡ contents_after pages (changes_of_start pages)
with-missing [] = refl
with-missing (one ∷ []) = refl
with-missing (one ∷ two ∷ pages) =
    ap (λ (ps : List Content). (one ∷ two ∷ pages) ++ ps) (drop-nil (length pages)) ∙ append-nil (one ∷ two ∷ pages)
    ∙ sym (ap (λ (es : List (Event Update)). contents_after (one ∷ two ∷ pages) es) (drop-nil (length pages)))

pub opened-pages : (config : Config) (pages : List Content) → contents_of (opened_state config pages) ≡ contents_after pages (changes_of_start pages)
opened-pages config pages =
    map-append (λ (p : StampedPage). p.content) (map (page 0) pages) (map (page 1) (missing_pages pages))
    ∙ ap (λ (ps : List Content). ps ++ map (λ (p : StampedPage). p.content) (map (page 1) (missing_pages pages))) (contents-stamped 0 pages)
    ∙ ap (λ (ps : List Content). pages ++ ps) (contents-stamped 1 (missing_pages pages)) ∙ with-missing pages

-- there are both system pages then
pub two-pages : (pages : List Content) → 2 ≤ length (contents_after pages (changes_of_start pages))
two-pages [] = omega arith
two-pages (one ∷ []) = omega arith
two-pages (one ∷ two ∷ pages) = let same = ap (λ (es : List (Event Update)). length (contents_after (one ∷ two ∷ pages) es)) (drop-nil (length pages)) in omega arith
