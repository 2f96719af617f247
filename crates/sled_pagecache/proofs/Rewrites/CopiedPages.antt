-- What the messages of a rewriting make of a log that holds no page.
use Rattle.sled_pagecache.proofs.Names.{◌≡◌, ◌+◌, ◌≤◌, ℕ, Bool, List, [], ◌∷◌, ◌++◌, length, map, refl, sym, ◌∙◌, ap, arith, append-nil, append_assoc, length-append, AllByRecursion, AreKept, Content, Counter, Damaged, Event, Free, Hold, Messages, Node, Put, Roots, Update, chains_after, counts-read, effect_of, most_pages, open_after, open_after-append, seen_event, message_of}
use Rattle.std.proofs.lemmas.List.{map-append}
use Rattle.std.proofs.Math.Seq.{set-append_seam}
use Rattle.sled_log.specs.Inside.HoldingLaws.{counts-holds}
use Rattle.sled_log.specs.Inside.Laws.{chains_after-append}
use Rattle.sled_pagecache.specs.Inside.PageCopies.{IsReadable}
use Rattle.sled_pagecache.specs.Limits.{most_messages}
use Rattle.sled_pagecache.specs.Logged.{AreOwn}
use Rattle.sled_pagecache.specs.Rewriting.{alone, changes_of_page, changes_of_pages, messages_of_pages}

-- ---- some pages after others

pub changes-append : (pid : ℕ) (contents others : List Content) → changes_of_pages pid (contents ++ others) ≡ changes_of_pages pid contents ++ changes_of_pages (pid + length contents) others
changes-append pid [] others = let e : pid + 0 ≡ pid = omega arith in ap (λ n. changes_of_pages n others) (sym e)
changes-append pid (content ∷ contents) others =
    let first = changes_of_page pid content in
    let rest = changes_of_pages (pid + 1) contents in
    let e : pid + 1 + length contents ≡ pid + length (content ∷ contents) = omega arith in
    ap (λ (l : List (Event Update)). first ++ l) (changes-append (pid + 1) contents others)
    ∙ sym (append_assoc first rest (changes_of_pages (pid + 1 + length contents) others))
    ∙ ap (λ n. (first ++ rest) ++ changes_of_pages n others) e

pub messages-append : (pid : ℕ) (contents others : List Content) → messages_of_pages pid (contents ++ others) ≡ messages_of_pages pid contents ++ messages_of_pages (pid + length contents) others
messages-append pid contents others =
    ap (map (seen_event message_of)) (changes-append pid contents others) ∙ map-append (seen_event message_of) (changes_of_pages pid contents) (changes_of_pages (pid + length contents) others)

-- one more page
pub messages-push : (contents : List Content) (content : Content) → messages_of_pages 0 (contents ++ content ∷ []) ≡ messages_of_pages 0 contents ++ map (seen_event message_of) (changes_of_page (length contents) content)
messages-push contents content =
    let e : 0 + length contents ≡ length contents = omega arith in
    messages-append 0 contents (content ∷ [])
    ∙ ap (λ n. messages_of_pages 0 contents ++ messages_of_pages n (content ∷ [])) e
    ∙ ap (λ (l : List (Event Update)). messages_of_pages 0 contents ++ map (seen_event message_of) l) (append-nil (changes_of_page (length contents) content))

-- ---- no batch is opened

open-page : (was : Bool) (pid : ℕ) (content : Content) → open_after was (map (seen_event message_of) (changes_of_page pid content)) ≡ was
open-page was pid Free = refl
open-page was pid (Counter n) = refl
open-page was pid (Roots roots) = refl
open-page was pid (Node node) = refl
open-page was pid Damaged = refl

pub open-pages : (was : Bool) (pid : ℕ) (contents : List Content) → open_after was (messages_of_pages pid contents) ≡ was
open-pages was pid [] = refl
open-pages was pid (content ∷ contents) =
    let first = changes_of_page pid content in
    ap (open_after was) (map-append (seen_event message_of) first (changes_of_pages (pid + 1) contents))
    ∙ open_after-append was (map (seen_event message_of) first) (messages_of_pages (pid + 1) contents)
    ∙ ap (λ b. open_after b (messages_of_pages (pid + 1) contents)) (open-page was pid content)
    ∙ open-pages was (pid + 1) contents

-- ---- each page is its one message

chains-page : (chains : List Messages) (content : Content) → IsReadable content → chains_after effect_of chains (map (seen_event message_of) (changes_of_page (length chains) content)) ≡ chains ++ alone content ∷ []
chains-page chains Free is = grind (arith, set-append_seam {A = Messages}, length-append {A = Messages})
chains-page chains (Counter n) is = grind arith
chains-page chains (Roots roots) is = grind arith
chains-page chains (Node node) is = grind arith
chains-page chains Damaged is = absurd is

pub chains-pages : (chains : List Messages) (contents : List Content) → AllByRecursion IsReadable contents → chains_after effect_of chains (messages_of_pages (length chains) contents) ≡ chains ++ map alone contents
chains-pages chains [] are = sym (append-nil chains)
chains-pages chains (content ∷ contents) are =
    let first = map (seen_event message_of) (changes_of_page (length chains) content) in
    let then : List Messages = chains ++ alone content ∷ [] in
    let long : length then ≡ length chains + 1 = length-append chains (alone content ∷ []) in
    ap (chains_after effect_of chains) (map-append (seen_event message_of) (changes_of_page (length chains) content) (changes_of_pages (length chains + 1) contents))
    ∙ chains_after-append effect_of chains first (messages_of_pages (length chains + 1) contents)
    ∙ ap (λ (l : List Messages). chains_after effect_of l (messages_of_pages (length chains + 1) contents)) (chains-page chains content are.0)
    ∙ ap (λ n. chains_after effect_of then (messages_of_pages n contents)) (sym long)
    ∙ chains-pages then contents are.1
    ∙ append_assoc chains (alone content ∷ []) (map alone contents)

hold-alone : (contents : List Content) → AllByRecursion IsReadable contents → Hold (map alone contents) contents
hold-alone [] are = tt
hold-alone (content ∷ contents) are = (counts-holds (message_of (Put content)) content (counts-read (message_of (Put content)) (Put content) are.0), hold-alone contents are.1)

short-alone : (contents : List Content) → AllByRecursion (λ (told : Messages). length told ≤ most_messages) (map alone contents)
short-alone [] = tt
short-alone (content ∷ contents) = (omega arith, short-alone contents)

-- the pages are as a cache leaves them, where these contents are
pub kept-alone : (contents : List Content) → AllByRecursion IsReadable contents → AreOwn contents → length contents ≤ most_pages → AreKept (map alone contents) contents
kept-alone contents are own few = record { holds = hold-alone contents are; proper = record { own = own; short = short-alone contents; few = few } }
