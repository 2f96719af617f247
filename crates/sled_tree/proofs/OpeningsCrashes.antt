-- What a crash leaves of maps.
use Rattle.std.proofs.Common.{◌≡◌, ℕ, false, List, ◌++◌, take, refl, sym, ◌∙◌, ap, subst, arith}
use Rattle.std.proofs.lemmas.List.{append_assoc, take-append-le}
use Rattle.sled_log.specs.Contents.{Content, Update, contents_after}
use Rattle.sled_log.specs.Events.{Event, IsFair}
use Rattle.sled_log.specs.Inside.Laws.{IsFair-more}
use Rattle.sled_pagecache.specs.Prefixes as cache
use Rattle.sled_search.specs.Calls.{changes_of, left_by, ArePrefixOf}
use Rattle.sled_search.proofs.InARow.{part-of-calls}
use Rattle.sled_tree.specs.Named.{Named}
use Rattle.sled_tree.specs.Prefixes.{History, history_from, AreSoFar, Survives, Crashes}
use Rattle.sled_tree.proofs.OpeningsMaps.{Covers, Matches, matches-nothing}

module _ (c : cache.History) (h : History) (behind : List (Event Update)) (covers : Covers c h behind) where
  -- the pages that survive are maps that survive
  module _ (pages : List Content) (survives : cache.Survives c pages) where
    abbrev cut : ℕ
    cut = survives.prefix.cut

    abbrev come : List (Event Update)
    come = c.changes ++ survives.prefix.came

    -- what had come is a beginning of all
    abbrev rest : List (Event Update)
    rest = survives.prefix.beginning.0 ++ behind

    are : come ++ rest ≡ changes_of h.done
    are =
        append_assoc c.changes survives.prefix.came rest
        ∙ ap (λ (es : List (Event Update)). c.changes ++ es) (sym (append_assoc survives.prefix.came survives.prefix.beginning.0 behind) ∙ ap (λ (es : List (Event Update)). es ++ behind) survives.prefix.beginning.1)
        ∙ sym (append_assoc c.changes c.begun behind) ∙ covers.changes

    fair : IsFair (changes_of h.done) cut
    fair = subst (λ (es : List (Event Update)). IsFair es cut) are (IsFair-more come rest cut survives.prefix.fair)

    pub prefix : ArePrefixOf AreSoFar h.pages h.named h.done cut
    prefix = part-of-calls AreSoFar h.done h.pages h.named covers.calls cut fair.within

    pages_are : pages ≡ contents_after h.pages (take cut (changes_of h.done))
    pages_are =
        let first : take cut (changes_of h.done) ≡ take cut come = ap (λ (es : List (Event Update)). take cut es) (sym are) ∙ take-append-le cut come rest survives.prefix.fair.within in
        survives.prefix.is ∙ ap (λ (ps : List Content). contents_after ps (take cut come)) covers.pages ∙ ap (λ (es : List (Event Update)). contents_after h.pages es) (sym first)

    abbrev left : Named
    left = left_by h.named (take prefix.count h.done)

    pub survive : Survives h pages left
    survive = record {
      cut = cut;
      fair = fair;
      pages_are = pages_are;
      prefix = prefix;
      named_are = refl;
      holds = prefix.whole h.flushed covers.few (let x = covers.flushed in let y = survives.holds in omega arith);
    }

    pub are-left : AreSoFar pages left
    are-left = subst (λ (ps : List Content). AreSoFar ps left) (sym pages_are) prefix.are

  pub crashes : (after : cache.History) → cache.Crashes c after → (then_on : History) × Crashes h then_on × Matches after then_on false
  crashes after (pages, survives, is) =
      let w = left pages survives in (
        history_from pages w,
        (pages, w, survive pages survives, refl),
        subst (λ (a : cache.History). Matches a (history_from pages w) false) (sym is) (matches-nothing pages w (are-left pages survives)),
      )
