-- What was flushed survives.
use Rattle.std.proofs.Common.{◌≡◌, ◌⊎◌, inl, inr, ◌<◌, ◌≤◌, true, List, [], ◌∷◌, ◌++◌, length, length-append, take, ◌∙◌, ap, arith}
use Rattle.std.proofs.lemmas.Bool.{cases_lt}
use Rattle.std.proofs.lemmas.List.{take-append-le, take_all}
use Rattle.sled_log.specs.Contents.{Content, Update}
use Rattle.sled_log.specs.Events.{Event}
use Rattle.sled_search.specs.Calls.{Call as Done, left_by}
use Rattle.sled_tree.specs.Named.{Named}
use Rattle.sled_tree.specs.Openings.{Deed}
use Rattle.sled_tree.specs.Prefixes.{History, Survives, flushes, history_after, named_by_now}
use Rattle.sled_tree.proofs.OpeningsMaps.{named-then}

-- behind a flush that leaves the maps a crash leaves them
pub flushed-stay : {D : Type 0} (h : History) (deed : Deed D) (changes : List (Event Update)) (pages : List Content) (w : Named) → flushes deed.calls ≡ true → Survives (history_after deed changes (named_by_now h) h) pages w → w ≡ named_by_now h
flushed-stay h deed changes pages w flush survives = survives.named_are ∙ by (cases_lt (length h.done) survives.prefix.count)
  where
    one : List (Done Named)
    one = (changes, named_by_now h) ∷ []

    holds : length h.done ≤ survives.prefix.count
    holds = rw flush at survives.holds

    by : (length h.done < survives.prefix.count) ⊎ (survives.prefix.count ≤ length h.done) → left_by h.named (take survives.prefix.count (h.done ++ one)) ≡ named_by_now h
    by (inl more) =
        let sum = length-append h.done one in
        ap (λ (xs : List (Done Named)). left_by h.named xs) (take_all survives.prefix.count (h.done ++ one) (omega arith)) ∙ named-then h.named h.done changes (named_by_now h)
    by (inr few) =
        let most = holds in
        ap (λ (xs : List (Done Named)). left_by h.named xs) (take-append-le survives.prefix.count h.done one few ∙ take_all survives.prefix.count h.done most)
