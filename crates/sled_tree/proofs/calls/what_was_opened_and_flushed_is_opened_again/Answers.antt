use Rattle.std.proofs.Common.{refl, [], ◌∷◌, Ok, sym, subst}
use Rattle.sled_pagecache.specs.Opening.{opened_state}
use Rattle.sled_tree.specs.Calls.{Opened, Needs, Does, EndsInNeed, deed}
use Rattle.sled_tree.specs.Maps.{root_of}
use Rattle.sled_tree.specs.Named.{Named}
use Rattle.sled_tree.specs.Openings.{Lasted}
use Rattle.sled_tree.specs.Prefixes.{ShowMaps, begun_by_start, history_after_start, named_by_now, pages_by_now}
use Rattle.sled_tree.proofs.CallsNames.{finds-it, name-stays}
use Rattle.sled_tree.proofs.OpeningsMaps.{named-then}
use Rattle.sled_tree.proofs.calls.what_was_opened_and_flushed_is_opened_again.Goals as goal

pub returns : goal.returns
returns g c = λ h name tree_then tree written calls_then flush_calls calls config_then config first_then last_then first last left_then left ending_then ending openings flush needs (opened, named, deeds).
    let same = sym (named-then h.named h.done (begun_by_start h) (named_by_now h)) in
    let (after, has, show) = name-stays g.L.Log name tree_then written calls_then flush_calls flush (history_after_start h) (opened_state config_then (pages_by_now h)) ending_then
    (λ after. ShowMaps g.L.Log Needs Does after (Lasted config first (deed (Opened name (Ok tree)) calls ∷ []) last ending left ∷ openings))
    refl (subst (λ (w : Named). EndsInNeed w ending_then) same needs) deeds in
    finds-it g.L.Log name (root_of tree_then) after config first last calls tree ending left openings has show
