use Rattle.std.proofs.Common.{refl, [], ◌∷◌, Ok, sym, subst}
use Rattle.sled_pagecache.specs.Opening.{opened_state}
use Rattle.sled_tree.specs.Calls.{Got, Needs, Does, EndsBeside, deed}
use Rattle.sled_tree.specs.Named.{Named}
use Rattle.sled_tree.specs.Openings.{Lasted}
use Rattle.sled_search.specs.Maps.{HasTree}
use Rattle.sled_tree.specs.Prefixes.{ShowMaps, begun_by_start, history_after_start, named_by_now, pages_by_now}
use Rattle.sled_tree.proofs.CallsReadBack.{reads-it, set-stays}
use Rattle.sled_tree.proofs.OpeningsMaps.{named-then}
use Rattle.sled_tree.proofs.calls.what_was_set_and_flushed_is_read_back.Goals as goal

pub returns : goal.returns
returns g c = λ h root key value before answer written set_calls flush_calls get_calls config_then config first_then last_then first last left_then left ending_then ending openings tree flush beside (opened, named, deeds).
    let same = sym (named-then h.named h.done (begun_by_start h) (named_by_now h)) in
    let (after, has, show) = set-stays root key value g.L.Log before written set_calls flush_calls flush (history_after_start h) (opened_state config_then (pages_by_now h)) ending_then
    (λ after. ShowMaps g.L.Log Needs Does after (Lasted config first (deed (Got root key (Ok answer)) get_calls ∷ []) last ending left ∷ openings))
    refl (subst (λ (w : Named). HasTree w.maps root) same tree) (subst (λ (w : Named). EndsBeside w root key ending_then) same beside) deeds in
    reads-it root key value g.L.Log after config first last get_calls answer ending left openings has show
