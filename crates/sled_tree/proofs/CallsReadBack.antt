-- What was set and flushed is read back by the next opening.
use Rattle.std.proofs.Common.{◌≡◌, ℕ, true, false, List, [], ◌∷◌, Option, Some, Ok, refl, sym, ◌∙◌, ap, subst}
use Rattle.sled_base.specs.Order.{Bytes}
use Rattle.sled_log.specs.Contents.{Update}
use Rattle.sled_log.specs.Events.{Event}
use Rattle.sled_log.specs.declared.log.Log.{Ghosts}
use Rattle.sled_node.specs.Pairs.{set_pair}
use Rattle.sled_pagecache.specs.Cache.{Cache}
use Rattle.sled_pagecache.specs.Rows as row
use Rattle.sled_pagecache.specs.State.{State}
use Rattle.sled_pagecache.specs.declared.pagecache.handles.call.Answer.{Answer}
use Rattle.sled_pagecache.specs.declared.pagecache.handles.call.Call.{Call}
use Rattle.sled_pagecache.specs.declared.pagecache.handles.config.Config.{Config}
use Rattle.sled_search.specs.Map.{Map, at_key}
use Rattle.sled_search.specs.Maps.{HasTree}
use Rattle.sled_search.proofs.Edits.{at-set}
use Rattle.sled_search.proofs.Together.{same-map}
use Rattle.sled_tree.specs.Calls.{MapCall, Got, Inserted, Flushed, Needs, Does, EndsBeside, deed}
use Rattle.sled_tree.specs.Named.{Named, with_map_at}
use Rattle.sled_tree.specs.Openings.{Deed, Ending, Crashed, CrashedIn, CrashedRewriting, HandedOn, Rewritten, Opening, Lasted}
use Rattle.sled_tree.specs.Prefixes.{History, Makes, ShowDeeds, ShowEnd, ShowMaps, flushes, history_after, begun_by_start, named_by_now}
use Rattle.sled_tree.proofs.CallsFlushed.{IsInside, ended-has, flushed-there, makes-same}
use Rattle.sled_tree.proofs.CallsKeys.{HasValue, set-has, makes-has, needs-still}
use Rattle.sled_tree.proofs.OpeningsMaps.{named-then}

module _ (root : ℕ) (key value : Bytes) where
  abbrev Has : Named → Type 0
  Has = HasValue root key value

  -- ---- setting, flushing and reading

  -- a deed more, behind which the names and maps are the others
  now-named : (h : History) (one : Deed MapCall) (changes : List (Event Update)) (w : Named) → named_by_now (history_after one changes w h) ≡ w
  now-named h one changes w = named-then h.named h.done changes w

  beside-still : (w : Named) (m : Map) (ending : Ending MapCall) → EndsBeside w root key ending → EndsBeside (with_map_at root m w) root key ending
  beside-still w m (CrashedIn what) (needs, leaves) = (needs-still what.what w (with_map_at root m w) root m refl needs, leaves)
  beside-still w m Crashed beside = tt
  beside-still w m CrashedRewriting beside = tt
  beside-still w m HandedOn beside = tt
  beside-still w m Rewritten beside = tt

  -- a crash inside a call that leaves the key
  inside : (w : Named) (ending : Ending MapCall) → EndsBeside w root key ending → Has w → IsInside Has w ending
  inside w (CrashedIn what) (needs, leaves) has = (needs, λ before fault new makes. makes-has root key value what.what before fault w new leaves makes has)
  inside w Crashed beside has = tt
  inside w CrashedRewriting beside has = tt
  inside w HandedOn beside has = tt
  inside w Rewritten beside has = tt

  module _ {L : Type 0} (g : Ghosts L) where
    -- the first deed of an opening reads it
    pub reads-it : (h : History) (config : Config) (first last : Cache L) (calls : List (Call × Answer)) (answer : Option Bytes) (ending : Ending MapCall) (left : L) (openings : List (Opening L MapCall))
        → Has (named_by_now h) → ShowMaps g Needs Does h (Lasted config first (deed (Got root key (Ok answer)) calls ∷ []) last ending left ∷ openings) → answer ≡ Some value
    reads-it h config first last calls answer ending left openings has (opened, named, deeds) =
        let (m, at, is) = subst Has (sym (named-then h.named h.done (begun_by_start h) (named_by_now h))) has in
        let (outs, t, runs, w, (kept, (n, there, so)), end) = deeds (m, at) in
        so ∙ ap (λ (x : Map). at_key x key) (same-map n m (sym there ∙ at)) ∙ is

    module _ (before : Option Bytes) (written : ℕ) (set_calls flush_calls : List (Call × Answer)) (flush : flushes flush_calls ≡ true) where
      abbrev set : Deed MapCall
      set = deed (Inserted root key value (Ok before)) set_calls

      abbrev flushed : Deed MapCall
      flushed = deed (Flushed (Ok written)) flush_calls

      -- setting and flushing, and then the end of the opening
      pub set-stays : (h : History) (s : State) (ending : Ending MapCall) (Then : History → Type 0) → s.fault ≡ false → HasTree (named_by_now h).maps root → EndsBeside (named_by_now h) root key ending
          → ShowDeeds g Needs Does h s (set ∷ flushed ∷ []) (λ behind u. ShowEnd Needs Does u behind ending Then) → (after : History) × Has (named_by_now after) × Then after
      set-stays h s ending Then free tree beside deeds =
          let (outs, t, runs, w, makes, rest) = deeds tree in
          let (m, at, (was, is)) = subst (λ b. Makes Does b set.what t.fault (named_by_now h) w) free makes in
          let (outs2, u, runs2, w2, makes2, end) = rest tt in
          let one = history_after set (row.changes_of outs) w h in
          let now : named_by_now one ≡ with_map_at root (set_pair key value m) (named_by_now h) = now-named h set (row.changes_of outs) w ∙ is in
          let same : w2 ≡ with_map_at root (set_pair key value m) (named_by_now h) = makes-same t.fault u.fault (Ok written) (named_by_now one) w2 makes2 ∙ now in
          let has = set-has root key value (named_by_now h) (named_by_now one) (set_pair key value m) now (at-set key m value) in
          let has2 = set-has root key value (named_by_now h) w2 (set_pair key value m) same (at-set key m value) in
          let two = history_after flushed (row.changes_of outs2) w2 one in
          let then : named_by_now two ≡ with_map_at root (set_pair key value m) (named_by_now h) = now-named one flushed (row.changes_of outs2) w2 ∙ same in
          let there = set-has root key value (named_by_now h) (named_by_now two) (set_pair key value m) then (at-set key m value) in
          ended-has Has u two ending Then (flushed-there Has one flushed (row.changes_of outs2) w2 flush has has2) there
          (inside (named_by_now two) ending (subst (λ (v : Named). EndsBeside v root key ending) (sym then) (beside-still (named_by_now h) (set_pair key value m) ending beside)) there) end
