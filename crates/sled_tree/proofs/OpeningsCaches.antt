-- A run of maps is a run of caches.
use Rattle.std.proofs.Common.{◌≡◌, inl, inr, Bool, List, [], ◌∷◌, ◌++◌, refl, ap}
use Rattle.sled_log.specs.declared.log.Log.{Ghosts}
use Rattle.sled_pagecache.specs.Cache.{Cache}
use Rattle.sled_pagecache.specs.Inside.ServedLaws.{unserved, made-unserved}
use Rattle.sled_pagecache.specs.Openings as cache
use Rattle.sled_pagecache.specs.Openings.{AreMadeServed}
use Rattle.sled_pagecache.specs.Reopening.{HoldsCrash}
use Rattle.sled_pagecache.specs.Rows.{IsMade, AreMade}
use Rattle.sled_pagecache.specs.declared.pagecache.handles.call.Answer.{Answer}
use Rattle.sled_pagecache.specs.declared.pagecache.handles.call.Call.{Call}
use Rattle.sled_tree.specs.Named.{Named}
use Rattle.sled_tree.specs.Openings.{Ending, Crashed, CrashedIn, CrashedRewriting, HandedOn, Rewritten, Opening, Refused, Lasted, CrashedInside, Leaves, IsRun}
use Rattle.sled_tree.proofs.OpeningsServed.{calls_then, deeds-served}

module _ {L : Type 0} (g : Ghosts L) where
  -- the call inside which a crash came, and those before and behind it
  pub record IsInside (old : Cache L) (calls : List (Call × Answer)) (new : Cache L) (left : L) : Type 0 where
    pub before : List (Call × Answer)
    pub call : Call
    pub answer : Answer
    pub behind : List (Call × Answer)
    pub are : calls ≡ before ++ (call, answer) ∷ behind
    pub reached : Cache L
    pub mid : Cache L
    pub made_before : AreMade g old before reached
    pub made : IsMade g reached call answer mid
    pub made_behind : AreMade g mid behind new
    pub crash : HoldsCrash g mid.log (g.moment reached.log) left

  pub inside : (old : Cache L) (calls : List (Call × Answer)) (new : Cache L) (made : AreMade g old calls new) (left : L) → CrashedInside g old calls new made left → IsInside old calls new left
  inside old [] new made left crash = absurd crash
  inside old (one ∷ calls) new (mid, is, rest) left (inl crash) =
      record { before = []; call = one.0; answer = one.1; behind = calls; are = refl; reached = old; mid = mid; made_before = refl; made = is; made_behind = rest; crash = crash }
  inside old (one ∷ calls) new (next, is, rest) left (inr crash) =
      let i = inside next calls new rest left crash in
      record { before = one ∷ i.before; call = i.call; answer = i.answer; behind = i.behind; are = ap (λ (cs : List (Call × Answer)). one ∷ cs) i.are; reached = i.reached; mid = i.mid; made_before = (next, is, i.made_before); made = i.made; made_behind = i.made_behind; crash = i.crash }

  -- how a cache ends, some calls behind the last deed
  pub record IsEnded (old : Cache L) (left : L) : Type 0 where
    pub more : List (Call × Answer)
    pub last : Cache L
    pub made : AreMadeServed g old more last
    pub ending : cache.Ending
    pub leaves : cache.Leaves g last ending left

  abbrev pub at-once : (old : Cache L) (ending : cache.Ending) (left : L) → cache.Leaves g old ending left → IsEnded old left
  at-once old ending left leaves = record { more = []; last = old; made = unserved g old; ending = ending; leaves = leaves }

  module _ {D : Type 0} (Needs : D → Named → Type 0) (Does : D → Bool → Named → Named → Type 0) where
    abbrev pub ended : (last : Cache L) (ending : Ending D) (left : L) → Leaves g Needs Does last ending left → IsEnded last left
    ended last Crashed left leaves = at-once last cache.Crashed left leaves
    ended last (CrashedIn deed) left (end, (does, same), crash) =
        let i = inside last does.calls end does.made left crash in
        record { more = i.before; last = i.reached; made = made-unserved g last i.reached i.before i.made_before; ending = cache.CrashedIn i.call i.answer; leaves = (i.mid, i.made, i.crash) }
    ended last CrashedRewriting left leaves = at-once last cache.CrashedRewriting left leaves
    ended last HandedOn left leaves = at-once last cache.HandedOn left leaves
    ended last Rewritten left leaves = at-once last cache.Rewritten left leaves

    abbrev pub caches_of : (found : L) (openings : List (Opening L D)) → IsRun g Needs Does found openings → List (cache.Opening L)
    caches_of found [] run = []
    caches_of found (Refused config result left ∷ openings) (log, stays, start, leaves, run) = cache.Refused config result left ∷ caches_of left openings run
    caches_of found (Lasted config first deeds last ending left ∷ openings) (log, stays, start, done, leaves, run) =
        let end = ended last ending left leaves in
        cache.Lasted config first (calls_then deeds end.more) end.last end.ending left ∷ caches_of left openings run

    pub run-of : (found : L) (openings : List (Opening L D)) (run : IsRun g Needs Does found openings) → cache.IsRun g found (caches_of found openings run)
    run-of found [] run = tt
    run-of found (Refused config result left ∷ openings) (log, stays, start, leaves, run) = (log, stays, start, leaves, run-of left openings run)
    run-of found (Lasted config first deeds last ending left ∷ openings) (log, stays, start, done, leaves, run) =
        let end = ended last ending left leaves in
        (log, stays, start, deeds-served g Needs Does first last end.last deeds end.more done end.made, end.leaves, run-of left openings run)
