-- The heads that a log keeps, whatever its disk gives.
use Rattle.std.proofs.Common.{◌≡◌, ℕ, zero, suc, ◌<◌, ◌≤◌, Bool, true, false, List, [], ◌∷◌, length, get_or, slice_index_or, sym, arith, subst}
use Rattle.std.specs.Prelude.{Some, None, if◌then◌else◌}
use Rattle.std.specs.List.{AllByRecursion}
use Rattle.sled_base.specs.declared.kinds.LogKind.{LogKind}
use Rattle.sled_base.specs.declared.kinds.LogKind.TheVariants as effects
use Rattle.sled_log.proofs.ChainLaws.{all-get, Says, AllIn, chains-all}
use Rattle.sled_log.specs.Chains.{chains_after}
use Rattle.sled_log.specs.Inside.ShapeLaws.{AreChains, chains-are}
use Rattle.sled_disk.specs.declared.recovery.head.Head.{Head}
use Rattle.sled_disk.specs.RecoveredHeads.{AreHeads, IsPlaced, EndsBy, AllEndBy}
use Rattle.sled_disk.specs.HeadLookup.{IsHeadOf}
use Rattle.sled_disk.specs.Reading.{may_stand, event_of, step_head, effect_of_head}

-- one of some of which P holds
pub all-at : {X : Type 0} (P : X → Type 0) (xs : List X) (i : ℕ) (d : X) → i < length xs → AllByRecursion P xs → P (get_or xs i d)
all-at P [] i d lt h = absurd (omega (arith, lt))
all-at P (x ∷ xs) zero d lt h = h.0
all-at P (x ∷ xs) (suc i) d lt h = all-at P xs i d (omega (arith, lt)) h.1

event-says : (P : Head → Type 0) (kind : LogKind) (id : ℕ) (head : Head) → P head → AllByRecursion (Says effect_of_head P) (event_of kind id head)
event-says P effects.Replace id head h = (h, tt)
event-says P effects.Free id head h = (h, tt)
event-says P effects.Link id head h = (h, tt)
event-says P effects.Skip id head h = tt
event-says P effects.Corrupted id head h = tt

-- a step adds its head, or none
step-is : (chains : List (List Head)) (id : ℕ) (head : Head) (after : List (List Head)) → step_head chains id head ≡ Some after → chains_after effect_of_head chains (event_of (effect_of_head head) id head) ≡ after
unfolding step_head
step-is chains id head after is = by (may_stand head.kind chains id) is
  where
    by : (may : Bool) → (if may then Some (chains_after effect_of_head chains (event_of (effect_of_head head) id head)) else None) ≡ Some after → chains_after effect_of_head chains (event_of (effect_of_head head) id head) ≡ after
    by true is = cc
    by false is = absurd cc

-- what each head has, and the one that is added, each has after it
pub step-all : (P : Head → Type 0) (chains : List (List Head)) (id : ℕ) (head : Head) (after : List (List Head)) → P head → AllIn effect_of_head P chains → step_head chains id head ≡ Some after → AllIn effect_of_head P after
step-all P chains id head after here all is =
    subst (AllIn effect_of_head P) (step-is chains id head after is) (chains-all effect_of_head P chains (event_of (effect_of_head head) id head) all (event-says P (effect_of_head head) id head here))

step-chains : (chains : List (List Head)) (id : ℕ) (head : Head) (after : List (List Head)) → AreChains effect_of_head chains → step_head chains id head ≡ Some after → AreChains effect_of_head after
step-chains chains id head after are is = subst (AreChains effect_of_head) (step-is chains id head after is) (chains-are effect_of_head chains (event_of (effect_of_head head) id head) are)

each-chain : (chains : List (List Head)) → AllByRecursion AreHeads chains → AreChains effect_of_head chains
each-chain [] h = tt
each-chain (chain ∷ chains) h = (h.0.chain, each-chain chains h.1)

each-placed : (chains : List (List Head)) → AllByRecursion AreHeads chains → AllIn effect_of_head IsPlaced chains
each-placed [] h = tt
each-placed (chain ∷ chains) h = (h.0.placed, each-placed chains h.1)

each-heads : (chains : List (List Head)) → AreChains effect_of_head chains → AllIn effect_of_head IsPlaced chains → AllByRecursion AreHeads chains
each-heads [] h p = tt
each-heads (chain ∷ chains) h p = (record { chain = h.0; placed = p.0 }, each-heads chains h.1 p.1)

-- what is kept stays heads, where a record is taken that ends below the greatest place
pub step-heads : (chains : List (List Head)) (id : ℕ) (head : Head) (after : List (List Head)) → IsPlaced head → AllByRecursion AreHeads chains → step_head chains id head ≡ Some after → AllByRecursion AreHeads after
step-heads chains id head after small h is =
    each-heads after (step-chains chains id head after (each-chain chains h) is)
    (step-all IsPlaced chains id head after small (each-placed chains h) is)

-- ---- where they end

ends-later : (a b : ℕ) (chain : List Head) → a ≤ b → AllByRecursion (EndsBy a) chain → AllByRecursion (EndsBy b) chain
ends-later a b [] le h = tt
ends-later a b (head ∷ chain) le h = (let one = h.0 in omega (arith, one, le), ends-later a b chain le h.1)

pub all-later : (a b : ℕ) (chains : List (List Head)) → a ≤ b → AllEndBy a chains → AllEndBy b chains
all-later a b [] le h = tt
all-later a b (chain ∷ chains) le h = (ends-later a b chain le h.0, all-later a b chains le h.1)

-- one record more ends at the new end
pub step-ends : (before end : ℕ) (chains : List (List Head)) (id : ℕ) (head : Head) (after : List (List Head)) → before ≤ end → EndsBy end head → AllEndBy before chains → step_head chains id head ≡ Some after → AllEndBy end after
step-ends before end chains id head after le here h is = step-all (EndsBy end) chains id head after here (all-later before end chains le h) is

-- ---- one of them

found-in : (P : Head → Type 0) (chains : List (List Head)) (pid at : ℕ) (head : Head) → AllIn effect_of_head P chains → IsHeadOf at head (slice_index_or chains pid []) → P head
found-in P chains pid at head all found = subst P (sym found.2) (all-at P (slice_index_or chains pid []) found.0 head found.1 (all-get (AllByRecursion P) pid chains [] all tt))

pub found-placed : (chains : List (List Head)) (pid at : ℕ) (head : Head) → AllByRecursion AreHeads chains → IsHeadOf at head (slice_index_or chains pid []) → IsPlaced head
found-placed chains pid at head h found = found-in IsPlaced chains pid at head (each-placed chains h) found

pub found-ends : (end : ℕ) (chains : List (List Head)) (pid at : ℕ) (head : Head) → AllEndBy end chains → IsHeadOf at head (slice_index_or chains pid []) → EndsBy end head
found-ends end chains pid at head h found = found-in (EndsBy end) chains pid at head h found
