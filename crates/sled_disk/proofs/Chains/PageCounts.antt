-- Events make no more pages than they are.
use Rattle.std.proofs.Common.{ℕ, ◌+◌, ◌≤◌, Bool, true, false, cond, ◌==◌, List, [], ◌∷◌, ◌++◌, length, take, slice_set, slice_index_or, ap, arith}
use Rattle.std.specs.Prelude.{replicate}
use Rattle.std.proofs.lemmas.List.{length-append, length-set, length-take, length-replicate}
use Rattle.sled_base.specs.declared.kinds.LogKind.{LogKind}
use Rattle.sled_base.specs.declared.kinds.LogKind.TheVariants as kinds
use Rattle.sled_log.specs.Chains.{chain_with_link, chains_with_new, chains_with_change, chains_after}
use Rattle.sled_log.specs.Events.{Event, Change, Pin, Seal, Cancel}
use Rattle.sled_log.specs.LogState.{LogState, IsLeft}
use Rattle.sled_log.specs.Messages.{Message, Messages, effect_of}

begun-length : (pages : List Messages) (id : ℕ) (m : Message) → length (chains_with_new effect_of pages id m) ≤ length pages + 1
begun-length pages id m = by (id == length pages)
  where
    by : (b : Bool) → length (cond b (pages ++ (m ∷ []) ∷ []) (slice_set pages id (m ∷ []))) ≤ length pages + 1
    by true = omega (arith, length-append pages ((m ∷ []) ∷ []))
    by false = omega (arith, length-set pages id (m ∷ []))

changed-length : (kind : LogKind) (pages : List Messages) (id : ℕ) (m : Message) → length (chains_with_change effect_of kind pages id m) ≤ length pages + 1
changed-length kinds.Free pages id m = begun-length pages id m
changed-length kinds.Replace pages id m = begun-length pages id m
changed-length kinds.Link pages id m = omega (arith, length-set pages id (chain_with_link effect_of (slice_index_or pages id []) m))
changed-length kinds.Skip pages id m = omega arith
changed-length kinds.Corrupted pages id m = omega arith

after-length : (pages : List Messages) (events : List (Event Message)) → length (chains_after effect_of pages events) ≤ length pages + length events
after-length pages [] = omega arith
after-length pages (Change id m ∷ events) = omega (arith, after-length (chains_with_change effect_of (effect_of m) pages id m) events, changed-length (effect_of m) pages id m)
after-length pages (Pin ∷ events) = omega (arith, after-length pages events)
after-length pages (Seal ∷ events) = omega (arith, after-length pages events)
after-length pages (Cancel ∷ events) = omega (arith, after-length pages events)

-- so not all pages are left
pub not-all-left : (old : LogState Message) (events : List (Event Message)) → ((pages : List Messages) → IsLeft effect_of old events pages) → ⊥
not-all-left old events all =
    let none : Messages = [] in
    let n = length old.stable + (length old.pending + length events) + 1 in
    let many : List Messages = replicate n none in
    let left = all many in
    let begins = ap length left.beginning.1 in
    let is = ap length left.is in
    absurd (omega (arith, is, begins, length-replicate n none, after-length old.stable (take left.cut (old.pending ++ left.came)), length-take left.cut (old.pending ++ left.came), length-append old.pending left.came, length-append left.came left.beginning.0))
