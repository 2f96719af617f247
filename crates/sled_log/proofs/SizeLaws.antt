-- The log sizes of what a log is told bound those of its chains.
use Rattle.sled_log.proofs.Names.{◌≤◌, ◌<◌, ◌+◌, ℕ, zero, suc, Bool, true, false, cond, ◌==◌, List, [], ◌∷◌, ◌++◌, length, set, get_or, slice_set, slice_index_or, arith, AllByRecursion, sum_by, sum_by-cons, sum_by-append, LogKind, is_empty, chain_with_link, chains_with_new, chains_with_change, chains_from, chains_after, Event, Change, Pin, Seal, Cancel}
use Rattle.sled_base.specs.declared.kinds.LogKind.TheVariants as kinds

module _ {E : Type 0} (effect : E → LogKind) (size : E → ℕ) where
  -- of a chain, of all chains, and of events
  abbrev pub chain_size : List E → ℕ
  chain_size chain = sum_by size chain

  abbrev pub chains_size : List (List E) → ℕ
  chains_size chains = sum_by chain_size chains

  abbrev pub event_size : Event E → ℕ
  event_size (Change id said) = size said
  event_size Pin = 0
  event_size Seal = 0
  event_size Cancel = 0

  abbrev pub events_size : List (Event E) → ℕ
  events_size events = sum_by event_size events

  set-size : (chains : List (List E)) (id : ℕ) (chain : List E) → chains_size (set chains id chain) + chain_size (get_or chains id []) ≤ chains_size chains + chain_size chain
  set-size [] id chain = omega arith
  set-size (c ∷ chains) zero chain = omega (arith, sum_by-cons chain_size c chains, sum_by-cons chain_size chain chains)
  set-size (c ∷ chains) (suc id) chain = omega (arith, sum_by-cons chain_size c chains, sum_by-cons chain_size c (set chains id chain), set-size chains id chain)

  linked-size : (chain : List E) (said : E) → chain_size (chain_with_link effect chain said) ≤ chain_size chain + size said
  linked-size chain said = by (is_empty effect chain)
    where
      by : (b : Bool) → chain_size (cond b chain (chain ++ said ∷ [])) ≤ chain_size chain + size said
      by true = omega arith
      by false = omega (arith, sum_by-append size chain (said ∷ []))

  begun-size : (chains : List (List E)) (id : ℕ) (said : E) → chains_size (chains_with_new effect chains id said) ≤ chains_size chains + size said
  begun-size chains id said = by (id == length chains)
    where
      by : (b : Bool) → chains_size (cond b (chains ++ (said ∷ []) ∷ []) (slice_set chains id (said ∷ []))) ≤ chains_size chains + size said
      by true = omega (arith, sum_by-append chain_size chains ((said ∷ []) ∷ []))
      by false = omega (arith, set-size chains id (said ∷ []))

  changed-size : (kind : LogKind) (chains : List (List E)) (id : ℕ) (said : E) → chains_size (chains_with_change effect kind chains id said) ≤ chains_size chains + size said
  changed-size kinds.Free chains id said = begun-size chains id said
  changed-size kinds.Replace chains id said = begun-size chains id said
  changed-size kinds.Link chains id said =
      let chain : List E = slice_index_or chains id [] in omega (arith, set-size chains id (chain_with_link effect chain said), linked-size chain said)
  changed-size kinds.Skip chains id said = omega arith
  changed-size kinds.Corrupted chains id said = omega arith

  -- no chain is larger than what was told
  pub chains_after-size : (chains : List (List E)) (events : List (Event E)) → chains_size (chains_after effect chains events) ≤ chains_size chains + events_size events
  chains_after-size chains [] = omega arith
  chains_after-size chains (Change id said ∷ events) =
      omega (arith, sum_by-cons event_size (Change id said) events, chains_after-size (chains_from effect chains (Change id said)) events, changed-size (effect said) chains id said)
  chains_after-size chains (Pin ∷ events) = let none : Event E = Pin in omega (arith, sum_by-cons event_size none events, chains_after-size chains events)
  chains_after-size chains (Seal ∷ events) = let none : Event E = Seal in omega (arith, sum_by-cons event_size none events, chains_after-size chains events)
  chains_after-size chains (Cancel ∷ events) = let none : Event E = Cancel in omega (arith, sum_by-cons event_size none events, chains_after-size chains events)

  -- each chain is at most as large as all
  pub each-below : (bound : ℕ) (chains : List (List E)) → chains_size chains < bound → AllByRecursion (λ chain. chain_size chain < bound) chains
  each-below bound [] lt = tt
  each-below bound (c ∷ chains) lt = (omega (arith, lt, sum_by-cons chain_size c chains), each-below bound chains (omega (arith, lt, sum_by-cons chain_size c chains)))
