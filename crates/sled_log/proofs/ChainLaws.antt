-- What holds of everything that a log is told holds of everything in its chains.
use Rattle.sled_log.proofs.Names.{ℕ, zero, suc, Bool, true, false, cond, ◌==◌, List, [], ◌∷◌, ◌++◌, length, set, get_or, slice_set, slice_index_or, AllByRecursion, LogKind, is_empty, chain_with_link, chains_with_new, chains_with_change, chains_from, chains_after, Event, Change, Pin, Seal, Cancel}
use Rattle.sled_base.specs.declared.kinds.LogKind.TheVariants as kinds

module _ {X : Type 0} (P : X → Type 0) where
  pub all-append : (xs ys : List X) → AllByRecursion P xs → AllByRecursion P ys → AllByRecursion P (xs ++ ys)
  all-append [] ys h i = i
  all-append (x ∷ xs) ys h i = (h.0, all-append xs ys h.1 i)

  all-set : (i : ℕ) (xs : List X) (x : X) → AllByRecursion P xs → P x → AllByRecursion P (set xs i x)
  all-set i [] x h r = tt
  all-set zero (w ∷ xs) x h r = (r, h.1)
  all-set (suc i) (w ∷ xs) x h r = (h.0, all-set i xs x h.1 r)

  pub all-get : (i : ℕ) (xs : List X) (d : X) → AllByRecursion P xs → P d → P (get_or xs i d)
  all-get i [] d h r = r
  all-get zero (w ∷ xs) d h r = h.0
  all-get (suc i) (w ∷ xs) d h r = all-get i xs d h.1 r

module _ {E : Type 0} (effect : E → LogKind) (P : E → Type 0) where
  -- it holds of what an event says, and of everything in the chains
  abbrev pub Says : Event E → Type 0
  Says (Change id said) = P said
  Says Pin = Unit {0}
  Says Seal = Unit {0}
  Says Cancel = Unit {0}

  abbrev pub AllIn : List (List E) → Type 0
  AllIn chains = AllByRecursion (AllByRecursion P) chains

  all-linked : (chain : List E) (said : E) → AllByRecursion P chain → P said → AllByRecursion P (chain_with_link effect chain said)
  all-linked chain said h r = by (is_empty effect chain)
    where
      by : (b : Bool) → AllByRecursion P (cond b chain (chain ++ said ∷ []))
      by true = h
      by false = all-append P chain (said ∷ []) h (r, tt)

  all-begun : (chains : List (List E)) (id : ℕ) (said : E) → AllIn chains → P said → AllIn (chains_with_new effect chains id said)
  all-begun chains id said h r = by (id == length chains)
    where
      by : (b : Bool) → AllIn (cond b (chains ++ (said ∷ []) ∷ []) (slice_set chains id (said ∷ [])))
      by true = all-append (AllByRecursion P) chains ((said ∷ []) ∷ []) h ((r, tt), tt)
      by false = all-set (AllByRecursion P) id chains (said ∷ []) h (r, tt)

  all-changed : (kind : LogKind) (chains : List (List E)) (id : ℕ) (said : E) → AllIn chains → P said → AllIn (chains_with_change effect kind chains id said)
  all-changed kinds.Free chains id said h r = all-begun chains id said h r
  all-changed kinds.Replace chains id said h r = all-begun chains id said h r
  all-changed kinds.Link chains id said h r =
      all-set (AllByRecursion P) id chains (chain_with_link effect (slice_index_or chains id []) said) h
      (all-linked (slice_index_or chains id []) said (all-get (AllByRecursion P) id chains [] h tt) r)
  all-changed kinds.Skip chains id said h r = h
  all-changed kinds.Corrupted chains id said h r = h

  pub chains-all : (chains : List (List E)) (events : List (Event E)) → AllIn chains → AllByRecursion Says events → AllIn (chains_after effect chains events)
  chains-all chains [] h r = h
  chains-all chains (Change id said ∷ events) h r = chains-all (chains_from effect chains (Change id said)) events (all-changed (effect said) chains id said h r.0) r.1
  chains-all chains (Pin ∷ events) h r = chains-all chains events h r.1
  chains-all chains (Seal ∷ events) h r = chains-all chains events h r.1
  chains-all chains (Cancel ∷ events) h r = chains-all chains events h r.1
