-- What changes leave of chains are chains.
use Rattle.std.proofs.Common.{◌≡◌, ℕ, zero, suc, Bool, true, false, ◌&&◌, cond, ◌==◌, List, [], ◌∷◌, ◌++◌, length, set, get_or, slice_set, refl, ◌∙◌, ap}
use Rattle.std.proofs.lemmas.Bool.{false≢true}
use Rattle.std.proofs.lemmas.List.Folds.{list_all-append}
use Rattle.std.specs.List.{AllByRecursion, list_all}
use Rattle.sled_base.specs.declared.kinds.LogKind.{LogKind}
use Rattle.sled_base.specs.declared.kinds.LogKind.TheVariants as kinds
use Rattle.sled_log.specs.Chains.{is_freeing, is_linking, chain_with_link, chains_with_new, chains_with_change, chains_from, chains_after, may_follow, is_chain}
use Rattle.sled_log.specs.Events.{Event, Change, Pin, Seal, Cancel}

module _ {E : Type 0} (effect : E → LogKind) where
  abbrev pub AreChains : List (List E) → Type 0
  AreChains chains = AllByRecursion (λ chain. is_chain effect chain ≡ true) chains

  all-append : (xs ys : List (List E)) → AreChains xs → AreChains ys → AreChains (xs ++ ys)
  all-append [] ys h i = i
  all-append (x ∷ xs) ys h i = (h.0, all-append xs ys h.1 i)

  abbrev links : E → Bool
  links said = is_linking (effect said)

  linked-is : (chain : List E) (said : E) → effect said ≡ kinds.Link → is_chain effect chain ≡ true → is_chain effect (chain_with_link effect chain said) ≡ true
  linked-is [] said link h = absurd (false≢true h)
  linked-is (first ∷ rest) said link h = by (effect first) refl h
    where
      by : (kind : LogKind) → effect first ≡ kind → may_follow effect kind rest ≡ true → is_chain effect (cond (is_freeing kind) (first ∷ rest) (first ∷ (rest ++ said ∷ []))) ≡ true
      by kinds.Free is h = ap (λ kind. may_follow effect kind rest) is ∙ h
      by kinds.Replace is h =
          ap (λ kind. may_follow effect kind (rest ++ said ∷ [])) is
          ∙ list_all-append links rest (said ∷ [])
          ∙ ap (λ b. b && list_all links (said ∷ [])) h
          ∙ ap (λ kind. is_linking kind && true) link
      by kinds.Link is h = absurd (false≢true h)
      by kinds.Skip is h = absurd (false≢true h)
      by kinds.Corrupted is h = absurd (false≢true h)

  begun-are : (chains : List (List E)) (id : ℕ) (said : E) → may_follow effect (effect said) [] ≡ true → AreChains chains → AreChains (chains_with_new effect chains id said)
  begun-are chains id said begins h = by (id == length chains)
    where
      put : (i : ℕ) (chains : List (List E)) → AreChains chains → AreChains (set chains i (said ∷ []))
      put i [] h = tt
      put zero (chain ∷ chains) h = (begins, h.1)
      put (suc i) (chain ∷ chains) h = (h.0, put i chains h.1)

      by : (b : Bool) → AreChains (cond b (chains ++ (said ∷ []) ∷ []) (slice_set chains id (said ∷ [])))
      by true = all-append chains ((said ∷ []) ∷ []) h (begins, tt)
      by false = put id chains h

  linking-are : (id : ℕ) (chains : List (List E)) (said : E) → effect said ≡ kinds.Link → AreChains chains → AreChains (set chains id (chain_with_link effect (get_or chains id []) said))
  linking-are id [] said link h = tt
  linking-are zero (chain ∷ chains) said link h = (linked-is chain said link h.0, h.1)
  linking-are (suc id) (chain ∷ chains) said link h = (h.0, linking-are id chains said link h.1)

  changed-are : (kind : LogKind) (chains : List (List E)) (id : ℕ) (said : E) → effect said ≡ kind → AreChains chains → AreChains (chains_with_change effect kind chains id said)
  changed-are kinds.Free chains id said is h = begun-are chains id said (ap (λ kind. may_follow effect kind []) is) h
  changed-are kinds.Replace chains id said is h = begun-are chains id said (ap (λ kind. may_follow effect kind []) is) h
  changed-are kinds.Link chains id said is h = linking-are id chains said is h
  changed-are kinds.Skip chains id said is h = h
  changed-are kinds.Corrupted chains id said is h = h

  pub chains-are : (chains : List (List E)) (events : List (Event E)) → AreChains chains → AreChains (chains_after effect chains events)
  chains-are chains [] h = h
  chains-are chains (Change id said ∷ events) h = chains-are (chains_from effect chains (Change id said)) events (changed-are (effect said) chains id said refl h)
  chains-are chains (Pin ∷ events) h = chains-are chains events h
  chains-are chains (Seal ∷ events) h = chains-are chains events h
  chains-are chains (Cancel ∷ events) h = chains-are chains events h
