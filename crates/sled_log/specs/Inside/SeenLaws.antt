-- The chains made of what is seen of events are what is seen of the chains made, for each way of seeing that keeps what a
-- change does to its page.
use Rattle.std.proofs.Common.{◌≡◌, ℕ, Bool, true, false, cond, not, nat_lt, nat_le, ◌==◌, List, [], ◌∷◌, ◌++◌, length, map, take, drop, refl, sym, ◌∙◌, ap, subst, arith, slice_set, slice_index_or}
use Rattle.std.proofs.lemmas.List.{map-append, map-set, length-map, take-map, drop-map}
use Rattle.std.proofs.Math.ListN.{get_or-map}
use Rattle.sled_base.specs.declared.kinds.LogKind.{LogKind}
use Rattle.sled_base.specs.declared.kinds.LogKind.TheVariants as kinds
use Rattle.sled_base.specs.declared.kinds.MessageKind.{MessageKind}
use Rattle.sled_base.specs.declared.kinds.MessageKind.TheVariants as message
use Rattle.sled_log.specs.Events.{open_after, is_open, is_cancelled, IsFair, Event, Change, Pin, Seal, Cancel, seen_event, seen_events}
use Rattle.sled_log.specs.Calls.{can_append}
use Rattle.sled_log.specs.Chains.{is_freeing, is_empty, chain_with_link, chains_with_new, chains_with_change, chains_from, chains_after}
use Rattle.sled_log.specs.LogState.{LogState, now, IsPrefix, Adds, IsLeft, seen_state}

-- ---- batches and cuts

module _ {E F : Type 0} (see : E → F) where
  pub open_after-seen : (was : Bool) (events : List (Event E)) → open_after was (seen_events see events) ≡ open_after was events
  open_after-seen was [] = refl
  open_after-seen was (Change id said ∷ events) = open_after-seen was events
  open_after-seen was (Pin ∷ events) = open_after-seen true events
  open_after-seen was (Seal ∷ events) = open_after-seen false events
  open_after-seen was (Cancel ∷ events) = open_after-seen false events

  pub is_cancelled-seen : (events : List (Event E)) → is_cancelled (seen_events see events) ≡ is_cancelled events
  is_cancelled-seen [] = refl
  is_cancelled-seen (Change id said ∷ events) = is_cancelled-seen events
  is_cancelled-seen (Pin ∷ events) = is_cancelled-seen events
  is_cancelled-seen (Seal ∷ events) = refl
  is_cancelled-seen (Cancel ∷ events) = refl

  -- a fair cut is fair in what is seen
  pub IsFair-seen : (events : List (Event E)) (cut : ℕ) → IsFair events cut → IsFair (seen_events see events) cut
  IsFair-seen events cut fair = record {
    within = let w = fair.within in omega (arith, length-map events (seen_event see));
    no_part = λ o.
        ap is_cancelled (drop-map (seen_event see) cut events) ∙ is_cancelled-seen (drop cut events)
        ∙ fair.no_part (sym (ap is_open (take-map (seen_event see) cut events) ∙ open_after-seen false (take cut events)) ∙ o);
  }

  -- and the other way round
  pub IsFair-unseen : (events : List (Event E)) (cut : ℕ) → IsFair (seen_events see events) cut → IsFair events cut
  IsFair-unseen events cut fair = record {
    within = let w = fair.within in omega (arith, length-map events (seen_event see));
    no_part = λ o.
        sym (ap is_cancelled (drop-map (seen_event see) cut events) ∙ is_cancelled-seen (drop cut events))
        ∙ fair.no_part (ap is_open (take-map (seen_event see) cut events) ∙ open_after-seen false (take cut events) ∙ o);
  }

  pub IsPrefix-seen : (part events : List (Event E)) → IsPrefix part events → IsPrefix (seen_events see part) (seen_events see events)
  IsPrefix-seen part events b = (seen_events see b.0, sym (map-append (seen_event see) part b.0) ∙ ap (seen_events see) b.1)

-- ---- chains

module _ {E F : Type 0} (effect : E → LogKind) (seen_effect : F → LogKind) (see : E → F) (keeps : (said : E) → seen_effect (see said) ≡ effect said) where
  pub is_empty-seen : (chain : List E) → is_empty seen_effect (map see chain) ≡ is_empty effect chain
  is_empty-seen [] = refl
  is_empty-seen (said ∷ chain) = ap is_freeing (keeps said)

  linked-seen : (chain : List E) (said : E) → map see (chain_with_link effect chain said) ≡ chain_with_link seen_effect (map see chain) (see said)
  linked-seen chain said = by (is_empty effect chain) ∙ ap (λ b. cond b (map see chain) (map see chain ++ see said ∷ [])) (sym (is_empty-seen chain))
    where
      by : (b : Bool) → map see (cond b chain (chain ++ said ∷ [])) ≡ cond b (map see chain) (map see chain ++ see said ∷ [])
      by true = refl
      by false = map-append see chain (said ∷ [])

  begun-seen : (chains : List (List E)) (id : ℕ) (said : E) → map (map see) (chains_with_new effect chains id said) ≡ chains_with_new seen_effect (map (map see) chains) id (see said)
  begun-seen chains id said =
      by (id == length chains)
      ∙ ap (λ n. cond (id == n) (map (map see) chains ++ (see said ∷ []) ∷ []) (slice_set (map (map see) chains) id (see said ∷ []))) (sym (length-map chains (map see)))
    where
      by : (b : Bool) → map (map see) (cond b (chains ++ (said ∷ []) ∷ []) (slice_set chains id (said ∷ []))) ≡ cond b (map (map see) chains ++ (see said ∷ []) ∷ []) (slice_set (map (map see) chains) id (see said ∷ []))
      by true = map-append (map see) chains ((said ∷ []) ∷ [])
      by false = map-set (map see) chains id (said ∷ [])

  changed-seen : (kind : LogKind) (chains : List (List E)) (id : ℕ) (said : E) → map (map see) (chains_with_change effect kind chains id said) ≡ chains_with_change seen_effect kind (map (map see) chains) id (see said)
  changed-seen kinds.Free chains id said = begun-seen chains id said
  changed-seen kinds.Replace chains id said = begun-seen chains id said
  changed-seen kinds.Link chains id said =
      map-set (map see) chains id (chain_with_link effect (slice_index_or chains id []) said)
      ∙ ap (slice_set (map (map see) chains) id) (linked-seen (slice_index_or chains id []) said ∙ ap (λ (l : List F). chain_with_link seen_effect l (see said)) (sym (get_or-map (map see) chains id [])))
  changed-seen kinds.Skip chains id said = refl
  changed-seen kinds.Corrupted chains id said = refl

  pub chains_after-seen : (chains : List (List E)) (events : List (Event E)) → map (map see) (chains_after effect chains events) ≡ chains_after seen_effect (map (map see) chains) (seen_events see events)
  chains_after-seen chains [] = refl
  chains_after-seen chains (Change id said ∷ events) =
      chains_after-seen (chains_from effect chains (Change id said)) events
      ∙ ap (λ (l : List (List F)). chains_after seen_effect l (seen_events see events))
      (changed-seen (effect said) chains id said ∙ ap (λ k. chains_with_change seen_effect k (map (map see) chains) id (see said)) (sym (keeps said)))
  chains_after-seen chains (Pin ∷ events) = chains_after-seen chains events
  chains_after-seen chains (Seal ∷ events) = chains_after-seen chains events
  chains_after-seen chains (Cancel ∷ events) = chains_after-seen chains events

  -- ---- what a log adds, and its crash states

  pub now-seen : (state : LogState E) → map (map see) (now effect state) ≡ now seen_effect (seen_state see state)
  now-seen state = chains_after-seen state.stable state.pending

  -- the chains of the events up to a cut
  cut-seen : (stable : List (List E)) (pending came : List (Event E)) (cut : ℕ)
      → map (map see) (chains_after effect stable (take cut (pending ++ came))) ≡ chains_after seen_effect (map (map see) stable) (take cut (seen_events see pending ++ seen_events see came))
  cut-seen stable pending came cut =
      chains_after-seen stable (take cut (pending ++ came))
      ∙ ap (chains_after seen_effect (map (map see) stable)) (sym (take-map (seen_event see) cut (pending ++ came)) ∙ ap (take cut) (map-append (seen_event see) pending came))

  fair-seen : (pending came : List (Event E)) (cut : ℕ) → IsFair (pending ++ came) cut → IsFair (seen_events see pending ++ seen_events see came) cut
  fair-seen pending came cut fair = subst (λ (l : List (Event F)). IsFair l cut) (map-append (seen_event see) pending came) (IsFair-seen see (pending ++ came) cut fair)

  pub Adds-seen : (old new : LogState E) (events : List (Event E)) → Adds effect old events new → Adds seen_effect (seen_state see old) (seen_events see events) (seen_state see new)
  Adds-seen old new events a = record {
    cut = a.cut;
    fair = fair-seen old.pending events a.cut a.fair;
    stable = ap (map (map see)) a.stable ∙ cut-seen old.stable old.pending events a.cut;
    pending = ap (seen_events see) a.pending ∙ sym (drop-map (seen_event see) a.cut (old.pending ++ events)) ∙ ap (drop a.cut) (map-append (seen_event see) old.pending events);
  }

  pub IsLeft-seen : (old : LogState E) (events : List (Event E)) (pages : List (List E)) → IsLeft effect old events pages → IsLeft seen_effect (seen_state see old) (seen_events see events) (map (map see) pages)
  IsLeft-seen old events pages left = record {
    came = seen_events see left.came;
    beginning = IsPrefix-seen see left.came events left.beginning;
    cut = left.cut;
    fair = fair-seen old.pending left.came left.cut left.fair;
    is = ap (map (map see)) left.is ∙ cut-seen old.stable old.pending left.came left.cut;
  }

  -- ---- what may be appended

  pub can_append-seen : (chains : List (List E)) (pid : ℕ) (kind : MessageKind) → can_append seen_effect (map (map see) chains) pid kind ≡ can_append effect chains pid kind
  can_append-seen chains pid message.Free = ap (nat_lt pid) (length-map chains (map see))
  can_append-seen chains pid message.Counter = ap (nat_le pid) (length-map chains (map see))
  can_append-seen chains pid message.InlineMeta = ap (nat_le pid) (length-map chains (map see))
  can_append-seen chains pid message.InlineNode = ap (nat_le pid) (length-map chains (map see))
  can_append-seen chains pid message.InlineLink = ap not (ap (is_empty seen_effect) (get_or-map (map see) chains pid []) ∙ is_empty-seen (slice_index_or chains pid []))
  can_append-seen chains pid message.Corrupted = refl
  can_append-seen chains pid message.Canceled = refl
  can_append-seen chains pid message.Cap = refl
  can_append-seen chains pid message.BatchManifest = refl
  can_append-seen chains pid message.BlobMeta = refl
  can_append-seen chains pid message.BlobNode = refl
  can_append-seen chains pid message.BlobLink = refl
