use Rattle.sled_log.proofs.Names.{◌≡◌, pos, List, [], ◌∷◌, ◌++◌, refl, sym, ◌∙◌, ap, subst, slice_index_or, arith, Any, log_kind_of, MessageKind, InlineNode, chains_with_change, chains_after, Event, Change, state_of, Entry, Chain, effect_of_entry, IsAt, LogState, now}
use Rattle.sled_log.proofs.tests.reads_a_blob.Goals as goal

-- the one message that the log holds
only : (state : LogState Entry) (before : List (Event Entry)) (entry : Entry) → state.stable ≡ [] → state.pending ≡ before ++ Change 0 entry ∷ [] → before ≡ [] → entry.message.kind ≡ InlineNode → entry.place.lsn ≡ pos 0
    → Any (IsAt (pos 0) entry.place.pointer) (slice_index_or (now effect_of_entry state) 0 [])
only state before entry stable pending none kind lsn =
    let made : MessageKind → List Chain = λ kind. chains_with_change effect_of_entry (log_kind_of kind) [] 0 entry in
    let is : now effect_of_entry state ≡ (entry ∷ []) ∷ [] = ap (λ (l : List Chain). chains_after effect_of_entry l state.pending) stable ∙ ap (chains_after effect_of_entry []) (pending ∙ ap (λ (l : List (Event Entry)). l ++ Change 0 entry ∷ []) none) ∙ ap made kind in
    subst (λ (l : List Chain). Any (IsAt (pos 0) entry.place.pointer) (slice_index_or l 0 [])) (sym is)
    (0, entry, omega arith, refl, (lsn, refl))

pub read-read-requires : goal.read-read-requires
read-read-requires c =
    let made = c.in_ok-pointer.ensures in
    record { known = only (state_of c.append.new.self) _ _ (made.moves.stable ∙ ap (λ s. s.stable) c.new-log.ensures.state) made.moves.ok (ap (λ (s : LogState Entry). s.pending) c.new-log.ensures.state) refl (made.lsn ∙ ap pos c.new-log.ensures.size) }
