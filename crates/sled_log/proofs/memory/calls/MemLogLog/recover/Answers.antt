use Rattle.sled_log.proofs.Names.{◌+◌, ℕ, List, [], ◌∷◌, map, drop, refl, sym, ◌∙◌, ap, subst, drop_all, drop_more, err_from_is_err_and, PageState, event_of, kept_in, last_in, Chain, effect_of_entry, StoredItem}
use Rattle.sled_log.specs.Inside.ShapeLaws.{AreChains, chains-are}
use Rattle.sled_log.proofs.MemCalls.{called_memory}
use Rattle.sled_log.proofs.Moments.{now_is}
use Rattle.sled_log.proofs.PageStates.{Shows}
use Rattle.sled_log.proofs.Recovering.{IsRecovering, recovers-mark, recovers-change}
use Rattle.sled_log.proofs.Sizes.{chains-sized}
use Rattle.sled_log.proofs.memory.calls.MemLogLog.recover.Goals.{in-Change+in_ok-apply, in_default}
use Rattle.sled_log.proofs.memory.calls.MemLogLog.recover.Goals as goal

pub returns-in_err-apply-clause-called : goal.returns-in_err-apply-clause-called
returns-in_err-apply-clause-called c =
    let p = err_from_is_err_and c.from_residual.result c.from_residual.ensures.1 in
    rw (p.1, p.2) (called_memory c.args.self.now c.args.self.now refl refl _ _ [] refl)

pub loop-item-preserved : goal.loop-item-preserved
loop-item-preserved c =
    let self = c.args.self.now in
    let limit = self.blob_limit in
    let bytes : List ℕ = self.bytes.items in
    let items : List StoredItem = self.items.items in
    let i = c.loop-item.item-index in
    let from : List StoredItem = c.deref-item-items.result.now in
    let x : StoredItem = c.item-item.result in
    let so_far : IsRecovering limit bytes (last_in self) items c.loop-item.place (x ∷ drop (i + 1) from) c.loop-item.pages.items =
    subst (λ (rest : List StoredItem). IsRecovering limit bytes (last_in self) items c.loop-item.place rest c.loop-item.pages.items) (drop_more from i x c.loop-item-test.true ∙ ap (λ (y : StoredItem). y ∷ drop (i + 1) from) (sym c.item-item.is)) c.loop-item.invariant in
    elim c.match-unpacked.branch [
      | in-Change+in_ok-apply w ↦
          subst (λ (l : List PageState). IsRecovering limit bytes (last_in self) items x.end (drop (i + 1) from) l) (sym (ap (λ p. p.items) w.pages-is))
          (recovers-change limit bytes (last_in self) items so_far w.in-Change.kind w.in-Change.pid w.in-Change.blob (sym c.unpacked.ensures ∙ w.in-Change.is) w.said_at-said.result w.said_at-said.ensures w.in_ok-apply.ensures)
      | in_default w ↦
          subst (λ (l : List PageState). IsRecovering limit bytes (last_in self) items x.end (drop (i + 1) from) l) (sym (ap (λ p. p.items) w.pages-is))
          (recovers-mark limit bytes (last_in self) items so_far (λ kind pid blob is. w.in_default.not-Change kind pid blob (c.unpacked.ensures ∙ is)))
    ]

pub returns-clause-pages : goal.returns-clause-pages
returns-clause-pages c =
    let self = c.args.self.now in
    let all : IsRecovering self.blob_limit self.bytes.items (last_in self) self.items.items c.loop-item.place [] c.loop-item.pages.items =
    subst (λ (rest : List StoredItem). IsRecovering self.blob_limit self.bytes.items (last_in self) self.items.items c.loop-item.place rest c.loop-item.pages.items) (drop_all c.loop-item.item-index c.deref-item-items.result.now c.loop-item-test.false) c.loop-item.invariant in
    subst (λ (l : List Chain). Shows l c.loop-item.pages.items) (all.leads ∙ sym (now_is self.clock self.stable (kept_in self) self.in_order)) all.shows

pub returns-clause-sized : goal.returns-clause-sized
returns-clause-sized c = chains-sized c.args.self.now

pub returns-clause-chains : goal.returns-clause-chains
returns-clause-chains c =
    let self = c.args.self.now in
    subst (AreChains effect_of_entry) (sym (now_is self.clock self.stable (kept_in self) self.in_order)) (chains-are effect_of_entry [] (map event_of (kept_in self)) tt)
