use Rattle.sled_log.proofs.Names.{◌≡◌, ◌-◌, List, length, take, drop, map, sym, ◌∙◌, ap, subst, take_rest, MessageKind, IsFair, Event, seen_event, kept_in, last_in, state_of, IsFair-seen, IsFair-unseen, bare_event}
use Rattle.sled_log.specs.declared.memory.item.LogItem.{LogItem}
use Rattle.sled_log.proofs.Moments.{pending_events}
use Rattle.sled_log.proofs.Stored.{kind_of, bare-drop}
use Rattle.sled_log.proofs.memory.MemLog.is_fair.Goals as goal

pub returns : goal.returns
returns c =
    let self = c.args.self.now in
    let all = c.deref.result.now in
    let part : take (length all - self.stable) (drop self.stable all) ≡ drop self.stable self.items.items = take_rest all self.stable ∙ ap (λ (l : List LogItem). drop self.stable l) c.deref.ensures.value in
    let is : map bare_event (take (length all - self.stable) (drop self.stable all)) ≡ map (seen_event kind_of) (state_of self).pending =
    ap (map bare_event) part ∙ bare-drop self.blob_limit self.bytes.items (last_in self) self.stable 0 0 self.items.items ∙ ap (map (seen_event kind_of)) (sym (pending_events self.clock self.stable (kept_in self) self.in_order)) in (
      λ h. IsFair-unseen kind_of (state_of self).pending c.args.n (subst (λ (l : List (Event MessageKind)). IsFair l c.args.n) is (c.is_fair_cut.ensures.0 h)),
      λ h. c.is_fair_cut.ensures.1 (subst (λ (l : List (Event MessageKind)). IsFair l c.args.n) (sym is) (IsFair-seen kind_of (state_of self).pending c.args.n h)),
    )
