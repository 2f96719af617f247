use Rattle.sled_log.proofs.Names.{◌≡◌, ◌+◌, ◌-◌, ◌<◌, get_or, ℕ, Some, None, List, ◌∷◌, length, take, drop, refl, sym, ◌∙◌, ap, arith, slice_get, length-drop, take_all, slice_get_read, kept_in, moves_of, named_in, place_after, before_change}
use Rattle.std.proofs.lemmas.Option.{slice_get_past}
use Rattle.sled_log.specs.Moves.{first_of}
use Rattle.sled_log.specs.declared.memory.item.LogItem.{LogItem}
use Rattle.sled_log.proofs.Waiting.{names-none, names-message, names-first, due-is, first-there, first-gone, pages-now}
use Rattle.sled_log.proofs.memory.calls.MemLogLog.to_move.Goals as goal

-- where the first message stands behind the cursor
counted : (items from : List LogItem) (cursor end n : ℕ) → from ≡ items → end ≡ length from → n ≡ before_change (take (end - cursor) (drop cursor from)) → n ≡ before_change (drop cursor items)
counted items from cursor end n same all count =
    count ∙ ap before_change (take_all (end - cursor) (drop cursor from) (omega (arith, all, length-drop cursor from))) ∙ ap (λ (l : List LogItem). before_change (drop cursor l)) same

stands : (items got_from : List LogItem) (at : ℕ) (got : LogItem) → got_from ≡ items → at < length got_from → got ≡ get_or got_from at got → slice_get items at ≡ Some got
stands items got_from at got same lt is = ap (λ (l : List LogItem). slice_get l at) (sym same) ∙ slice_get_read got_from (length got_from) at got refl lt is

pub returns-in_default-clause-named : goal.returns-in_default-clause-named
returns-in_default-clause-named c =
    let self = c.args.self.now in
    let at : ℕ = self.cursor + c.before_change.result in
    let count = counted self.items.items c.deref.result.now self.cursor (length c.deref.result.now) c.before_change.result c.deref.ensures.value refl c.before_change.ensures.count in
    let past = c.in_default.ensures.lookup.3 in
    let len = ap length c.deref-2.ensures.value in
    let none : slice_get self.items.items at ≡ None = slice_get_past self.items.items at (omega (arith, past, len)) in
    sym
    (due-is _ self.clean_every (moves_of self) (λ z. let some = c.if-self-eq0.false in omega arith) (let enough = c.if-self.false in omega arith)
    ∙ ap (first_of _) (names-none self c.before_change.result at count refl none))

pub returns-in_default-unpacked : goal.returns-in_default-unpacked
returns-in_default-unpacked c =
    let self = c.args.self.now in
    let at : ℕ = self.cursor + c.before_change.result in
    let count = counted self.items.items c.deref.result.now self.cursor (length c.deref.result.now) c.before_change.result c.deref.ensures.value refl c.before_change.ensures.count in
    let lookup = c.in-Some.ensures.lookup in
    absurd (names-message self c.before_change.result at count refl c.in-Some.item.now (stands self.items.items c.deref-2.result.now at c.in-Some.item.now c.deref-2.ensures.value lookup.3.0 lookup.1) (λ kind pid blob is. c.in_default-unpacked.not-Change kind pid blob (c.unpacked.ensures ∙ is)))

pub returns-then-pid-self-clause-named : goal.returns-then-pid-self-clause-named
returns-then-pid-self-clause-named c =
    let self = c.args.self.now in
    let at : ℕ = self.cursor + c.before_change.result in
    let count = counted self.items.items c.deref.result.now self.cursor (length c.deref.result.now) c.before_change.result c.deref.ensures.value refl c.before_change.ensures.count in
    let lookup = c.in-Some.ensures.lookup in
    let there = stands self.items.items c.deref-2.result.now at c.in-Some.item.now c.deref-2.ensures.value lookup.3.0 lookup.1 in
    let gone = c.if-pid-self.true in
    let pages = pages-now self in
    sym
    (due-is _ self.clean_every (moves_of self) (λ z. let some = c.if-self-eq0.false in omega arith) (let enough = c.if-self.false in omega arith)
    ∙ ap (first_of _) (names-first self c.before_change.result at count refl c.in-Some.item.now c.in-Change.kind c.in-Change.pid c.in-Change.blob there (sym c.unpacked.ensures ∙ c.in-Change.is))
    ∙ first-gone _ c.in-Change.pid (place_after 0 (take at self.items.items)) (named_in (drop (at + 1) (kept_in self))) (omega (arith, gone, pages)))

pub returns-clause-named : goal.returns-clause-named
returns-clause-named c =
    let self = c.args.self.now in
    let at : ℕ = self.cursor + c.before_change.result in
    let count = counted self.items.items c.deref.result.now self.cursor (length c.deref.result.now) c.before_change.result c.deref.ensures.value refl c.before_change.ensures.count in
    let lookup = c.in-Some.ensures.lookup in
    let there = stands self.items.items c.deref-2.result.now at c.in-Some.item.now c.deref-2.ensures.value lookup.3.0 lookup.1 in
    let held = c.if-pid-self.false in
    let pages = pages-now self in
    let place : c.behind-place.result.0 ≡ place_after 0 (take at self.items.items) = c.behind-place.ensures.place ∙ ap (λ (l : List LogItem). place_after 0 (take at l)) c.deref-3.ensures.value in
    sym
    (due-is _ self.clean_every (moves_of self) (λ z. let some = c.if-self-eq0.false in omega arith) (let enough = c.if-self.false in omega arith)
    ∙ ap (first_of _) (names-first self c.before_change.result at count refl c.in-Some.item.now c.in-Change.kind c.in-Change.pid c.in-Change.blob there (sym c.unpacked.ensures ∙ c.in-Change.is))
    ∙ first-there _ c.in-Change.pid (place_after 0 (take at self.items.items)) (named_in (drop (at + 1) (kept_in self))) (omega (arith, held, pages))
    ∙ ap (λ (n : ℕ). Some (c.in-Change.pid, n)) (sym place))

pub returns-clause-moves_on : goal.returns-clause-moves_on
returns-clause-moves_on c =
    let self = c.args.self.now in
    let at : ℕ = self.cursor + c.before_change.result in
    let count = counted self.items.items c.deref.result.now self.cursor (length c.deref.result.now) c.before_change.result c.deref.ensures.value refl c.before_change.ensures.count in
    let lookup = c.in-Some.ensures.lookup in
    let there = stands self.items.items c.deref-2.result.now at c.in-Some.item.now c.deref-2.ensures.value lookup.3.0 lookup.1 in
    let place : c.behind-place.result.0 ≡ place_after 0 (take at self.items.items) = c.behind-place.ensures.place ∙ ap (λ (l : List LogItem). place_after 0 (take at l)) c.deref-3.ensures.value in
    record {
      waiting = names-first self c.before_change.result at count refl c.in-Some.item.now c.in-Change.kind c.in-Change.pid c.in-Change.blob there (sym c.unpacked.ensures ∙ c.in-Change.is)
          ∙ ap (λ (n : ℕ). (c.in-Change.pid, n) ∷ named_in (drop (at + 1) (kept_in self))) (sym place);
      appended = refl;
    }
