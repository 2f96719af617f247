use Rattle.sled_log.proofs.Names.{◌≡◌, ◌+◌, ◌-◌, ◌≤◌, ◌<◌, ℕ, true, Option, Some, None, List, length, take, get_or, refl, sym, ◌∙◌, ap, arith, slice_get, slice_get_within, slice_get_read, leb-true, MessageKind, Held, last_in, start_after, part, payload_of, blob_lies, lies}
use Rattle.sled_log.specs.declared.memory.item.LogItem.{LogItem}
use Rattle.sled_log.specs.declared.memory.item.Mark.TheVariants.{Change}
use Rattle.sled_log.proofs.Stored.{finds, within-get}
use Rattle.sled_log.proofs.memory.MemLog.message_at.Goals as goal

same-kind : (k l : MessageKind) (p q : ℕ) (a b : Option Held) → Change k p a ≡ Change l q b → k ≡ l
same-kind k l p q a b is = cc

same-blob : (k l : MessageKind) (p q : ℕ) (a b : Option Held) → Change k p a ≡ Change l q b → a ≡ b
same-blob k l p q a b is = cc

-- the item that was got stands there
stands : (items got_from : List LogItem) (at : ℕ) (got : LogItem) → got_from ≡ items → at < length got_from → got ≡ get_or got_from at got → slice_get items at ≡ Some got
stands items got_from at got same lt is = ap (λ (l : List LogItem). slice_get l at) (sym same) ∙ slice_get_read got_from (length got_from) at got refl lt is

is-it : (items : List LogItem) (at : ℕ) (got x : LogItem) → slice_get items at ≡ Some got → slice_get items at ≡ Some x → x ≡ got
is-it items at got x is there = cc

-- a payload from one place up to another
part-up : (start end : ℕ) (bytes : List ℕ) → start ≤ end → part start (start + (end - start)) bytes ≡ part start end bytes
part-up start end bytes le = ap (λ n. part start n bytes) (omega (arith, le))

pub returns-in_default-clause-told : goal.returns-in_default-clause-told
returns-in_default-clause-told c = λ item change is mark.
    let self = c.args.self.now in
    let f = finds self.blob_limit self.bytes.items (last_in self) self.items.items c.args.at item change is mark in
    let within = slice_get_within self.items.items c.args.at f.0 f.1 in
    let past = c.in_default.ensures.lookup.3 in
    let len = ap length c.deref.ensures.value in
    omega (arith, within, past, len)

pub returns-in_default-unpacked : goal.returns-in_default-unpacked
returns-in_default-unpacked c = record {
  told = λ item change is mark.
      let self = c.args.self.now in
      let f = finds self.blob_limit self.bytes.items (last_in self) self.items.items c.args.at item change is mark in
      let there = stands self.items.items c.deref.result.now c.args.at c.in-Some.item.now c.deref.ensures.value c.in-Some.ensures.lookup.3.0 c.in-Some.ensures.lookup.1 in
      c.in_default-unpacked.not-Change change.kind change.pid f.2 (c.unpacked.ensures ∙ ap (λ (x : LogItem). x.mark) (sym (is-it self.items.items c.args.at c.in-Some.item.now f.0 there f.1)) ∙ f.3);
  within = tt;
}

pub returns-in-Some-blob-clause-told : goal.returns-in-Some-blob-clause-told
returns-in-Some-blob-clause-told c = λ item change is mark.
    let self = c.args.self.now in
    let f = finds self.blob_limit self.bytes.items (last_in self) self.items.items c.args.at item change is mark in
    let there = stands self.items.items c.deref.result.now c.args.at c.in-Some.item.now c.deref.ensures.value c.in-Some.ensures.lookup.3.0 c.in-Some.ensures.lookup.1 in
    let same : Change c.in-Change.kind c.in-Change.pid c.in-Change.blob ≡ Change change.kind change.pid f.2 = sym c.in-Change.is ∙ c.unpacked.ensures ∙ ap (λ (x : LogItem). x.mark) (sym (is-it self.items.items c.args.at c.in-Some.item.now f.0 there f.1)) ∙ f.3 in
    let blob : f.2 ≡ Some c.in-Some-blob.held = sym (same-blob c.in-Change.kind change.kind c.in-Change.pid change.pid c.in-Change.blob f.2 same) ∙ c.in-Some-blob.is in (
      same-kind c.in-Change.kind change.kind c.in-Change.pid change.pid c.in-Change.blob f.2 same,
      sym (f.4 ∙ ap (payload_of self.bytes.items (part (start_after 0 (take c.args.at self.items.items)) f.0.payload_end self.bytes.items)) blob),
    )

pub returns-in-Some-blob-clause-within : goal.returns-in-Some-blob-clause-within
returns-in-Some-blob-clause-within c =
    let self = c.args.self.now in
    let x : LogItem = c.in-Some.item.now in
    let held : Held = c.in-Some-blob.held in
    let there = stands self.items.items c.deref.result.now c.args.at x c.deref.ensures.value c.in-Some.ensures.lookup.3.0 c.in-Some.ensures.lookup.1 in
    let within = within-get 0 (length self.bytes.items) c.args.at self.items.items x self.within there in
    let lies : blob_lies x.payload_end (Some held) ≡ true = ap (blob_lies x.payload_end) (sym c.in-Some-blob.is) ∙ ap (lies x.payload_end) (sym c.in-Change.is ∙ c.unpacked.ensures) ∙ within.2 in
    let ok = self.bytes.ok in
    omega (arith, leb-true (held.start + held.len) x.payload_end lies, within.1)

-- its own payload lies in the buffer
pub overflow_sub-result : goal.overflow_sub-result
overflow_sub-result c =
    let self = c.args.self.now in
    let x : LogItem = c.in-Some.item.now in
    let there = stands self.items.items c.deref.result.now c.args.at x c.deref.ensures.value c.in-Some.ensures.lookup.3.0 c.in-Some.ensures.lookup.1 in
    let within = within-get 0 (length self.bytes.items) c.args.at self.items.items x self.within there in
    let start = c.behind-start.ensures.start ∙ ap (λ (l : List LogItem). start_after 0 (take c.args.at l)) c.deref-2.ensures.value in
    omega (arith, within.0, start)

pub returns-clause-told : goal.returns-clause-told
returns-clause-told c = λ item change is mark.
    let self = c.args.self.now in
    let at = c.args.at in
    let x : LogItem = c.in-Some.item.now in
    let f = finds self.blob_limit self.bytes.items (last_in self) self.items.items at item change is mark in
    let there = stands self.items.items c.deref.result.now at x c.deref.ensures.value c.in-Some.ensures.lookup.3.0 c.in-Some.ensures.lookup.1 in
    let it : f.0 ≡ x = is-it self.items.items at x f.0 there f.1 in
    let same : Change c.in-Change.kind c.in-Change.pid c.in-Change.blob ≡ Change change.kind change.pid f.2 = sym c.in-Change.is ∙ c.unpacked.ensures ∙ ap (λ (x : LogItem). x.mark) (sym it) ∙ f.3 in
    let none : f.2 ≡ None = sym (same-blob c.in-Change.kind change.kind c.in-Change.pid change.pid c.in-Change.blob f.2 same) ∙ c.in_default-blob.is in
    let within = within-get 0 (length self.bytes.items) at self.items.items x self.within there in
    let start : c.behind-start.result.1 ≡ start_after 0 (take at self.items.items) = c.behind-start.ensures.start ∙ ap (λ (l : List LogItem). start_after 0 (take at l)) c.deref-2.ensures.value in
    let own : List ℕ = part (start_after 0 (take at self.items.items)) f.0.payload_end self.bytes.items in (
      same-kind c.in-Change.kind change.kind c.in-Change.pid change.pid c.in-Change.blob f.2 same,
      part-up c.behind-start.result.1 x.payload_end self.bytes.items (omega (arith, within.0, start))
          ∙ ap (λ n. part n x.payload_end self.bytes.items) start
          ∙ ap (λ (y : LogItem). part (start_after 0 (take at self.items.items)) y.payload_end self.bytes.items) (sym it)
          ∙ sym (f.4 ∙ ap (payload_of self.bytes.items own) none),
    )

pub returns-clause-within : goal.returns-clause-within
returns-clause-within c =
    let self = c.args.self.now in
    let x : LogItem = c.in-Some.item.now in
    let there = stands self.items.items c.deref.result.now c.args.at x c.deref.ensures.value c.in-Some.ensures.lookup.3.0 c.in-Some.ensures.lookup.1 in
    let within = within-get 0 (length self.bytes.items) c.args.at self.items.items x self.within there in
    let start = c.behind-start.ensures.start ∙ ap (λ (l : List LogItem). start_after 0 (take c.args.at l)) c.deref-2.ensures.value in
    let ok = self.bytes.ok in
    omega (arith, within.0, within.1, start)
