use Rattle.sled_log.proofs.Names.{named_by, named_in, lies, mark_in, bare_event, bare_event_of, size_of_stored, pages_after, ◌≡◌, ◌+◌, ◌≤◌, ◌<◌, ℕ, true, false, Option, None, List, [], ◌∷◌, ◌++◌, length, take, drop, map, refl, sym, ◌∙◌, ap, subst, arith, le-leb, and_from, eq-eqb, false≢true, length-append, take-append-le, drop-append-le, map-append, sum_by-append, err_from_is_err_and, is_open, open_after, event_of, event_of_mark, size_of_mark, is_waiting, log_size, stands_at, is_placed, are_placed, state_at, IsInOrder, open_after-append, IsFair-none, effect_of_entry, Adds, Mark, LogItem, came_by, kept_in, state_of, are_within, kept_from, kept_item, kept_items, last_came, last_in, StoredItem}
use Rattle.sled_log.proofs.MemCalls.{batch-says, called_ok, called_memory}
use Rattle.sled_log.specs.Inside.Blobs.{marks_of, are_held}
use Rattle.sled_log.specs.Moves.{Moves}
use Rattle.sled_log.proofs.Blobs.{held-push}
use Rattle.sled_log.proofs.Waiting.{waiting-push, pages-push, one-page, lies-longer}
use Rattle.sled_log.proofs.Stored.{follows-clock, kept-add, kept-length, last-pushed, new-pends, pends, within-push, stands-at, size-stored}
use Rattle.sled_log.proofs.Moments.{order-push, stable-push, pending-push, state_at-push}
use Rattle.sled_log.proofs.Places.{placed-push}
use Rattle.sled_log.proofs.memory.MemLog.add.Goals.{After-push}
use Rattle.sled_log.proofs.memory.MemLog.add.Goals as goal

abbrev moves_of_list : List (ℕ × ℕ) → ℕ → Moves
moves_of_list waiting appended = record { waiting = waiting; appended = appended }

-- the item that is added
abbrev item_at : ℕ → ℕ → Mark → LogItem
item_at clock size mark = record { mark = mark; end = size; came = clock + 1; settled = None }

log_size-push : (items : List LogItem) (clock size : ℕ) (mark : Mark) → log_size (items ++ item_at clock size mark ∷ []) ≡ log_size items + size_of_mark mark
log_size-push items clock size mark =
    let parts : log_size (items ++ item_at clock size mark ∷ []) ≡ log_size items + (0 + size_of_mark mark) = sum_by-append (λ (item : LogItem). size_of_mark item.mark) items (item_at clock size mark ∷ []) in
    omega (arith, parts)

open-push : (stable clock size : ℕ) (items : List LogItem) (mark : Mark) → stable ≤ length items → is_open (map event_of (drop stable (items ++ item_at clock size mark ∷ []))) ≡ open_after (is_open (map event_of (drop stable items))) (event_of_mark mark ∷ [])
open-push stable clock size items mark le =
    ap (λ (l : List LogItem). is_open (map event_of l)) (drop-append-le stable items (item_at clock size mark ∷ []) le)
    ∙ ap is_open (map-append event_of (drop stable items) (item_at clock size mark ∷ []))
    ∙ open_after-append false (map event_of (drop stable items)) (event_of_mark mark ∷ [])

placed : (clock size : ℕ) (items : List LogItem) (mark : Mark) → size ≡ log_size items + size_of_mark mark → are_placed 0 items ≡ true → stands_at (log_size items) mark ≡ true → are_placed 0 (items ++ item_at clock size mark ∷ []) ≡ true
placed clock size items mark is all stands =
    placed-push 0 items (item_at clock size mark) all
    (subst (λ n. is_placed n (item_at clock size mark) ≡ true) (let e : log_size items ≡ 0 + log_size items = omega arith in e)
    (and_from (stands_at (log_size items) mark) _ stands (eq-eqb size (log_size items + size_of_mark mark) is)))

-- where memory is refused nothing is added
pub invariant_of-self : goal.invariant_of-self
invariant_of-self c =
    let self = c.args.self.now in
    let same = c.reserve.ensures.items in
    let len = c.reserve.ensures.len in
    let more = c.reserve.ensures.capacity in
    let long = ap length same in
    let kept : (List StoredItem → List LogItem) = λ l. kept_items self.blob_limit self.bytes.items self.clock self.stable l in
    record {
      within = ap (λ (l : List StoredItem). are_within 0 (length self.bytes.items) l) same ∙ self.within;
      fewer = let n = self.fewer in omega arith;
      in_order = subst (λ (l : List StoredItem). IsInOrder self.clock self.stable (kept l)) (sym same) self.in_order;
      counted = let n = self.counted in omega arith;
      timed = ap (last_came 0) same ∙ self.timed ∙ ap (λ (l : List StoredItem). came_by self.clock self.stable l) (sym same);
      sized = self.sized ∙ ap (λ (l : List StoredItem). log_size (kept l)) (sym same);
      stable_sized = self.stable_sized ∙ ap (λ (l : List StoredItem). log_size (take self.stable (kept l))) (sym same);
      fits = self.fits;
      placed = ap (λ (l : List StoredItem). are_placed 0 (kept l)) same ∙ self.placed;
      batch_is = self.batch_is ∙ ap (λ (l : List StoredItem). is_open (map event_of (drop self.stable (kept l)))) (sym same);
      holds_blobs = ap (λ (l : List StoredItem). are_held [] (marks_of (kept l))) same ∙ self.holds_blobs;
      paged = self.paged ∙ ap (λ (l : List StoredItem). pages_after 0 (map bare_event l)) (sym same);
      few_pages = let w = self.few_pages in omega arith;
      cursor_within = let w = self.cursor_within in omega arith;
      few_appended = let w = self.few_appended in omega arith;
      room = λ b. let r = self.room b in omega arith;
    }

pub returns-in_err-reserve-clause-called : goal.returns-in_err-reserve-clause-called
returns-in_err-reserve-clause-called c =
    let self = c.args.self.now in
    let p = err_from_is_err_and c.from_residual.result c.from_residual.ensures.1 in
    rw (p.1, p.2) (called_memory self _ refl (ap (λ (l : List StoredItem). kept_items self.blob_limit self.bytes.items self.clock self.stable l) c.reserve.ensures.items) _ _ _ refl)

pub returns-in_err-reserve-clause-always : goal.returns-in_err-reserve-clause-always
returns-in_err-reserve-clause-always c = λ opened closed none.
    let room = c.args.self.now.room (batch-says c.args.self.now ∙ opened) in
    let one = c.room_for.ensures.closed closed in
    absurd (false≢true (c.in_err-reserve.ensures.always (omega arith)))

pub returns-in_err-reserve-2-clause-called : goal.returns-in_err-reserve-2-clause-called
returns-in_err-reserve-2-clause-called c =
    let self = c.args.self.now in
    let p = err_from_is_err_and c.from_residual-in_err-reserve-2.result c.from_residual-in_err-reserve-2.ensures.1 in
    rw (p.1, p.2) (called_memory self _ refl (ap (λ (l : List StoredItem). kept_items self.blob_limit c.reserve-2.new.items.items self.clock self.stable l) c.reserve.ensures.items ∙ ap (λ (b : List ℕ). kept_items self.blob_limit b self.clock self.stable self.items.items) c.reserve-2.ensures.items) _ _ _ refl)

-- the blob that it names lies in the buffer
within_buffer : (c : After-push) → lies (length c.args.self.now.bytes.items) c.args.mark ≡ true
within_buffer c = let ok = c.args.self.now.bytes.ok in subst (λ n. lies n c.args.mark ≡ true) (omega arith) c.requires.lies

-- its log size
stored_size : (c : After-push) → c.size.result ≡ size_of_stored c.args.mark (length c.args.payload.now)
stored_size c = c.size.ensures ∙ ap (λ m. size_of_stored m (length c.args.payload.now)) c.unpacked-told.ensures

size_is : (c : After-push) → c.size.result ≡ size_of_mark (mark_in c.args.self.now c.args.mark c.args.payload.now)
size_is c = let self = c.args.self.now in stored_size c ∙ sym (size-stored self.blob_limit self.bytes.items self.size c.args.payload.now c.args.mark (within_buffer c))

pages_behind : (c : After-push) → c.pages_behind-self.result ≡ pages_after c.args.self.now.pages (bare_event_of c.args.mark ∷ [])
pages_behind c = c.pages_behind-self.ensures ∙ ap (λ m. pages_after c.args.self.now.pages (bare_event_of m ∷ [])) c.unpacked-told.ensures

-- what is stored then, and what is kept
abbrev added_item : After-push → StoredItem
added_item c = record { mark = c.args.mark; end = c.args.self.now.size + c.size.result; payload_end = c.len.result + length c.args.payload.now; came = c.args.self.now.clock + 1 }

pushed : (c : After-push) → c.push.new.items.items ≡ c.args.self.now.items.items ++ added_item c ∷ []
pushed c = c.push.ensures.items ∙ ap (λ (l : List StoredItem). l ++ added_item c ∷ []) c.reserve.ensures.items

longer : (c : After-push) → c.push.new.bytes.items ≡ c.args.self.now.bytes.items ++ c.args.payload.now
longer c = c.push.ensures.bytes ∙ ap (λ (l : List ℕ). l ++ c.args.payload.now) c.reserve-2.ensures.items

ends : (c : After-push) → (added_item c).payload_end ≡ length c.args.self.now.bytes.items + length c.args.payload.now
ends c = let l = c.len.ensures in let e = ap length c.reserve-2.ensures.items in let ok = c.reserve-2.new.items.ok in omega arith

abbrev new_mark : After-push → Mark
new_mark c = mark_in c.args.self.now c.args.mark c.args.payload.now

abbrev new_kept : After-push → List LogItem
new_kept c = kept_items c.args.self.now.blob_limit c.push.new.bytes.items (c.args.self.now.clock + 1) c.args.self.now.stable c.push.new.items.items

abbrev new_item : After-push → LogItem
new_item c = item_at c.args.self.now.clock (c.args.self.now.size + c.size.result) (new_mark c)

waits : (c : After-push) → is_waiting (c.args.self.now.clock + 1) (new_item c) ≡ true
waits c = let clock = c.args.self.now.clock in and_from _ _ (le-leb (clock + 1) (clock + 1) (omega arith)) refl

-- there is one item more than before
more : (c : After-push) → c.args.self.now.stable < length c.push.new.items.items
more c = let self = c.args.self.now in let fewer = self.fewer in let long = ap length (pushed c) in omega (arith, fewer, long, length-append self.items.items (added_item c ∷ []))

kept : (c : After-push) → new_kept c ≡ kept_in c.args.self.now ++ new_item c ∷ []
kept c =
    let self = c.args.self.now in
    ap (λ (o : Option ℕ). kept_from self.blob_limit c.push.new.bytes.items o 0 0 c.push.new.items.items) (pends (self.clock + 1) self.stable c.push.new.items.items (more c)).0
    ∙ ap (λ (l : List StoredItem). kept_from self.blob_limit c.push.new.bytes.items None 0 0 l) (pushed c)
    ∙ ap (λ (b : List ℕ). kept_from self.blob_limit b None 0 0 (self.items.items ++ added_item c ∷ [])) (longer c)
    ∙ kept-add self.blob_limit self.bytes.items c.args.payload.now (last_in self) self.size self.items.items (added_item c) self.within self.placed self.sized (ends c) (within_buffer c) (follows-clock self.clock self.stable self.items.items self.timed)
    ∙ ap (λ (o : Option ℕ). kept_in self ++ kept_item self.blob_limit self.bytes.items self.size c.args.payload.now o (added_item c) ∷ []) (new-pends self.clock)

pub invariant_of-self-2 : goal.invariant_of-self-2
invariant_of-self-2 c =
    let self = c.args.self.now in
    let old : List LogItem = kept_in self in
    let x : StoredItem = added_item c in
    let is = kept c in
    let long = ap length (pushed c) in
    let longer_by = length-append self.items.items (x ∷ []) in
    let sized : self.size + c.size.result ≡ log_size old + size_of_mark (new_mark c) = ap (λ n. self.size + n) (size_is c) ∙ ap (λ n. n + size_of_mark (new_mark c)) self.sized in
    record {
      within = ap (λ (l : List StoredItem). are_within 0 (length c.push.new.bytes.items) l) (pushed c) ∙ ap (λ n. are_within 0 n (self.items.items ++ x ∷ [])) (ap length (longer c) ∙ length-append self.bytes.items c.args.payload.now) ∙ within-push 0 (length self.bytes.items) (length c.args.payload.now) self.items.items x self.within (ends c) (lies-longer (length self.bytes.items) (length c.args.payload.now) c.args.mark (within_buffer c));
      fewer = let n = self.fewer in omega arith;
      in_order = subst (λ (l : List LogItem). IsInOrder (self.clock + 1) self.stable l) (sym is) (order-push self.clock (self.clock + 1) self.stable old (omega arith) self.in_order (new_item c) (waits c));
      counted = let n = self.counted in omega arith;
      timed = ap (last_came 0) (pushed c) ∙ last-pushed (λ (item : StoredItem). item.came) 0 self.items.items x ∙ sym (pends (self.clock + 1) self.stable c.push.new.items.items (more c)).1;
      sized = sized ∙ sym (log_size-push old self.clock (self.size + c.size.result) (new_mark c)) ∙ ap log_size (sym is);
      stable_sized = self.stable_sized ∙ ap log_size (sym (take-append-le self.stable old (new_item c ∷ []) self.in_order.within) ∙ ap (take self.stable) (sym is));
      fits = let f = c.requires.fits in let e = stored_size c in omega arith;
      placed = ap (are_placed 0) is ∙ placed self.clock _ old (new_mark c) sized self.placed (stands-at self.blob_limit self.bytes.items c.args.payload.now c.args.mark (sym self.sized));
      holds_blobs = ap (are_held []) (ap marks_of is ∙ map-append (λ (item : LogItem). item.mark) old (new_item c ∷ [])) ∙ held-push [] (marks_of old) (new_mark c) self.holds_blobs c.requires.held;
      paged = pages_behind c ∙ pages-push self.items.items x c.push.new.items.items self.pages (pushed c) self.paged;
      few_pages = let w = self.few_pages in let e = pages_behind c in let one = one-page self.pages c.args.mark in omega arith;
      cursor_within = let w = self.cursor_within in omega arith;
      few_appended = let w = self.few_appended in let one = c.messages.ensures.few in omega arith;
      batch_is = c.requires.batch ∙ ap (λ b. open_after b (event_of_mark (new_mark c) ∷ [])) self.batch_is ∙ sym (open-push self.stable _ _ old (new_mark c) self.in_order.within) ∙ ap (λ (l : List LogItem). is_open (map event_of (drop self.stable l))) (sym is);
      room = λ b. let two = c.room_for.ensures.open b in let there = c.in_ok-reserve.ensures.ok in let same = c.push.ensures.capacity in let then = c.push.new.items.ok in let ok = self.items.ok in let len = c.reserve.ensures.len in omega arith;
    }

-- what an item that waits adds to the log
module _ (c : After-push) where
  adds : Adds effect_of_entry (state_of c.args.self.now) (event_of_mark (new_mark c) ∷ []) (state_at (c.args.self.now.clock + 1) (new_kept c))
  adds =
      let self = c.args.self.now in
      record {
        cut = 0;
        fair = IsFair-none _;
        stable = ap (λ (l : List LogItem). (state_at (self.clock + 1) l).stable) (kept c) ∙ stable-push self.clock (self.clock + 1) self.stable (kept_in self) (omega arith) self.in_order (new_item c) (waits c);
        pending = ap (λ (l : List LogItem). (state_at (self.clock + 1) l).pending) (kept c) ∙ pending-push self.clock (self.clock + 1) self.stable (kept_in self) (omega arith) self.in_order (new_item c) (waits c);
      }

  before : (moment : ℕ) → moment ≤ c.args.self.now.clock → state_at moment (new_kept c) ≡ state_at moment (kept_in c.args.self.now)
  before moment le = ap (state_at moment) (kept c) ∙ state_at-push moment (kept_in c.args.self.now) (new_item c) (omega (arith, le))

pub returns-clause-past : goal.returns-clause-past
returns-clause-past c = record { later = omega arith; one = omega arith; past = before (goal.at.returns-clause-past c).After-push }

pub returns-clause-called : goal.returns-clause-called
returns-clause-called c =
    called_ok c.args.self.now _ tt _ _ _ refl (adds (goal.at.returns-clause-called c).After-push) (returns-clause-past c) refl

pub returns-clause-moves : goal.returns-clause-moves
unfolding adds
returns-clause-moves c =
    let adds = adds (goal.at.returns-clause-moves c).After-push in record { settings = refl; stable = adds.stable; ok = adds.pending; err = tt }

pub returns-clause-named : goal.returns-clause-named
returns-clause-named c =
    let self = c.args.self.now in
    let at = (goal.at.returns-clause-named c).After-push in
    let le : self.cursor ≤ length (kept_in self) = let w = self.cursor_within in omega (arith, kept-length self.blob_limit self.bytes.items (last_in self) 0 0 self.items.items) in
    ap (λ (l : List (ℕ × ℕ)). moves_of_list l (self.appended + at.messages.result)) (waiting-push self.cursor (kept_in self) (new_item at) (new_kept at) (kept at) le)
    ∙ ap (λ n. moves_of_list (named_in (drop self.cursor (kept_in self)) ++ named_by (new_mark at)) (self.appended + n)) (at.messages.ensures.count self.blob_limit self.size self.bytes.items c.args.payload.now ∙ ap (λ m. length (named_by (mark_in self m c.args.payload.now))) at.unpacked-told.ensures)
