use Rattle.sled_log.proofs.Names.{[], ℕ, Option, named_in, ◌≡◌, ◌≤◌, ◌+◌, ◌<◌, false, List, length, take, drop, map, refl, sym, ◌∙◌, ap, subst, arith, true≢false, take_all, drop_all, sum_by-take-drop, is_open, event_of, size_of_mark, log_size, items_settled_at, state_at, IsInOrder, are_placed, LogItem, kept_in, kept_from, kept_items, last_in, MemLog}
use Rattle.sled_log.proofs.MemCalls.{batch-says, called_settled, remembers_settled}
use Rattle.sled_log.proofs.Moments.{all-settled, settled_by, pending_events, order-settled, length-all_settled, log_size-all_settled, pending-settled}
use Rattle.sled_log.specs.Inside.Blobs.{marks_of, are_held}
use Rattle.sled_log.specs.Moves.{Moves}
use Rattle.sled_log.proofs.Blobs.{marks-settled}
use Rattle.sled_log.proofs.Waiting.{named-same}
use Rattle.sled_log.proofs.Places.{placed-settled}
use Rattle.sled_log.proofs.Stored.{kept-length, kept-now, pends, rests}
use Rattle.sled_log.proofs.memory.calls.MemLogLog.make_stable.Goals as goal

-- what is kept then
settled_is : (self : MemLog) (stable : ℕ) → self.stable < length self.items.items → length self.items.items ≤ stable
    → kept_items self.blob_limit self.bytes.items (self.clock + 1) stable self.items.items ≡ items_settled_at (self.clock + 1) self.stable (kept_in self)
settled_is self stable few all =
    ap (λ (o : Option ℕ). kept_from self.blob_limit self.bytes.items o 0 0 self.items.items) (rests (self.clock + 1) stable self.items.items all).0
    ∙ kept-now self.blob_limit self.bytes.items (self.clock + 1) 0 0 self.items.items
    ∙ ap (λ (o : Option ℕ). map (settled_by (self.clock + 1)) (kept_from self.blob_limit self.bytes.items o 0 0 self.items.items)) (sym (pends self.clock self.stable self.items.items few).0)
    ∙ all-settled (self.clock + 1) self.clock self.stable (kept_in self) self.in_order

-- what is pending
pending_size : (self : MemLog) → self.size ≡ self.stable_size + log_size (drop self.stable (kept_in self))
pending_size self =
    let parts : log_size (take self.stable (kept_in self)) + log_size (drop self.stable (kept_in self)) ≡ log_size (kept_in self) = sum_by-take-drop (λ (item : LogItem). size_of_mark item.mark) (kept_in self) self.stable in
    let sized = self.sized in
    let stable_sized = self.stable_sized in
    omega (arith, parts, sized, stable_sized)

pub invariant_of-self : goal.invariant_of-self
invariant_of-self c =
    let self = c.args.self.now in
    let n : ℕ = c.len-self.result in
    let kept : List LogItem = kept_items self.blob_limit self.bytes.items (self.clock + 1) n self.items.items in
    let counted = self.counted in
    let many = c.if-self-len.true in
    let one = c.len.ensures in
    let two = c.len-self.ensures in
    let ok = self.items.ok in
    let few : self.stable < length self.items.items = omega (arith, many, one, ok) in
    let past : length self.items.items ≤ n = omega (arith, two, ok) in
    let is = settled_is self n few past in
    let same = length-all_settled (self.clock + 1) self.stable (kept_in self) in
    let long = ap length is in
    let before = kept-length self.blob_limit self.bytes.items (last_in self) 0 0 self.items.items in
    let closed : self.batch ≡ false = batch-says self ∙ c.requires.closed in
    let order = order-settled self.clock (self.clock + 1) self.stable (kept_in self) (omega arith) self.in_order in
    let all : n ≡ length (kept_in self) = omega (arith, two, ok, before) in
    let sized : self.size ≡ log_size kept = self.sized ∙ sym (log_size-all_settled (self.clock + 1) self.stable (kept_in self)) ∙ ap log_size (sym is) in
    let within : length kept ≤ n = omega (arith, all, long, same) in
    record {
      within = self.within;
      fewer = omega (arith, two, ok);
      in_order = subst (λ m. IsInOrder (self.clock + 1) m kept) (sym all) (subst (λ (l : List LogItem). IsInOrder (self.clock + 1) (length (kept_in self)) l) (sym is) order);
      counted = omega (arith, counted, many, one, two, ok);
      timed = let stands = (rests (self.clock + 1) n self.items.items past).1 in let stood = (pends self.clock self.stable self.items.items few).1 in let timed = self.timed in omega (arith, stands, stood, timed);
      sized = sized;
      stable_sized = sized ∙ ap log_size (sym (take_all n kept within));
      fits = self.fits;
      placed = ap (are_placed 0) is ∙ placed-settled (self.clock + 1) self.stable 0 (kept_in self) self.placed;
      holds_blobs = ap (are_held []) (ap marks_of is ∙ marks-settled (self.clock + 1) self.stable (kept_in self)) ∙ self.holds_blobs;
      paged = self.paged;
      few_pages = self.few_pages;
      cursor_within = self.cursor_within;
      few_appended = self.few_appended;
      batch_is = closed ∙ ap (λ l. is_open (map event_of l)) (sym (drop_all n kept within));
      room = λ open'. absurd (true≢false (sym open' ∙ closed));
    }

pub returns-then-self-len : goal.returns-then-self-len
returns-then-self-len c =
    let self = c.args.self.now in
    let many = c.if-self-len.true in
    let one = c.len.ensures in
    let two = c.len-self.ensures in
    let ok = self.items.ok in
    let is = settled_is self c.len-self.result (omega (arith, many, one, ok)) (omega (arith, two, ok)) in
    record {
      called = called_settled self _ refl is _ c.requires.closed refl;
      stable = ap (λ (l : List LogItem). (state_at (self.clock + 1) l).pending) is ∙ pending-settled self.clock (self.clock + 1) self.stable (kept_in self) (omega arith) self.in_order;
      number = let pending = pending_size self in omega arith;
      size = ap log_size is ∙ log_size-all_settled (self.clock + 1) self.stable (kept_in self);
      settings = refl;
      always = refl;
      past = remembers_settled self _ refl is;
      unnamed = ap (λ (l : List (ℕ × ℕ)). (let m : Moves = record { waiting = l; appended = self.appended } in m)) (ap (λ (l : List LogItem). named_in (drop self.cursor l)) is ∙ named-same self.cursor _ (kept_in self) (marks-settled (self.clock + 1) self.stable (kept_in self)));
    }

pub returns-else-self-len-clause-number : goal.returns-else-self-len-clause-number
returns-else-self-len-clause-number c = let pending = pending_size c.args.self.now in omega (arith, pending)

pub returns-else-self-len-clause-stable : goal.returns-else-self-len-clause-stable
returns-else-self-len-clause-stable c =
    let self = c.args.self.now in
    let few = c.if-self-len.false in
    let one = c.len.ensures in
    let ok = self.items.ok in
    let long = kept-length self.blob_limit self.bytes.items (last_in self) 0 0 self.items.items in
    pending_events self.clock self.stable (kept_in self) self.in_order ∙ ap (map event_of) (drop_all self.stable (kept_in self) (omega arith))
