use Rattle.sled_log.proofs.Names.{named_in, bare_event, pages_after, [], ◌≡◌, ◌+◌, ℕ, Option, None, List, length, take, drop, map, refl, sym, ◌∙◌, ap, subst, arith, true, false≢true, length-map, length-drop, take_all, drop_all, is_open, event_of, log_size, item_after_restart, state_at, IsInOrder, are_placed, LogItem, kept_in, last_came, last_in, last_settled, place_after, start_after, are_within, restarts, kept_items}
use Rattle.sled_log.proofs.Moments.{pending_events, size-restarted, log_size-restarted, left-stopped, order-restarted, pending-restarted, stable-restarted}
use Rattle.sled_log.specs.Inside.Blobs.{marks_of, are_held}
use Rattle.sled_log.specs.Moves.{Moves}
use Rattle.sled_log.proofs.Blobs.{held-stopped, marks-restarted}
use Rattle.sled_log.proofs.Waiting.{named-same}
use Rattle.sled_log.proofs.Places.{placed-take, placed-map}
use Rattle.sled_log.proofs.Stored.{came-first, kept-length, kept-stopped, last-restarted, placed-after}
use Rattle.sled_log.proofs.memory.MemLog.stop.Goals.{After-len-stable}
use Rattle.sled_log.proofs.memory.MemLog.stop.Goals as goal

pub overflow_add-stable : goal.overflow_add-stable
overflow_add-stable c =
    let self = c.args.self in
    let small = self.items.small in
    let ok = self.items.ok in
    let fewer = self.fewer in
    let within = c.requires.within in
    let all = ap length (pending_events self.clock self.stable (kept_in self) self.in_order) in
    omega (arith, length-map (drop self.stable (kept_in self)) event_of, length-drop self.stable (kept_in self), kept-length self.blob_limit self.bytes.items (last_in self) 0 0 self.items.items)

-- what is left, with the buffer cut
module _ (c : After-len-stable) where
  cut : c.truncate.new.self.items ≡ take (start_after 0 (map restarts (take (c.args.self.stable + c.args.n) c.args.self.items.items))) c.args.self.bytes.items
  cut = c.truncate.ensures.items ∙ ap (λ e. take e c.args.self.bytes.items) (c.behind-size.ensures.start ∙ ap (start_after 0) (c.deref.ensures.value ∙ c.keep_first.ensures))

  abbrev last : Option ℕ
  last = last_settled 0 c.len-stable.result c.keep_first.new.items.items

  abbrev kept : List LogItem
  kept = kept_items c.args.self.blob_limit c.truncate.new.self.items 0 c.len-stable.result c.keep_first.new.items.items

  kept_is : kept ≡ map item_after_restart (take (c.args.self.stable + c.args.n) (kept_in c.args.self))
  kept_is = let self = c.args.self in rw (c.keep_first.ensures, cut) (kept-stopped self.blob_limit self.bytes.items (last_in self) _ (self.stable + c.args.n) self.items.items self.within).0

  within : are_within 0 (length c.truncate.new.self.items) c.keep_first.new.items.items ≡ true
  within = let self = c.args.self in rw (c.keep_first.ensures, cut) (kept-stopped self.blob_limit self.bytes.items (last_in self) None (self.stable + c.args.n) self.items.items self.within).1

  placed : are_placed 0 kept ≡ true
  placed = let left : List LogItem = kept_in c.args.self in let n : ℕ = c.args.self.stable + c.args.n in ap (are_placed 0) kept_is ∙ placed-map item_after_restart (λ x. (refl, refl)) 0 (take n left) (placed-take 0 n left c.args.self.placed)

  size_is : c.behind-size.result.0 ≡ log_size kept
  size_is = let behind = placed-after c.args.self.blob_limit c.truncate.new.self.items last 0 0 c.keep_first.new.items.items placed in let e = c.behind-size.ensures.place ∙ ap (place_after 0) c.deref.ensures.value in omega arith

  -- all of it is stable
  all : c.len-stable.result ≡ length kept
  all = let long = kept-length c.args.self.blob_limit c.truncate.new.self.items last 0 0 c.keep_first.new.items.items in let len = c.len-stable.ensures in let ok = c.keep_first.new.items.ok in omega arith

pub invariant_of-result : goal.invariant_of-result
invariant_of-result c =
    let self = c.args.self in
    let left : List LogItem = take (self.stable + c.args.n) (kept_in self) in
    let is = kept_is c in
    let size = size_is c in
    let all = all c in
    let same = ap log_size is in
    let less = log_size-restarted (self.stable + c.args.n) (kept_in self) in
    let order : IsInOrder 0 (length (kept c)) (kept c) = rw is (order-restarted left) in
    record {
      within = within c;
      fewer = let len = c.len-stable.ensures in let ok = c.keep_first.new.items.ok in omega arith;
      in_order = subst (λ m. IsInOrder 0 m (kept c)) (sym all) order;
      counted = omega arith;
      timed = ap (last_came 0) c.keep_first.ensures ∙ last-restarted (take (self.stable + c.args.n) self.items.items) ∙ sym (came-first c.len-stable.result c.keep_first.new.items.items);
      sized = size;
      stable_sized = size ∙ ap log_size (sym (take_all c.len-stable.result (kept c) (omega arith)));
      fits = let fits = self.fits in let sized = self.sized in omega arith;
      placed = placed c;
      paged = c.count_pages-pages.ensures.pages ∙ ap (λ (l : List _). pages_after 0 (map bare_event l)) c.deref-2.ensures.value;
      few_pages = let few = c.count_pages-pages.ensures.few in let e = ap length c.deref-2.ensures.value in omega arith;
      cursor_within = omega arith;
      few_appended = omega arith;
      holds_blobs = ap (λ (l : List LogItem). are_held [] (marks_of l)) is ∙ held-stopped (self.stable + c.args.n) (kept_in self) self.holds_blobs;
      batch_is = ap (λ l. is_open (map event_of l)) (sym (drop_all c.len-stable.result (kept c) (omega arith)));
      room = λ no. absurd (false≢true no);
    }

pub returns : goal.returns
returns c =
    let self = c.args.self in
    let at = (goal.at.returns c).After-len-stable in
    let all = all at in
    let is = kept_is at in
    let stable = ap (λ l. (state_at 0 l).stable) is ∙ stable-restarted self.clock self.stable c.args.n (kept_in self) self.in_order in
    let size = ap log_size is ∙ size-restarted (take (self.stable + c.args.n) (kept_in self)) in
    record {
      left = left-stopped self.clock c.args.n (kept_in self) _ c.requires stable;
      stable = stable;
      pending = ap (λ l. (state_at 0 l).pending) is ∙ pending-restarted (take (self.stable + c.args.n) (kept_in self));
      size = size;
      durable = ap log_size (take_all c.len-stable.result (kept at) (omega arith)) ∙ size;
      counts = refl;
      moment = refl;
      settings = refl;
      moves = ap (λ (l : List (ℕ × ℕ)). (let m : Moves = record { waiting = l; appended = 0 } in m)) (ap named_in is ∙ named-same 0 _ (take (self.stable + c.args.n) (kept_in self)) (marks-restarted (take (self.stable + c.args.n) (kept_in self))));
    }
