use Rattle.std.specs.Prelude.{get_or}
use Rattle.std.proofs.Common.{rules, ℕ, List, [], ◌≡◌, ◌+◌, true, length, take, drop, sym, ◌∙◌, ap, subst, arith}
use Rattle.std.proofs.lemmas.Bool.{eq-eqb}
use Rattle.sled_disk.specs.Journal.{is_within, are_within, IsReplayed, after_call, call_in, calls_in, all_synced, after_calls}
use Rattle.sled_disk.specs.declared.disk.journal.Call.TheVariants as stored
use Rattle.sled_disk.proofs.Disks.JournalCalls.{next, within-grows, replayed-more}
use Rattle.sled_disk.proofs.disk.memory.MemDisk.stop.Goals as goal

pub copy-requires : goal.copy-requires
copy-requires c =
    let self = c.args.self in
    let le = within-grows (length self.written.items) (length self.start.items) (length self.bytes.items) self.calls.items self.within in
    let room = self.bytes_room in
    let same = c.deref.ensures.len in
    record { room = omega (arith, le, room, same) }

pub replay-requires : goal.replay-requires
replay-requires c =
    let self = c.args.self in
    let n = next (length self.written.items) (length c.loop-call.seen.items) (length self.bytes.items) c.loop-call.call-index c.min-before.result self.written.items self.calls.items c.deref-2.result.now (stored.Write 0 0 0) c.deref-2.ensures.value c.loop-call-test.true c.loop-call.invariant.within in
    let bytes_room = self.bytes_room in
    let start_room = self.start_room in
    let seen_more = c.loop-call.invariant.seen_room in
    let left_more = c.loop-call.invariant.left_room in
    record {
      within = (ap (λ (l : List ℕ). is_within (length l) (length c.loop-call.seen.items) (get_or (take c.min-before.result c.deref-2.result.now) c.loop-call.call-index (stored.Write 0 0 0))) c.deref-in-loop-call.ensures.value ∙ n.here);
      long = c.loop-call.invariant.replayed.long;
      seen_room = omega (arith, n.room, bytes_room, seen_more);
      left_room = omega (arith, n.room, start_room, left_more);
    }

pub loop-call-preserved : goal.loop-call-preserved
loop-call-preserved c =
    let self = c.args.self in
    let i = c.loop-call.call-index in
    let n = next (length self.written.items) (length c.loop-call.seen.items) (length self.bytes.items) i c.min-before.result self.written.items self.calls.items c.deref-2.result.now (stored.Write 0 0 0) c.deref-2.ensures.value c.loop-call-test.true c.loop-call.invariant.within in
    let seen_more = c.loop-call.invariant.seen_room in
    let left_more = c.loop-call.invariant.left_room in
    let did = c.replay.ensures.replayed (after_calls (all_synced self.start.items) (take i (calls_in self.written.items self.calls.items))) c.loop-call.invariant.replayed in
    record {
      replayed =
          replayed-more c.args.fill self.start.items (calls_in self.written.items self.calls.items) i (call_in self.written.items (get_or (take c.min-before.result c.deref-2.result.now) i (stored.Write 0 0 0))) c.replay.new.seen.items c.replay.new.left.items n.one
          (subst (λ (l : List ℕ). IsReplayed c.args.fill (after_call (after_calls (all_synced self.start.items) (take i (calls_in self.written.items self.calls.items))) (call_in l (get_or (take c.min-before.result c.deref-2.result.now) i (stored.Write 0 0 0)))) c.replay.new.seen.items c.replay.new.left.items)
          c.deref-in-loop-call.ensures.value did);
      within = subst (λ len. are_within (length self.written.items) len (length self.bytes.items) (drop (i + 1) self.calls.items) ≡ true) (sym c.replay.ensures.length) n.others;
      seen_room = omega (arith, seen_more, c.replay.ensures.seen_capacity);
      left_room = omega (arith, left_more, c.replay.ensures.left_capacity);
    }

pub invariant_of-result-clause-within : goal.invariant_of-result-clause-within
invariant_of-result-clause-within c =
    let none : c.clear.new.self.items ≡ [] = search rules in
    let same = ap length (c.copy-2.ensures.items ∙ c.deref-3.ensures.value) in
    (ap (are_within (length c.clear-2.new.self.items) (length c.loop-call.left.items) (length c.copy-2.new.bytes.items)) none ∙ eq-eqb (length c.loop-call.left.items) (length c.copy-2.new.bytes.items) (sym same))

pub invariant_of-result-clause-start_room : goal.invariant_of-result-clause-start_room
invariant_of-result-clause-start_room c =
    let self = c.args.self in
    let le = within-grows (length self.written.items) (length c.loop-call.seen.items) (length self.bytes.items) (drop c.loop-call.call-index self.calls.items) c.loop-call.invariant.within in
    let len = ap length (c.copy-2.ensures.items ∙ c.deref-3.ensures.value) in
    omega (arith, le, len, c.loop-call.invariant.replayed.long, c.loop-call.invariant.left_room, self.start_room)

pub invariant_of-result-clause-bytes_room : goal.invariant_of-result-clause-bytes_room
invariant_of-result-clause-bytes_room c =
    let self = c.args.self in
    let le = within-grows (length self.written.items) (length c.loop-call.seen.items) (length self.bytes.items) (drop c.loop-call.call-index self.calls.items) c.loop-call.invariant.within in
    let len = ap length (c.copy-2.ensures.items ∙ c.deref-3.ensures.value) in
    omega (arith, le, len, c.loop-call.invariant.replayed.long, c.loop-call.invariant.seen_room, self.bytes_room, c.copy-2.ensures.capacity)
