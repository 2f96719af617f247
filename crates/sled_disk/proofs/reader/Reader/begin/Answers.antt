use Rattle.std.proofs.Common.{◌≡◌, ◌+◌, ◌-◌, ◌≤◌, ◌∙◌, ℕ, true, not, List, length, take, drop, ap, sym, arith}
use Rattle.std.specs.Cmp.Lexicographic.{bytes_decides}
use Rattle.std.specs.Global.{Vec}
use Rattle.sled_disk.specs.declared.recovery.head.Head.{Head}
use Rattle.sled_disk.specs.Format.{opening}
use Rattle.sled_disk.specs.UnreadBytes.{left_at}
use Rattle.sled_disk.specs.Format.{outside}
use Rattle.sled_disk.specs.Reading.{chains_of, found_at}
use Rattle.sled_disk.specs.WholeLaws.{described-opens}
use Rattle.sled_disk.proofs.Readers.ReaderSteps.{shows-still}
use Rattle.sled_disk.proofs.Chains.ChainHeads.{not_false}
use Rattle.sled_disk.proofs.Readers.UnreadBytes.{left-gate}
use Rattle.sled_disk.proofs.Readers.ReadParts.{shown-at}
use Rattle.sled_disk.proofs.reader.Reader.begin.Goals as goal

-- the first bytes, as the window shows them
front-is : (seen window part : List ℕ) (start from : ℕ) → window ≡ take (length window) (drop start seen) → start + from ≡ 0 → from + 8 ≤ length window → part ≡ window → take (from + 8 - from) (drop from part) ≡ take 8 seen
front-is seen window part start from shows place has is =
    let eight : from + 8 - from ≡ 8 = omega arith in
    ap (λ n. take n (drop from part)) eight ∙ ap (λ (l : List ℕ). take 8 (drop from l)) is ∙ shown-at seen window start from 8 0 shows place has

other : (front name : List ℕ) → true ≡ not (lib.Pointwise.pointwise lib.Dec.eqb front name) → front ≡ name → ⊥
other front name h is = let same = (bytes_decides front name).1 is in cc

pub returns-then-ne-clause-corrupt : goal.returns-then-ne-clause-corrupt
returns-then-ne-clause-corrupt g c = λ told is events described.
    let seen = g.D.Disk.seen c.args.disk.now in
    let window = c.reach.new.self in
    let front = front-is (g.D.Disk.seen c.len.new.self) window.bytes.items c.bytes.result.now window.start c.in_ok-from.from (c.in_ok-from.ensures.shows told) c.in_ok-from.ensures.place c.in_ok-from.ensures.has c.bytes.ensures in
    other _ c.as_slice.result.now c.if-ne.ensures (front ∙ ap (take 8) (c.in_ok-end.ensures.seen told) ∙ described-opens seen events described ∙ sym c.as_slice.ensures)

pub returns-clause-goes_on : goal.returns-clause-goes_on
returns-clause-goes_on g c = λ told.
    let window = c.reach.new.self in
    let seen = g.D.Disk.seen c.reach.new.disk in
    let same = c.in_ok-from.ensures.rests.same told in
    let front = front-is (g.D.Disk.seen c.len.new.self) window.bytes.items c.bytes.result.now window.start c.in_ok-from.from (c.in_ok-from.ensures.shows told) c.in_ok-from.ensures.place c.in_ok-from.ensures.has c.bytes.ensures in
    let opens : take 8 seen ≡ opening = ap (take 8) same ∙ sym front ∙ (bytes_decides _ c.as_slice.result.now).0 (not_false _ c.if-ne.ensures) ∙ c.as_slice.ensures in
    record {
      opens = opens;
      end = c.in_ok-end.ensures.len told ∙ ap (λ (l : List ℕ). length l) (sym (same ∙ c.in_ok-end.ensures.seen told));
      shows = shows-still window (g.D.Disk.seen c.len.new.self) seen (sym same) (c.in_ok-from.ensures.shows told);
      left = ap (λ (targets : List ℕ). left_at seen 8 8 targets (outside (chains_of c.new.result.items))) c.new-2.ensures ∙ left-gate seen 8 (outside (chains_of c.new.result.items)) ∙ ap (λ (pages : List (Vec Head)). found_at 8 (outside (chains_of pages)) (drop 8 seen)) c.new.ensures.items;
    }
