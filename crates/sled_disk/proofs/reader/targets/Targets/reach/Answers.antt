use Rattle.std.proofs.Common.{◌≡◌, ◌<◌, Bool, List, ℕ, map, refl, ap, sym, ◌∙◌}
use Rattle.std.specs.Ordering.{nat_cmp}
use Rattle.std.proofs.lemmas.Bool.{ltb-true}
use Rattle.std.proofs.lemmas.List.Folds.{list_all-map}
use Rattle.std.specs.BinaryHeap.{heap_items, heap_len}
use Rattle.std.specs.declared.cmp.Reverse.{Reverse}
use Rattle.std.specs.List.{list_all}
use Rattle.sled_disk.proofs.Readers.TargetHeap.{all-popped, before-least, order-popped}
use Rattle.sled_disk.proofs.reader.targets.Targets.reach.Goals as goal

-- a test of the places, where it passes alike of what the heap holds
viewed : (test : ℕ → Bool) (new old : List (Reverse ℕ)) → list_all (λ (x : Reverse ℕ). test x.0) new ≡ list_all (λ x. test x.0) old → list_all test (map (λ x. x.0) new) ≡ list_all test (map (λ x. x.0) old)
viewed test new old h = list_all-map test (λ x. x.0) new ∙ h ∙ sym (list_all-map test (λ x. x.0) old)

pub returns-then-target-at-clause-reached : goal.returns-then-target-at-clause-reached
returns-then-target-at-clause-reached c = λ test passes. viewed test (heap_items c.loop-target.self-inside.heap) (heap_items c.self.inside.heap) (c.loop-target.invariant.reached test passes) ∙ ap (list_all test) c.self.view_is

pub returns-then-target-at-clause-behind : goal.returns-then-target-at-clause-behind
returns-then-target-at-clause-behind c = λ lt. before-least c.args.at c.in-Some.field-0.now (heap_items c.loop-target.self-inside.heap) (ltb-true _ _ lt) (c.in-Some.ensures.greatest c.loop-target.invariant.order)

pub loop-target-preserved : goal.loop-target-preserved
loop-target-preserved c =
    let now = heap_items c.loop-target.self-inside.heap in
    let n = heap_len c.loop-target.self-inside.heap in
    let some : 0 < n = c.in-Some.ensures.variant.0 refl in
    record {
      reached = λ test passes.
          all-popped (λ (x : Reverse ℕ). test x.0) c.in-Some.field-0.now now (heap_items c.pop.new.self) (heap_items c.self.inside.heap) n c.pop.result (ap test c.if-target-at.false ∙ passes) c.in-Some.ensures.lookup c.loop-target.self-inside.heap.data.ok.0 some c.pop.ensures.top c.pop.ensures.permutation c.pop.ensures.none
          (c.loop-target.invariant.reached test passes);
      order = order-popped (λ x y. nat_cmp y.0 x.0) now (heap_items c.pop.new.self) n c.pop.result some c.pop.ensures.heap_order c.pop.ensures.none c.loop-target.invariant.order;
    }

pub returns-clause-reached : goal.returns-clause-reached
returns-clause-reached c = λ test passes. viewed test (heap_items c.loop-target.self-inside.heap) (heap_items c.self.inside.heap) (c.loop-target.invariant.reached test passes) ∙ ap (list_all test) c.self.view_is
