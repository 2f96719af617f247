use Rattle.std.proofs.Common.{◌≡◌, ℕ, Bool, true}
use Rattle.std.specs.BinaryHeap.{heap_items, heap_len, IsHeap}
use Rattle.std.specs.List.{list_all}
use Rattle.std.specs.Ordering.{nat_cmp}
use Rattle.sled_disk.proofs.reader.targets.Targets.reach.Given as goal

-- what was taken away is at the place that is reached
abbrev pub invariant-loop-target : goal.invariant-loop-target
invariant-loop-target l = record {
  reached : (test : ℕ → Bool) → test l.at ≡ true → list_all (λ x. test x.0) (heap_items l.self-inside.heap) ≡ list_all (λ x. test x.0) (heap_items l.initial.self-inside.heap);
  order : IsHeap (λ x y. nat_cmp y.0 x.0) (heap_items l.self-inside.heap);
}

abbrev pub decreases-loop-target : goal.decreases-loop-target
decreases-loop-target l = heap_len l.self-inside.heap
