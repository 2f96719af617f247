use Rattle.std.proofs.Common.{◌≡◌, ℕ, length}
use Rattle.std.specs.List.{AllByRecursion}
use Rattle.sled_disk.specs.RecoveredHeads.{AreHeadsBy}
use Rattle.sled_disk.specs.Reading.{chains_of}
use Rattle.sled_disk.specs.BatchChanges.{taken_by, IsWaiting, IsChanging}
use Rattle.sled_disk.proofs.reader.waiting.take_all.Given as goal

-- those that are left make of what was taken what all make
abbrev pub invariant-loop-page : goal.invariant-loop-page
invariant-loop-page l = record {
  changing : AllByRecursion IsChanging l.changes.items;
  left : taken_by (chains_of l.pages.items) l.changes.items ≡ taken_by (chains_of l.initial.pages.items) l.initial.changes.items;
  waiting : (end : ℕ) → AllByRecursion (IsWaiting end) l.initial.changes.items → AllByRecursion (IsWaiting end) l.changes.items;
  heads : (end : ℕ) → AllByRecursion (IsWaiting end) l.initial.changes.items → AllByRecursion (AreHeadsBy end) (chains_of l.initial.pages.items) → AllByRecursion (AreHeadsBy end) (chains_of l.pages.items);
}

abbrev pub decreases-loop-page : goal.decreases-loop-page
decreases-loop-page l = length l.changes.items
