use Rattle.std.proofs.Common.{Bool, ℕ, ◌∷◌, ap, sym, ◌∙◌}
use Rattle.std.proofs.lemmas.List.Folds.{list_all-map}
use Rattle.std.specs.BinaryHeap.{heap_items}
use Rattle.std.specs.declared.cmp.Reverse.{Reverse}
use Rattle.std.specs.List.{list_all}
use Rattle.std.specs.Prelude.{◌&&◌}
use Rattle.sled_disk.proofs.Readers.TargetHeap.{all-permutation}
use Rattle.sled_disk.proofs.reader.targets.Targets.push.Goals as goal

pub returns-in_ok-push-clause-named : goal.returns-in_ok-push-clause-named
returns-in_ok-push-clause-named c = λ test.
    let old = heap_items c.self.inside.heap in
    let new = heap_items c.push.new.self in
    let place = λ (x : Reverse ℕ). x.0 in
    list_all-map test place new
    ∙ sym (all-permutation (λ x. test x.0) (record { 0 = c.args.target } ∷ old) new c.in_ok-push.ensures.permutation)
    ∙ ap (λ (b : Bool). test c.args.target && b) (sym (list_all-map test place old) ∙ ap (list_all test) c.self.view_is)
