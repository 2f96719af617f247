use Rattle.std.proofs.Common.{◌≡◌, ◌+◌, ◌<◌, ◌^◌, ◌∷◌, length, ap, subst, arith}
use Rattle.std.proofs.lemmas.List.Sums.{sum_by-cons}
use Rattle.sled_node.specs.Meta.{named_pages, roots_size}
use Rattle.sled_node.proofs.RootEntries.{names_size}
use Rattle.sled_node.proofs.Roots.{roots_fit}
use Rattle.sled_node.proofs.meta.Meta.rss.Goals as goal

pub overflow_add-size-in-loop-name : goal.overflow_add-size-in-loop-name
overflow_add-size-in-loop-name c =
    let small = subst (λ roots. roots_size roots < 2 ^ 64) c.self.view_is (roots_fit (named_pages c.self.inside.roots) c.self.invariant) in
    let next : names_size c.loop-name.name-iterator ≡ names_size (c.in-Some.name.now ∷ c.next.new.self) = ap names_size c.in-Some.ensures.steps in
    let split = sum_by-cons (λ name. length name.items + 8) c.in-Some.name.now c.next.new.self in
    omega (arith, small, c.loop-name.invariant, next, split, c.len.ensures)
