use Rattle.std.proofs.Common.{◌≡◌, Bool, true, false, not, [], ◌∷◌, Option, refl, sym, ◌∙◌, ap}
use Rattle.std.specs.Option.{is_some}
use Rattle.std.specs.Prelude.{◌↔◌, IsTrue}
use Rattle.sled_base.specs.Order.{Bytes}
use Rattle.sled_search.specs.Map.{Map}
use Rattle.sled_tree.specs.Ordered.{first_of}
use Rattle.sled_tree.proofs.OrderedReads.{read-ends, read-first}
use Rattle.sled_tree.proofs.trees.Trees.is_empty.Goals as goal

none-first : (m : Map) (none : Bool) → is_some (first_of m) ≡ not none → IsTrue none ↔ (m ≡ [])
none-first [] true h = (λ _. refl, λ _. refl)
none-first [] false h = absurd (let e = h in cc)
none-first (pair ∷ m) true h = absurd (let e = h in cc)
none-first (pair ∷ m) false h = (λ never. absurd (let e = never in cc), λ same. absurd (let e = same in cc))

pub returns-clause-none : goal.returns-clause-none
returns-clause-none g c =
    read-ends g.L.Log (read-first g.L.Log c.in_ok-first.ensures.pair)
    (λ pages is m tree. none-first m c.is_none.result (ap (λ (answer : Option (Bytes × Bytes)). is_some answer) (sym (is m tree)) ∙ c.is_none.ensures))
