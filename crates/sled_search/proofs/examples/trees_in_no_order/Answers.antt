use Rattle.std.proofs.Common.{[], refl}
use Rattle.sled_search.specs.Examples.{root, three_pairs}
use Rattle.sled_search.proofs.Disorder.{twice-tree, twice-not, another-tree, another-not}
use Rattle.sled_search.proofs.GrownTrees.{new, two-led}
use Rattle.sled_search.proofs.examples.trees_in_no_order.Goals as goal

pub returns-clause-led_twice : goal.returns-clause-led_twice
returns-clause-led_twice c = twice-tree

pub returns-clause-twice_not : goal.returns-clause-twice_not
returns-clause-twice_not c order = twice-not order

pub returns-clause-led_by_another : goal.returns-clause-led_by_another
returns-clause-led_by_another c = another-tree

pub returns-clause-another_not : goal.returns-clause-another_not
returns-clause-another_not c order = another-not order

pub returns-clause-new : goal.returns-clause-new
returns-clause-new c = new.orderly root ([], refl)

pub returns-clause-in_order : goal.returns-clause-in_order
returns-clause-in_order c = two-led.orderly root (three_pairs, refl)
