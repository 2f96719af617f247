use Rattle.sled_search.proofs.Strays.{no-tree-part-lost, no-tree-led-astray, no-tree-not-cut}
use Rattle.sled_search.proofs.examples.pages_that_are_no_tree.Goals as goal

pub returns-clause-part_lost : goal.returns-clause-part_lost
returns-clause-part_lost c m tree = no-tree-part-lost m tree

pub returns-clause-led_astray : goal.returns-clause-led_astray
returns-clause-led_astray c m tree = no-tree-led-astray m tree

pub returns-clause-not_cut : goal.returns-clause-not_cut
returns-clause-not_cut c m tree = no-tree-not-cut m tree
