use Rattle.std.proofs.Common.{◌∙◌, ap}
use Rattle.sled_search.specs.Map.{Map}
use Rattle.sled_tree.specs.Ordered.{first_of}
use Rattle.sled_tree.proofs.OrderedLists.{keep-always}
use Rattle.sled_tree.proofs.OrderedReads.{reads-more}
use Rattle.sled_tree.proofs.maps.ordered.first.Goals as goal

pub returns-clause-pair : goal.returns-clause-pair
returns-clause-pair g c = reads-more g.L.Log (λ pages answer is m tree. is m tree ∙ ap (λ (m : Map). first_of m) (keep-always m)) c.next_to.ensures.pair
