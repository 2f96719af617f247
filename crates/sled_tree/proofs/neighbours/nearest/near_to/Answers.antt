use Rattle.sled_tree.proofs.neighbours.nearest.near_to.Goals as goal

pub returns-in-Above : goal.returns-in-Above
returns-in-Above g c = rw c.in-Above.is c.near_above.ensures

pub returns-in-Below : goal.returns-in-Below
returns-in-Below g c = rw c.in-Below.is c.near_below.ensures
