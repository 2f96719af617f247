use Rattle.sled_tree.proofs.neighbours.nearest.near_in.Goals as goal

pub returns-in-Above : goal.returns-in-Above
returns-in-Above c = rw c.in-Above.is c.first_in.ensures

pub returns-in-Below : goal.returns-in-Below
returns-in-Below c = rw c.in-Below.is c.last_in.ensures
