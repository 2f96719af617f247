use Rattle.sled_script.proofs.command.leaf_behind.Goals as goal

pub returns-in-Some-clause-none : goal.returns-in-Some-clause-none
returns-in-Some-clause-none c = rw c.in-Some.is (c.leaf_in.ensures.none)
