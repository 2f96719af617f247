use Rattle.std.proofs.Common.{refl}
use Rattle.sled_node.proofs.Inserts.{gap_misses, stands_has}
use Rattle.sled_node.proofs.node.data.insert_in.Goals as goal

-- the key was found
pub returns-in_default-clause-new : goal.returns-in_default-clause-new
returns-in_default-clause-new c =
    let place = rw c.deref.ensures.value at c.in_default.ensures.found in
    let there = stands_has c.args.key.now c.args.pairs.now.items c.in_default.field-0 c.requires place in
    (λ yes. absurd cc, λ missing. absurd (missing there))

-- the key was missing
pub returns-clause-new : goal.returns-clause-new
returns-clause-new c =
    let place = rw c.deref.ensures.value at c.in-Err.ensures.missing in
    (λ _. gap_misses c.args.key.now c.args.pairs.now.items c.in-Err.at place, λ _. refl)

-- a key that is there takes no memory
pub returns-in_err-key-clause-there : goal.returns-in_err-key-clause-there
returns-in_err-key-clause-there c =
    let place = rw c.deref.ensures.value at c.in-Err.ensures.missing in
    λ there. absurd (gap_misses c.args.key.now c.args.pairs.now.items c.in-Err.at place there)

pub returns-in_err-insert-clause-there : goal.returns-in_err-insert-clause-there
returns-in_err-insert-clause-there c =
    let place = rw c.deref.ensures.value at c.in-Err.ensures.missing in
    λ there. absurd (gap_misses c.args.key.now c.args.pairs.now.items c.in-Err.at place there)
