use Rattle.std.proofs.Common.{◌≡◌, ◌≢◌, ◌∷◌, [], arith}
use Rattle.sled_base.proofs.Payloads.Refusals.{rest_of, behind_first}
use Rattle.sled_node.proofs.Payloads.Links.{no_set_key, no_set_value, no_set_end}
use Rattle.sled_node.proofs.serialization.links.split_set.Goals as goal

-- without a key
pub returns-in_err-key-clause-nothing : goal.returns-in_err-key-clause-nothing
returns-in_err-key-clause-nothing c =
    let payload = c.args.payload.now in
    let is : payload ≡ 0 ∷ rest_of payload = behind_first payload 0 c.in-0.len_at_least (omega arith) in
    rw c.from_residual.ensures (no_set_key payload (rest_of payload) is c.in_err-key.ensures.nothing)

-- without a value
pub returns-in_err-value-clause-nothing : goal.returns-in_err-value-clause-nothing
returns-in_err-value-clause-nothing c =
    let payload = c.args.payload.now in
    let is : payload ≡ 0 ∷ rest_of payload = behind_first payload 0 c.in-0.len_at_least (omega arith) in
    rw c.from_residual-in_err-value.ensures (no_set_value payload (rest_of payload) is c.in_ok-key.key.now c.in_ok-key.behind.now c.in_ok-key.ensures.read c.in_err-value.ensures.nothing)

-- with more behind the value
pub returns-then-not-is_empty-clause-nothing : goal.returns-then-not-is_empty-clause-nothing
returns-then-not-is_empty-clause-nothing c =
    let payload = c.args.payload.now in
    let is : payload ≡ 0 ∷ rest_of payload = behind_first payload 0 c.in-0.len_at_least (omega arith) in
    let some : c.in_ok-value.rest.now ≢ [] = λ none. let more = rw none at c.if-not-is_empty.ensures in absurd cc in
    no_set_end payload (rest_of payload) is c.in_ok-key.key.now c.in_ok-key.behind.now c.in_ok-key.ensures.read c.in_ok-value.value.now c.in_ok-value.rest.now c.in_ok-value.ensures.read some
