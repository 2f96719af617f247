use Rattle.std.proofs.Common.{◌≡◌, ◌-◌, length, map, take, drop, sym, subst, arith}
use Rattle.std.proofs.lemmas.Result.{err_from_is_err_and}
use Rattle.sled_node.specs.Payloads.Nodes.{AsksNode, ReadsParts, ReadsNode}
use Rattle.sled_base.proofs.Payloads.Refusals.{refused_so}
use Rattle.sled_base.specs.Payloads.Reading.{IsRefusal}
use Rattle.sled_node.specs.Node.{Value, leaf_of}
use Rattle.sled_node.specs.Payloads.Pairs.{AsksPairs}
use Rattle.sled_node.specs.Payloads.Data.{ReadsLeaf}
use Rattle.sled_node.proofs.Payloads.OpenLeaves.{zeros_before, zeros_lead, open_read, open_none, open_asks}
use Rattle.sled_node.proofs.Payloads.Nodes.{AsksParts, asks_node, only_parts, no_parts}
use Rattle.sled_node.proofs.node.payload.NodeSerialize.deserialize.Goals as goal

pub returns-in_err-parts-clause-refused : goal.returns-in_err-parts-clause-refused
returns-in_err-parts-clause-refused c =
    let p = err_from_is_err_and c.from_residual-in_err-parts.result c.from_residual-in_err-parts.ensures.1 in
    let input = c.args.input.now.now in
    rw (p.1, p.2) (refused_so AsksParts AsksNode ReadsParts ReadsNode input input c.in_err-parts.field-0.0 (asks_node input) (no_parts input) c.in_err-parts.ensures.refused)

-- where the parts make no well-formed node
pub returns-in-None-clause-refused : goal.returns-in-None-clause-refused
returns-in-None-clause-refused c = only_parts c.args.input.now.now c.in_ok-parts.parts c.deserialize.new.input.now c.in_ok-parts.ensures.read c.in-None.ensures

-- a leaf over all keys, which isn't read
pub returns-in_err-leaf-clause-refused : goal.returns-in_err-leaf-clause-refused
returns-in_err-leaf-clause-refused c =
    let p = err_from_is_err_and c.from_residual.result c.from_residual.ensures.1 in
    let input = c.args.input.now.now in
    let pairs = take (length input - 7) (drop 7 input) in
    let zeros : input ≡ zeros_before pairs = zeros_lead input c.in-0.len_at_least (omega arith) (omega arith) (omega arith) (omega arith) (omega arith) (omega arith) (omega arith) in
    let refused = refused_so AsksPairs AsksNode ReadsLeaf ReadsNode pairs (zeros_before pairs) c.in_err-leaf.field-0.0 (open_asks pairs) (open_none pairs) c.in_err-leaf.ensures.refused in
    rw (p.1, p.2) (subst (λ text. IsRefusal AsksNode ReadsNode text c.in_err-leaf.field-0.0) (sym zeros) refused)

-- and one that is read
pub returns-in-0-clause-read : goal.returns-in-0-clause-read
returns-in-0-clause-read c =
    let input = c.args.input.now.now in
    let pairs = take (length input - 7) (drop 7 input) in
    let zeros : input ≡ zeros_before pairs = zeros_lead input c.in-0.len_at_least (omega arith) (omega arith) (omega arith) (omega arith) (omega arith) (omega arith) (omega arith) in
    let rest = c.read_leaf.new.input.now in
    rw c.over_all_keys.ensures (subst (λ text. ReadsNode text (leaf_of (map (λ pair. (pair.0, Value pair.1)) c.in_ok-leaf.leaf)) rest) (sym zeros) (open_read pairs c.in_ok-leaf.leaf rest c.in_ok-leaf.ensures.read))
