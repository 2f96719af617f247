use Rattle.std.proofs.Common.{arith}
use Rattle.std.proofs.lemmas.Result.{err_from_is_err_and}
use Rattle.sled_node.specs.Payloads.Pairs.{AsksPairs}
use Rattle.sled_node.specs.Payloads.Data.{ReadsLeaf, ReadsIndex, ReadsData, AsksData}
use Rattle.sled_base.proofs.Payloads.Refusals.{refused_so, rest_of}
use Rattle.sled_node.proofs.Payloads.Data.{no_leaf, no_index, asks_behind}
use Rattle.sled_node.proofs.node.payload.DataSerialize.deserialize.Goals as goal

pub returns-in_err-read_leaf-in-0-clause-refused : goal.returns-in_err-read_leaf-in-0-clause-refused
returns-in_err-read_leaf-in-0-clause-refused c =
    let p = err_from_is_err_and c.from_residual.result c.from_residual.ensures.1 in
    let input = c.args.input.now.now in
    rw (p.1, p.2) (refused_so AsksPairs AsksData ReadsLeaf ReadsData (rest_of input) input c.in_err-read_leaf-in-0.field-0.0 (asks_behind input 0 c.in-len1-up.len_at_least c.in-0.is (omega arith)) (no_leaf input c.in-len1-up.len_at_least c.in-0.is) c.in_err-read_leaf-in-0.ensures.refused)

pub returns-in_err-read_index-in-1-clause-refused : goal.returns-in_err-read_index-in-1-clause-refused
returns-in_err-read_index-in-1-clause-refused c =
    let p = err_from_is_err_and c.from_residual-in_err-read_index-in-1.result c.from_residual-in_err-read_index-in-1.ensures.1 in
    let input = c.args.input.now.now in
    rw (p.1, p.2) (refused_so AsksPairs AsksData ReadsIndex ReadsData (rest_of input) input c.in_err-read_index-in-1.field-0.0 (asks_behind input 1 c.in-len1-up.len_at_least c.in-1.is (omega arith)) (no_index input c.in-len1-up.len_at_least c.in-1.is) c.in_err-read_index-in-1.ensures.refused)
