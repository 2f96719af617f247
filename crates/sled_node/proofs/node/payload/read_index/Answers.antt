use Rattle.std.proofs.Common.{◌<◌, ◌^◌}
use Rattle.std.proofs.lemmas.Result.{err_from_is_err_and}
use Rattle.sled_base.specs.Payloads.Numbers.{ReadsU64}
use Rattle.sled_base.specs.Payloads.NumberLaws.{U64-grammar}
use Rattle.sled_node.specs.Pairs.{HasPairs}
use Rattle.sled_node.specs.Payloads.Pairs.{ReadsPairs, AsksPairs}
use Rattle.sled_node.specs.Payloads.PairLaws.{Pairs-grammar}
use Rattle.sled_node.specs.Payloads.Data.{ReadsIndex}
use Rattle.sled_base.proofs.Payloads.Refusals.{refused_so}
use Rattle.sled_node.proofs.Payloads.PairReads.{only_others}
use Rattle.sled_node.proofs.node.payload.read_index.Goals as goal

pub returns-in_err-pairs-clause-refused : goal.returns-in_err-pairs-clause-refused
returns-in_err-pairs-clause-refused c =
    let p = err_from_is_err_and c.from_residual.result c.from_residual.ensures.1 in
    let input = c.args.input.now.now in
    rw (p.1, p.2) (refused_so AsksPairs AsksPairs (ReadsPairs ReadsU64) ReadsIndex input input c.in_err-pairs.field-0.0 (λ asks. asks) (λ nothing pairs rest found. nothing pairs rest found.0) c.in_err-pairs.ensures.refused)

-- where the pairs that are read don't keep what they have to
pub returns-in-None-clause-refused : goal.returns-in-None-clause-refused
returns-in-None-clause-refused c =
    let none = rw c.in-None.is at c.in_ok-index.ensures in
    only_others (ReadsPairs ReadsU64) (HasPairs (λ page. page < 2 ^ 64)) (Pairs-grammar U64-grammar) c.args.input.now.now c.in_ok-pairs.pairs.items c.read_pairs.new.input.now c.in_ok-pairs.ensures.read none.value
