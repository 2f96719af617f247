use Rattle.std.proofs.Common.{◌≤◌}
use Rattle.std.proofs.lemmas.Result.{err_from_is_err_and}
use Rattle.sled_node.specs.Payloads.Pairs.{AsksPairs, ReadsBoth, ReadsPairs}
use Rattle.sled_base.proofs.Payloads.Refusals.{refused_so}
use Rattle.sled_node.proofs.Payloads.PairReads.{no_both}
use Rattle.sled_node.proofs.serialization.pairs.read_pairs.Goals as goal

pub returns-in_err-pairs-clause-refused : goal.returns-in_err-pairs-clause-refused
returns-in_err-pairs-clause-refused g c =
    let p = err_from_is_err_and c.from_residual.result c.from_residual.ensures.1 in
    let reads = g.V.Serialize.reads in
    let input = c.args.input.now.now in
    let count = c.in-Some.count in
    let keys = c.in-Some.keys.now in
    let items = c.in-Some.behind.now in
    let split = c.in-Some.ensures.found in
    rw (p.1, p.2) (refused_so (λ _. 1 ≤ count) AsksPairs (ReadsBoth reads count keys) (ReadsPairs reads) items input c.in_err-pairs.field-0.0 (λ some. record { count = count; keys = keys; items = items; split = split; some = some }) (no_both reads g.met.V.Serialize.grammar input count keys split.counted items split.skipped) c.in_err-pairs.ensures.refused)
