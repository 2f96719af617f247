use Rattle.std.proofs.Common.{arith}
use Rattle.sled_node.proofs.Payloads.PairReads.{no_count, big_count, no_keys}
use Rattle.sled_node.proofs.serialization.pairs.split_pairs.Goals as goal

pub returns-in_err-count-clause-nothing : goal.returns-in_err-count-clause-nothing
returns-in_err-count-clause-nothing g c = rw c.from_residual.ensures (no_count g.V.Serialize.reads g.met.V.Serialize.grammar c.args.input.now c.in_err-count.ensures.nothing)

-- a count that passes the limit
pub returns-then-count-gt-MOST_PAIRS-clause-nothing : goal.returns-then-count-gt-MOST_PAIRS-clause-nothing
returns-then-count-gt-MOST_PAIRS-clause-nothing g c =
    big_count g.V.Serialize.reads g.met.V.Serialize.grammar c.args.input.now c.in_ok-count.count c.in_ok-count.keys.now c.in_ok-count.ensures.read c.requires (λ few. absurd (omega arith))

-- or for which there is no room
pub returns-then-count-most-clause-nothing : goal.returns-then-count-most-clause-nothing
returns-then-count-most-clause-nothing g c =
    big_count g.V.Serialize.reads g.met.V.Serialize.grammar c.args.input.now c.in_ok-count.count c.in_ok-count.keys.now c.in_ok-count.ensures.read c.requires (λ few. omega arith)

pub returns-in_err-items-clause-nothing : goal.returns-in_err-items-clause-nothing
returns-in_err-items-clause-nothing g c =
    rw c.from_residual-in_err-items.ensures (no_keys g.V.Serialize.reads g.met.V.Serialize.grammar c.args.input.now c.in_ok-count.count c.in_ok-count.keys.now c.in_ok-count.ensures.read c.in_err-items.ensures.nothing)
