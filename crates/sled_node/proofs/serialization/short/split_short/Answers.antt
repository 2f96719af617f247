use Rattle.std.proofs.Common.{arith}
use Rattle.sled_node.proofs.Payloads.ShortStrings.{not_short}
use Rattle.sled_node.proofs.serialization.short.split_short.Goals as goal

-- without a byte string there is no short one
pub returns-in_err-short-clause-nothing : goal.returns-in_err-short-clause-nothing
returns-in_err-short-clause-nothing c = let nothing = c.in_err-short.ensures.nothing in rw c.from_residual.ensures (λ value rest found. nothing value rest found.0)

-- nor with one above the limit
pub returns-then-short-gt-MAX_BYTES-clause-nothing : goal.returns-then-short-gt-MAX_BYTES-clause-nothing
returns-then-short-gt-MAX_BYTES-clause-nothing c = not_short c.args.bytes.now c.in_ok-short.short.now c.in_ok-short.rest.now c.in_ok-short.ensures.read (omega arith)
