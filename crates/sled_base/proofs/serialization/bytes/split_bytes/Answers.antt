use Rattle.std.proofs.Common.{arith, rules}
use Rattle.sled_base.proofs.Payloads.ByteStrings.{no_length, too_long}
use Rattle.sled_base.proofs.serialization.bytes.split_bytes.Goals as goal

-- without a length no byte string is read
pub returns-in_err-len-clause-nothing : goal.returns-in_err-len-clause-nothing
returns-in_err-len-clause-nothing c = rw c.from_residual.ensures (no_length c.args.bytes.now c.in_err-len.ensures.nothing)

-- nor with one that passes the end
pub returns-then-len-rest-clause-nothing : goal.returns-then-len-rest-clause-nothing
returns-then-len-rest-clause-nothing c = too_long c.args.bytes.now c.in_ok-len.len c.in_ok-len.rest.now c.in_ok-len.ensures.read (omega (arith, c.if-len-rest.true))

-- A wrong body is refused at this answer, so that no offers are printed.
pub returns-clause-read : goal.returns-clause-read
returns-clause-read c = search rules
