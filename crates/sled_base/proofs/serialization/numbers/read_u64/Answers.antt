use Rattle.std.proofs.Common.{arith}
use Rattle.sled_base.proofs.Payloads.PlainNumber.{is_read, is_nothing}
use Rattle.sled_base.proofs.serialization.numbers.read_u64.Goals as goal

pub returns-clause-read : goal.returns-clause-read
returns-clause-read c = is_read c.args.bytes.now c.plain_u64.result (omega (arith, c.type_inv.bytes 0)) c.plain_u64.ensures

pub returns-clause-nothing : goal.returns-clause-nothing
returns-clause-nothing c = is_nothing c.args.bytes.now c.plain_u64.result c.plain_u64.ensures
