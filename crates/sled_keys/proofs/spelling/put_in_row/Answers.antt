-- Each byte takes at most three.
use Rattle.std.proofs.Common.{length, length-append, length-take, take, ap, arith}
use Rattle.sled_keys.proofs.Spelled.{length-row, row}
use Rattle.sled_keys.proofs.spelling.put_in_row.Goals as goal

pub put_byte-requires : goal.put_byte-requires
put_byte-requires c =
    let front = take c.loop-byte.byte-index c.args.bytes.now in
    omega (arith, c.requires, ap length c.loop-byte.invariant, length-append c.args.piece.now (row front), length-row front, length-take c.loop-byte.byte-index c.args.bytes.now, c.loop-byte-test.true)
