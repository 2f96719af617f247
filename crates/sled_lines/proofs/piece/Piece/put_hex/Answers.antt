-- Each turn puts the two digits of a byte.
use Rattle.std.proofs.Common.{arith}
use Rattle.sled_lines.proofs.Pieces.{put_room, more_room, put_next}
use Rattle.sled_lines.proofs.piece.Piece.put_hex.Goals as goal

pub push-requires : goal.push-requires
push-requires c = put_room c.loop-byte.self c.args.self.now c.args.bytes.now c.loop-byte.byte-index 8192 (omega arith) c.loop-byte.invariant c.requires

pub push-requires-in-loop-byte : goal.push-requires-in-loop-byte
push-requires-in-loop-byte c =
    more_room c.push.new.self c.loop-byte.self c.args.self.now c.args.bytes.now _ c.loop-byte.byte-index 8192 (omega arith) c.push.ensures c.loop-byte.invariant c.requires

pub loop-byte-preserved : goal.loop-byte-preserved
loop-byte-preserved c =
    put_next c.loop-byte.self c.push.new.self c.push-in-loop-byte.new.self c.args.self.now c.args.bytes.now c.loop-byte.byte-index _ _ (omega arith) c.loop-byte.invariant c.push.ensures c.push-in-loop-byte.ensures c.hex_digit.ensures c.hex_digit-in-loop-byte.ensures
