-- A number has at most 20 digits.
use Rattle.std.proofs.Common.{length, length-append, ap, arith}
use Rattle.std.specs.Fmt.{decimal}
use Rattle.sled_lines.proofs.Pieces.{length-number}
use Rattle.sled_script.proofs.program.write_calls.Goals as goal

pub put_number-requires : goal.put_number-requires
put_number-requires g c = omega (arith, ap length c.new-piece.ensures, length-number c.args.made c.ranges.made.fits)

pub put_text-requires : goal.put_text-requires
put_text-requires g c =
    omega (arith, ap length c.new-piece.ensures, ap length c.put_number.ensures, length-append c.new-piece.result (decimal c.args.made), length-number c.args.made c.ranges.made.fits)
