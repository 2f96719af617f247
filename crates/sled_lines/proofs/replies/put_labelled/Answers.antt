-- A short label leaves room for a number.
use Rattle.std.proofs.Common.{length, length-append, ap, arith}
use Rattle.std.specs.Fmt.{decimal}
use Rattle.sled_lines.proofs.Gathered.{put_on}
use Rattle.sled_lines.proofs.Pieces.{length-number}
use Rattle.sled_lines.proofs.replies.put_labelled.Goals as goal

pub put_number-requires : goal.put_number-requires
put_number-requires c = omega (arith, c.requires, ap length c.put_text.ensures, length-append c.args.piece.now c.args.label.now, length-number c.args.number c.ranges.number.fits)

pub returns : goal.returns
returns c = put_on c.args.piece.now c.args.label.now c.put_text.new.self (decimal c.args.number) c.put_number.new.self c.put_text.ensures c.put_number.ensures
