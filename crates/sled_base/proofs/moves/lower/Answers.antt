-- Large blocks, small ones, and the bytes that are left.
use Rattle.std.proofs.Common.{◌∙◌, arith}
use Rattle.sled_base.proofs.BlockMoves.{lowered_on, copied_down, all_lowered}
use Rattle.sled_base.proofs.moves.lower.Goals as goal

pub returns : goal.returns
returns c =
    let old = c.args.bytes.now in
    let kept = c.args.kept in
    let large = c.lower_blocks-start in
    let small = c.lower_blocks-start-2 in
    let moved = small.ensures.moved ∙ lowered_on old large.new.bytes 0 large.result c.args.less small.result large.ensures.order small.ensures.order (omega (arith, small.ensures.left, c.requires)) large.ensures.moved in
    c.copy_within.ensures.after ∙ copied_down small.new.bytes c.args.less kept small.result small.ensures.left ∙ lowered_on old small.new.bytes 0 small.result c.args.less kept (omega arith) small.ensures.left c.requires moved ∙ all_lowered old c.args.less kept
