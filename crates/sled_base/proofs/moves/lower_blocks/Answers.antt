use Rattle.std.proofs.Common.{◌∙◌, arith}
use Rattle.sled_base.proofs.BlockMoves.{lowered_more}
use Rattle.sled_base.proofs.moves.lower_blocks.Goals as goal

pub loop-at-preserved : goal.loop-at-preserved
loop-at-preserved g c =
    let so_far = c.loop-at.invariant in
    (omega (arith, so_far.0), omega (arith, so_far.1), c.move_block.ensures ∙ lowered_more c.args.bytes.now c.loop-at.bytes c.args.start c.loop-at.at c.args.less g.row.N so_far.0 (omega (arith, so_far.1, c.requires.within)) so_far.2)
