use Rattle.std.proofs.Common.{◌∙◌, arith}
use Rattle.sled_base.proofs.BlockMoves.{raised_more}
use Rattle.sled_base.proofs.moves.raise_blocks.Goals as goal

pub loop-at-preserved : goal.loop-at-preserved
loop-at-preserved g c =
    let so_far = c.loop-at.invariant in
    (omega (arith, so_far.0), c.move_block.ensures ∙ raised_more c.args.bytes.now c.loop-at.bytes c.loop-at.at c.args.end c.args.more g.row.N (omega arith) so_far.0 c.requires.within so_far.1)
