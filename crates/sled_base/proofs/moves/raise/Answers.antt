-- Large blocks, small ones, and the bytes that are left.
use Rattle.std.proofs.Common.{◌∙◌, arith}
use Rattle.sled_base.proofs.BlockMoves.{raised_on, copied_up, all_raised}
use Rattle.sled_base.proofs.moves.raise.Goals as goal

pub returns : goal.returns
returns c =
    let old = c.args.bytes.now in
    let more = c.args.more in
    let large = c.raise_blocks-end in
    let small = c.raise_blocks-end-2 in
    let moved = small.ensures.moved ∙ raised_on old large.new.bytes large.result c.args.kept more small.result small.ensures.left large.ensures.left c.requires large.ensures.moved in
    c.copy_within.ensures.after ∙ copied_up small.new.bytes more small.result ∙ raised_on old small.new.bytes small.result c.args.kept more 0 (omega arith) (omega (arith, small.ensures.left, large.ensures.left)) c.requires moved ∙ all_raised old more c.args.kept
