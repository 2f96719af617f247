-- What stands behind the pairs is written behind them.
use Rattle.std.proofs.Common.{arith}
use Rattle.std.specs.List.{flat_map}
use Rattle.sled_handle.specs.Pairs.{pair_bytes}
use Rattle.sled_handle.proofs.NodeBytes.{put_behind}
use Rattle.sled_handle.proofs.pairs.of_map.write_all.Goals as goal

pub returns : goal.returns
returns c =
    put_behind c.args.out.now c.write_pairs-end.new.out c.put.new.out (flat_map pair_bytes c.args.pairs.now) c.args.behind.now 0 c.write_pairs-end.result (omega (arith, c.write_pairs-end.ensures.end))
    (omega (arith, c.write_pairs-end.ensures.end, c.requires.room)) c.write_pairs-end.ensures.bytes c.put.ensures.bytes
