-- The parts stand one behind the other.
use Rattle.std.proofs.Common.{rules}
use Rattle.sled_handle.proofs.NodeBytes.{pair_put}
use Rattle.sled_handle.proofs.pairs.write.put_pair.Goals as goal

pub returns-clause-bytes : goal.returns-clause-bytes
returns-clause-bytes c =
    pair_put c.args.out.now c.put-end.new.out c.put-end-2.new.out c.put-end-3.new.out c.put-end-4.new.out c.put.new.out c.args.front.now c.args.rest.now c.args.value.now c.to_le_bytes.result c.to_le_bytes-2.result
    c.args.start c.put-end.result c.put-end-2.result c.put-end-3.result c.put-end-4.result
    c.to_le_bytes.ensures c.to_le_bytes-2.ensures (search rules) (search rules) c.put-end-3.ensures.end c.put-end-4.ensures.end c.requires.room
    c.put-end.ensures.bytes c.put-end-2.ensures.bytes c.put-end-3.ensures.bytes c.put-end-4.ensures.bytes c.put.ensures.bytes
