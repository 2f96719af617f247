use Rattle.std.proofs.Common.{◌++◌, length}
use Rattle.std.specs.List.{flat_map}
use Rattle.sled_base.specs.Payloads.Numbers.{written_u64}
use Rattle.sled_base.specs.Payloads.ByteStrings.{written_bytes}
use Rattle.sled_node.specs.Payloads.Pairs.{keys_of, items_of}
use Rattle.sled_node.proofs.Payloads.WriteAll.{placed}
use Rattle.sled_node.proofs.serialization.pairs.write_pairs.Goals as goal

pub returns-clause-bytes : goal.returns-clause-bytes
returns-clause-bytes g c =
    let pairs = c.args.pairs.now in
    let number = written_u64 (length pairs) in
    let behind = flat_map written_bytes (keys_of pairs) ++ flat_map g.V.Serialize.written (items_of pairs) in
    placed c.args.out.now c.serialize_into-start.new.out c.write_behind.new.out number behind c.serialize_into-start.result c.serialize_into-start.ensures.bytes c.serialize_into-start.ensures.size c.write_behind.ensures.bytes
