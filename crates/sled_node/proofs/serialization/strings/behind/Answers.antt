use Rattle.std.proofs.Common.{length, ap}
use Rattle.sled_node.proofs.LeafPayloads.{read_behind}
use Rattle.sled_node.proofs.serialization.strings.behind.Goals as goal

pub returns : goal.returns
returns c = read_behind c.args.strings.now c.args.input.now c.requires.1 (length c.written.result.now) c.requires.2 (ap length c.written.ensures.value) c.written.ensures.each
