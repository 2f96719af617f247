use Rattle.std.proofs.Common.{◌≡◌, length}
use Rattle.sled_base.specs.Payloads.ByteStrings.{ReadsBytes}
use Rattle.sled_node.specs.Payloads.Sequences.{ReadsAll}
use Rattle.sled_node.specs.Payloads.Pairs.{keys_of, items_of}
use Rattle.sled_node.proofs.serialization.pairs.read_both.Given as goal

abbrev pub invariant-loop : goal.invariant-loop
invariant-loop g l = record {
  so_many : length l.pairs.items ≡ l.counter;
  keys : ReadsAll ReadsBytes l.keys (keys_of l.pairs.items) l.key_rest;
  items : ReadsAll g.V.Serialize.reads l.fn.items.now (items_of l.pairs.items) l.item_rest;
}
