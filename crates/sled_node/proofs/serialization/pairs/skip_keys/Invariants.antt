use Rattle.std.proofs.Common.{◌≡◌, List, length}
use Rattle.sled_base.specs.Order.{Bytes}
use Rattle.sled_base.specs.Payloads.ByteStrings.{ReadsBytes}
use Rattle.sled_node.specs.Payloads.Sequences.{ReadsAll}
use Rattle.sled_node.proofs.serialization.pairs.skip_keys.Given as goal

-- so many keys lie before the rest
abbrev pub invariant-loop : goal.invariant-loop
invariant-loop l = (keys : List Bytes) × (length keys ≡ l.counter) × ReadsAll ReadsBytes l.input keys l.rest
