use Rattle.std.proofs.Common.{◌≡◌, length}
use Rattle.sled_node.specs.Payloads.Sequences.{ReadsAll}
use Rattle.sled_node.specs.Payloads.ShortStrings.{ReadsShort}
use Rattle.sled_node.proofs.serialization.strings.read_each.Given as goal

-- so many short strings lie before the rest
abbrev pub invariant-loop : goal.invariant-loop
invariant-loop l = (length l.strings ≡ l.counter) × ReadsAll ReadsShort l.fn.input.now l.strings l.rest
