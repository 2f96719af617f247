use Rattle.std.proofs.Common.{◌≡◌, ◌+◌, length}
use Rattle.sled_node.specs.Meta.{named}
use Rattle.sled_node.specs.Payloads.Roots.{written_roots}
use Rattle.sled_node.proofs.meta.payload.MetaSerialize.serialized_size.Given as goal

-- the size so far, and that of what is left
abbrev pub invariant-loop-name : goal.invariant-loop-name
invariant-loop-name l = l.size + length (written_roots (named l.name-iterator)) ≡ length (written_roots l.self)
