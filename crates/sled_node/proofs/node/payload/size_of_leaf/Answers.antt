use Rattle.std.proofs.Common.{length, ap, arith}
use Rattle.std.proofs.lemmas.List.{length-append}
use Rattle.std.specs.List.{flat_map}
use Rattle.sled_base.specs.Payloads.Numbers.{written_u64}
use Rattle.sled_base.specs.Payloads.ByteStrings.{written_bytes}
use Rattle.sled_node.proofs.Payloads.Sizes.{leaf_size}
use Rattle.sled_node.proofs.LeafPayloads.{written_so}
use Rattle.sled_node.proofs.node.payload.size_of_leaf.Goals as goal

pub returns-clause-value : goal.returns-clause-value
returns-clause-value c =
    let strings = c.strings.result.now in
    let whole = ap length (written_so strings c.args.leaf.now c.strings.ensures.value) in
    omega (arith, whole, length-append (written_u64 (length c.args.leaf.now)) (flat_map written_bytes strings), ap length c.written.ensures.value, c.serialized_size.ensures, ap (λ n. length (written_u64 n)) c.len.ensures)

pub returns-clause-bound : goal.returns-clause-bound
returns-clause-bound c =
    let strings = c.strings.result.now in
    let whole = ap length (written_so strings c.args.leaf.now c.strings.ensures.value) in
    omega (arith, leaf_size c.args.leaf.now c.strings.ensures.stored, whole, length-append (written_u64 (length c.args.leaf.now)) (flat_map written_bytes strings), ap length c.written.ensures.value, c.serialized_size.ensures, ap (λ n. length (written_u64 n)) c.len.ensures)
