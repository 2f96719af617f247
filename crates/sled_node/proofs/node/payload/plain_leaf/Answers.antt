use Rattle.std.proofs.Common.{sym, subst, arith}
use Rattle.sled_node.specs.Payloads.Data.{ReadsLeaf}
use Rattle.sled_node.proofs.LeafPayloads.{halves, leaf_read}
use Rattle.sled_node.proofs.node.payload.plain_leaf.Goals as goal

pub of_strings-requires : goal.of_strings-requires
of_strings-requires c = let begins = rw c.in-Ok-Some.field-0-is at c.in-Ok-Some.ensures in halves c.in-Ok-Some.strings c.in_ok-count.count begins.0

pub returns : goal.returns
returns c =
    let input = c.args.input.now in
    let rest = c.behind-rest.result.now in
    let begins = rw c.in-Ok-Some.field-0-is at c.in-Ok-Some.ensures in
    let read = leaf_read input c.in_ok-count.count c.in_ok-count.keys.now c.in_ok-count.ensures.read (omega arith) c.in-Ok-Some.strings rest (begins.0, c.behind-rest.ensures) in
    let leaf = c.in_ok-of_strings.ensures in
    subst (λ pairs. ReadsLeaf input pairs rest) (sym leaf.1) (read, leaf.0)
