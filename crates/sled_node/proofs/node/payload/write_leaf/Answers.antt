use Rattle.std.proofs.Common.{◌≤◌, ◌++◌, length, drop, sym, ap, subst, ◌∙◌}
use Rattle.sled_base.specs.Payloads.Numbers.{written_u64}
use Rattle.sled_node.proofs.LeafPayloads.{written_so}
use Rattle.sled_node.proofs.node.payload.write_leaf.Goals as goal

pub write_counted-requires : goal.write_counted-requires
write_counted-requires c =
    let is = (λ i. written_u64 (c.len.ensures i) ++ c.written.ensures.value i) ∙ written_so c.strings.result.now c.args.leaf.now c.strings.ensures.value in
    subst (λ text. length text ≤ length c.args.out.now) (sym is) c.requires

pub returns-clause-size : goal.returns-clause-size
returns-clause-size c =
    let is = (λ i. written_u64 (c.len.ensures i) ++ c.written.ensures.value i) ∙ written_so c.strings.result.now c.args.leaf.now c.strings.ensures.value in
    c.write_counted.ensures.size ∙ ap length is

pub returns-clause-bytes : goal.returns-clause-bytes
returns-clause-bytes c =
    let is = (λ i. written_u64 (c.len.ensures i) ++ c.written.ensures.value i) ∙ written_so c.strings.result.now c.args.leaf.now c.strings.ensures.value in
    c.write_counted.ensures.bytes ∙ ap (λ text. text ++ drop (length text) c.args.out.now) is
