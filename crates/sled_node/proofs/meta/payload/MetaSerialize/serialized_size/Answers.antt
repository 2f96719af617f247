use Rattle.std.proofs.Common.{◌≡◌, ◌+◌, length, ap, ◌∙◌, arith}
use Rattle.std.proofs.lemmas.List.{length-append}
use Rattle.sled_node.specs.Meta.{named}
use Rattle.sled_node.specs.Payloads.Roots.{written_root, written_roots}
use Rattle.sled_node.proofs.Payloads.Roots.{roots_written}
use Rattle.sled_node.proofs.meta.payload.MetaSerialize.serialized_size.Goals as goal

pub overflow_add-size : goal.overflow_add-size
overflow_add-size c =
    let now = written_root (c.in-Some.name.now.items, c.in-Some.root.now) in
    let others = written_roots (named c.next.new.self) in
    let next : length (written_roots (named c.loop-name.name-iterator)) ≡ length now + length others = ap (λ entries. length (written_roots (named entries))) c.in-Some.ensures.steps ∙ length-append now others in
    let size = c.root_size-size.ensures ∙ ap (λ name. length (written_root (name, c.in-Some.root.now))) c.deref.ensures.value in
    omega (arith, roots_written c.args.self.now c.roots-name-items.ensures.kept, c.loop-name.invariant, next, size)
