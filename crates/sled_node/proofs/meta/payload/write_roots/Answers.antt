use Rattle.std.proofs.Common.{◌++◌, ap, sym, ◌∙◌, arith}
use Rattle.sled_node.specs.Meta.{named}
use Rattle.sled_node.specs.Payloads.Roots.{written_root, written_roots}
use Rattle.sled_node.proofs.Payloads.WriteAll.{writes_on}
use Rattle.sled_node.proofs.meta.payload.write_roots.Goals as goal

pub loop-name-preserved : goal.loop-name-preserved
loop-name-preserved c =
    let so_far = c.loop-name.invariant in
    let others = written_roots (named c.next.new.self) in
    let left = ap (λ entries. written_roots (named entries)) c.in-Some.ensures.steps ∙ ap (λ name. written_root (name, c.in-Some.root.now) ++ others) (sym c.deref.ensures.value) in
    let wrote = writes_on c.loop-name.out c.write_root-end.new.out c.args.out.now (written_root (c.deref.result.now, c.in-Some.root.now)) others _ _ c.loop-name.end c.write_root-end.result
    left (omega (arith, c.requires, c.loop-name.auto.out)) so_far.size so_far.front so_far.back c.write_root-end.ensures.size c.write_root-end.ensures.bytes in
    record { size = wrote.0; front = wrote.1; back = wrote.2 }
