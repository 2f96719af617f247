use Rattle.sled_script.proofs.Commands.{opens_behind}
use Rattle.sled_script.proofs.Replied.{opened_line}
use Rattle.sled_script.proofs.line.serve_open.Goals as goal

pub returns-in-Some-clause-replies : goal.returns-in-Some-clause-replies
returns-in-Some-clause-replies g c =
    let name = c.in-Some.name in
    let read = rw c.in-Some.is at c.in_ok-name.ensures in
    let opened = c.open_tree-root.ensures in
    rw c.answered.ensures (λ line short begins. opened_line g.L.Log c.args.cache.now _ _ _ _ _ c.gather_tree.result line name c.open_tree-root.result (opens_behind line _ name short begins read.bytes read.some) opened.opened opened.keeps.batch c.gather_tree.ensures)
