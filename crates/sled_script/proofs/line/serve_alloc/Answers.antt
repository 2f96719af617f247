use Rattle.std.proofs.Common.{map, arith, codes, refl, Some}
use Rattle.sled_pagecache.specs.declared.pagecache.handles.call.Answer.TheVariants.{Allocated}
use Rattle.sled_pagecache.specs.declared.pagecache.handles.call.Call.TheVariants.{Allocate}
use Rattle.sled_pagecache.specs.declared.pagecache.handles.call.Call.{Call}
use Rattle.sled_script.specs.Asked.{AsksBehind}
use Rattle.sled_script.proofs.Replied.{made_behind, refused_behind}
use Rattle.sled_script.specs.Pairs.{pair_word}
use Rattle.sled_script.proofs.Commands.{allocate_asked}
use Rattle.sled_script.proofs.line.serve_alloc.Goals as goal

pub returns-in-Some-clause-replies : goal.returns-in-Some-clause-replies
returns-in-Some-clause-replies g c =
    let leaf = rw c.in-Some.is at c.in_ok-node.ensures.some in
    let asks : AsksBehind (codes "alloc") (Some c.args.words.now) (Allocate c.in-Some.node) = (map pair_word leaf.0, (leaf.0, leaf.1, refl), leaf.2) in
    let allocated = c.allocate-answer.ensures in
    rw c.answered.ensures (made_behind g.L.Log c.args.cache.now _ _ _ _ _ c.gather_line.result (codes "alloc") _ (Allocate c.in-Some.node) asks (record {
      answer = Allocated c.allocate-answer.result;
      made = record { step = allocated.step; bytes = tt; faults = allocated.blame; covered = tt; keeps = allocated.keeps };
      batch = allocated.keeps.batch;
      written = c.gather_line.ensures;
    }))

pub returns-in-None-clause-replies : goal.returns-in-None-clause-replies
returns-in-None-clause-replies g c =
    let none : (call : Call) → ¬ AsksBehind (codes "alloc") (Some c.args.words.now) call = λ call asked. let other = allocate_asked _ call asked in (rw c.in-None.is at c.in_ok-node.ensures.none) other.node other.leaf in
    rw c.answered-in-None.ensures (refused_behind g.L.Log c.args.cache.now _ _ _ _ _ c.refuse.result (codes "alloc") _ refl (omega arith, omega arith, omega arith, omega arith) none c.refuse.ensures)
