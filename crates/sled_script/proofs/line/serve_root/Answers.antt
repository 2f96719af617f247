use Rattle.std.proofs.Common.{[], ◌∷◌, Some, ap, codes, refl}
use Rattle.sled_pagecache.specs.declared.pagecache.handles.call.Answer.TheVariants.{FoundRoot}
use Rattle.sled_pagecache.specs.declared.pagecache.handles.call.Call.TheVariants.{MetaPidForName}
use Rattle.sled_lines.specs.Words.{bytes_word}
use Rattle.sled_script.proofs.Replied.{made_behind}
use Rattle.sled_script.proofs.line.serve_root.Goals as goal

pub returns-in-Some-clause-replies : goal.returns-in-Some-clause-replies
returns-in-Some-clause-replies g c =
    let name = c.in-Some.name in
    let read = rw c.in-Some.is at c.in_ok-name.ensures in
    let found = c.meta_pid_for_name-answer.ensures in
    rw c.answered.ensures (made_behind g.L.Log c.args.cache.now _ _ _ _ _ c.gather_line.result (codes "root") _ (MetaPidForName name) (bytes_word name ∷ [], (read.bytes, refl), ap Some read.some) (record {
      answer = FoundRoot c.meta_pid_for_name-answer.result;
      made = record { step = rw (← c.as_slice.ensures) found.step; bytes = tt; faults = tt; covered = tt; keeps = found.keeps };
      batch = refl;
      written = c.gather_line.ensures;
    }))
