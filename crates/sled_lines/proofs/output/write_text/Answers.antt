-- A write takes a front of what is left, and an interrupted one takes nothing.
use Rattle.std.proofs.Common.{◌++◌, take, ap, sym, ◌∙◌}
use Rattle.std.proofs.KnownBytes.{Appends-trans, Appends-kept}
use Rattle.sled_lines.proofs.Written.{moved}
use Rattle.sled_lines.proofs.output.write_text.Goals.{in-Ok, in-Err+else-ne}
use Rattle.sled_lines.proofs.output.write_text.Goals as goal

pub loop-preserved : goal.loop-preserved
loop-preserved g c =
    let (done, split, appended) = c.loop.invariant in
    elim c.match-write.branch [
      | in-Ok w ↦ (done ++ take w.in-Ok.count c.loop.left.now, moved _ done c.loop.left.now _ w.in-Ok.count split (ap (λ s. s.now) w.left-is), Appends-trans _ _ _ _ _ appended w.in-Ok.ensures.bytes)
      | in-Err+else-ne w ↦ (done, split ∙ ap (λ s. done ++ s.now) (sym w.left-is), Appends-kept _ _ _ done appended w.in-Err.ensures.bytes)
    ]
