-- What `rewrite_into` promises is what is told.
use Rattle.std.proofs.Common.{rules, refl}
use Rattle.sled_handle.proofs.Rewritten.{told_done, told_refused}
use Rattle.sled_handle.proofs.through.rewriting.rewrite_into.Goals as goal
use Rattle.sled_handle.proofs.through.rewriting.rewrite_into.Goals.{in-Begun+in-Some-take_new_log+in-Ok, in-Begun+in-None, in_default-deref_mut}

pub returns-in-Err : goal.returns-in-Err
returns-in-Err g c =
    let e = c.rewrite_into.ensures in
    told_refused {opening = c.in-Begun.opening} {given = c.in-Some-take_new_log.log} {answer = c.rewrite_into.result} (search rules, search rules)
    (record { stuck = e.stuck; in_batch = e.in_batch; rewritten = e.rewritten; step = e.step; left = e.left; same = e.same; fault = e.fault; blame = e.blame; refused = e.refused; full = e.full; unnamed = e.unnamed })
    c.rewrite_into.new.self refl _ _ (search rules) c.status_of.result (c.in-Err.error, c.in-Err.field-0-1) c.in-Err.is (search rules) (search rules)

pub returns : goal.returns
returns g c = elim c.match-deref_mut.branch [
  | in-Begun+in-Some-take_new_log+in-Ok w ↦
      let e = w.rewrite_into.ensures in
      told_done {opening = w.in-Begun.opening} {given = w.in-Some-take_new_log.log} {answer = w.rewrite_into.result} (search rules, search rules)
      (record { stuck = e.stuck; in_batch = e.in_batch; rewritten = e.rewritten; step = e.step; left = e.left; same = e.same; fault = e.fault; blame = e.blame; refused = e.refused; full = e.full; unnamed = e.unnamed })
      c.match-deref_mut.cache w.cache-is _ _ (search rules) c.match-deref_mut.status w.in-Ok.log w.put_log.new.self w.in-Ok.is (search rules) w.status-is (search rules) (search rules) (λ tells. w.put_log.ensures.over tells w.in-Ok.ensures.rewritten.none)
  | in-Begun+in-None w ↦ search rules
  | in_default-deref_mut w ↦ search rules
]
