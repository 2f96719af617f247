-- Where the second was refused the first is taken out again.
use Rattle.std.proofs.Common.{◌+◌, length, ◌∙◌, ap, arith}
use Rattle.sled_base.specs.Strings.{with_at, without_at}
use Rattle.sled_base.proofs.StringEdits.{put_and_taken, put_in_turn, length_with}
use Rattle.sled_base.proofs.strings.Strings.insert_both.Goals as goal

pub overflow_add-later : goal.overflow_add-later
overflow_add-later c = omega (arith, c.len.ensures, ap length c.in_ok-insert.ensures.ok, length_with c.args.place c.args.string.now c.args.self.now (omega (arith, c.requires.order, c.requires.within)), c.requires.within)

pub returns-clause-ok : goal.returns-clause-ok
returns-clause-ok c =
    c.in_default.ensures.ok ∙ ap (with_at (c.args.later + 1) c.args.other.now) c.in_ok-insert.ensures.ok ∙ put_in_turn c.args.place c.args.later c.args.string.now c.args.other.now c.args.self.now c.requires.order c.requires.within

pub returns-in-Err-clause-err : goal.returns-in-Err-clause-err
returns-in-Err-clause-err c =
    let before = c.in-Err.ensures.err ∙ c.in_ok-insert.ensures.ok in
    c.remove.ensures ∙ ap (without_at c.args.place) before ∙ put_and_taken c.args.place c.args.string.now c.args.self.now (omega (arith, c.requires.order, c.requires.within))
