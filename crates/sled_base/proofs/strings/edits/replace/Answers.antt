use Rattle.std.proofs.Common.{◌++◌, length, take, drop, ap, ◌∙◌, arith}
use Rattle.std.proofs.lemmas.List.{length-append, length-take-le, length-drop}
use Rattle.sled_base.specs.Payloads.ByteStrings.{written_bytes}
use Rattle.std.proofs.lemmas.List.{get_or_default}
use Rattle.sled_base.proofs.StringEdits.{IsBounded, order, replaced, replaced_same, can_replace}
use Rattle.sled_base.proofs.strings.edits.replace.Goals.{After-index-end}
use Rattle.sled_base.proofs.strings.edits.replace.Goals as goal

-- the bounds of the string at the place
bounds : (c : After-index-end) → IsBounded c.args.bytes.now.items c.args.ends.now.items c.args.place c.begin_at-start.result c.index-end.result.now
bounds c = record { keeps = c.requires.keeps; within = c.requires.within; start_is = rw c.deref.ensures.value at c.begin_at-start.ensures; end_is = c.index-end.ensures ∙ get_or_default c.args.ends.now.items c.args.place c.index-end.result.now 0 c.requires.within }

pub put-requires : goal.put-requires
put-requires c = let ordered = order (bounds (goal.at.put-requires c).After-index-end) in record { order = ordered.0; within = ordered.1; short = c.requires.short }

pub overflow_sub-taken : goal.overflow_sub-taken
overflow_sub-taken c = (order (bounds (goal.at.overflow_sub-taken c).After-index-end)).0

pub move_ends-requires-clause-fit : goal.move_ends-requires-clause-fit
move_ends-requires-clause-fit c =
    let bytes = c.args.bytes.now.items in
    let start = c.begin_at-start.result in
    let end = c.index-end.result.now in
    let bounds = bounds (goal.at.move_ends-requires-clause-fit c).After-index-end in
    let ordered = order bounds in
    let written = written_bytes c.args.string.now in
    can_replace bounds _ (omega (arith, ordered.0, ordered.1, c.args.bytes.now.ok.0, c.args.bytes.now.small, c.put.new.bytes.ok.0, c.put.new.bytes.small, ap length c.in_ok-put.ensures.ok, c.written_size-size.ensures.value, length-append (take start bytes) (written ++ drop end bytes), length-append written (drop end bytes), length-take-le start bytes, length-drop end bytes))

pub returns-clause-ok : goal.returns-clause-ok
returns-clause-ok c =
    rw (c.move_ends.ensures, c.in_ok-put.ensures.ok) (replaced (bounds (goal.at.returns-clause-ok c).After-index-end) c.args.string.now c.written_size-size.result c.written_size-size.ensures.value (omega (arith, c.requires.short)))

-- a string of the same size
pub returns-then-size-taken-clause-ok : goal.returns-then-size-taken-clause-ok
returns-then-size-taken-clause-ok c =
    rw c.in_ok-put.ensures.ok
    (replaced_same (bounds (goal.at.returns-then-size-taken-clause-ok c).After-index-end) c.args.string.now c.written_size-size.result c.written_size-size.ensures.value (omega (arith, c.requires.short)) c.if-size-taken.true (omega (arith, c.args.bytes.now.ok.0, c.args.bytes.now.small)))
