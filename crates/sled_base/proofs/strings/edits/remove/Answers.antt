use Rattle.std.proofs.Common.{◌≡◌, ◌+◌, length, ◌∙◌, arith}
use Rattle.std.proofs.lemmas.List.{get_or_default}
use Rattle.sled_base.specs.Strings.{strings_in, begin_of}
use Rattle.sled_base.specs.StringLaws.{strings_count}
use Rattle.sled_base.proofs.StringEdits.{IsBounded, order, last_removed, removed, can_remove}
use Rattle.sled_base.proofs.strings.edits.remove.Goals.{After-index-end}
use Rattle.sled_base.proofs.strings.edits.remove.Goals as goal

-- the last
pub returns-then-place-len : goal.returns-then-place-len
returns-then-place-len c =
    let bytes = c.args.bytes.now.items in
    let ends = c.args.ends.now.items in
    let last : c.args.place + 1 ≡ length (strings_in bytes ends) = omega (arith, c.if-place-len.true, c.len.ensures, c.args.ends.now.ok.0, strings_count 0 bytes ends) in
    let start_is : c.begin_at-start.result ≡ begin_of ends c.args.place = rw c.deref.ensures.value at c.begin_at-start.ensures in
    rw (c.truncate.ensures.items, c.truncate-then-place-len.ensures.items) (last_removed (strings_in bytes ends) bytes ends c.requires.keeps c.args.place c.begin_at-start.result last start_is)

-- the bounds of the string at the place
bounds : (c : After-index-end) → IsBounded c.args.bytes.now.items c.args.ends.now.items c.args.place c.begin_at-start.result c.index-end.result.now
bounds c = record {
  keeps = c.requires.keeps;
  within = c.requires.within;
  start_is = rw c.deref.ensures.value at c.begin_at-start.ensures;
  end_is = c.index-end.ensures ∙ get_or_default c.args.ends.now.items c.args.place c.index-end.result.now 0 c.requires.within;
}

pub close_gap-requires : goal.close_gap-requires
close_gap-requires c = let ordered = order (bounds (goal.at.close_gap-requires c).After-index-end) in record { order = ordered.0; within = ordered.1 }

pub overflow_sub-end : goal.overflow_sub-end
overflow_sub-end c = (order (bounds (goal.at.overflow_sub-end c).After-index-end)).0

pub move_ends-requires-clause-fit : goal.move_ends-requires-clause-fit
move_ends-requires-clause-fit c =
    can_remove (bounds (goal.at.move_ends-requires-clause-fit c).After-index-end) c.remove.new.self.items c.remove.ensures.by_index.2 (omega (arith, c.args.bytes.now.ok.0, c.args.bytes.now.small))

pub returns : goal.returns
returns c = rw (c.move_ends.ensures, c.close_gap.ensures) (removed (bounds (goal.at.returns c).After-index-end) c.remove.new.self.items c.remove.ensures.by_index.2)
