use Rattle.std.proofs.Common.{◌++◌, sym, ap, subst, ◌∙◌, arith}
use Rattle.sled_base.specs.StringLaws.{strings_count}
use Rattle.sled_base.proofs.StringEdits.{AreRead, one_more, copy_keeps}
use Rattle.sled_base.proofs.strings.Strings.read_plain.Goals as goal

pub loop-preserved : goal.loop-preserved
loop-preserved c =
    let input = c.args.input.now in
    let behind = c.in-Some.behind.now in
    let kept = c.loop.invariant in
    let pushed = c.push_reserved.ensures in
    record {
      many = omega (arith, pushed.len, kept.many);
      room = omega (arith, pushed.capacity, kept.room);
      read = subst (AreRead input behind) (sym pushed.items) (one_more input c.loop.rest.now behind c.loop.ends.items kept.read c.in-Some.ensures);
    }

pub invariant_of-result : goal.invariant_of-result
invariant_of-result c =
    (copy_keeps c.args.input.now c.loop.rest.now c.loop.ends.items c.in_ok-from_slice.field-0.items c.loop.invariant.read c.in_ok-from_slice.ensures.items).0

pub returns : goal.returns
returns c =
    let copy = c.in_ok-from_slice.field-0.items in
    let rest = c.loop.rest.now in
    let kept = copy_keeps c.args.input.now rest c.loop.ends.items copy c.loop.invariant.read c.in_ok-from_slice.ensures.items in
    (omega (arith, strings_count 0 copy c.loop.ends.items, c.loop.invariant.many, c.loop-test.false, c.loop.auto.counter-end), rest, sym kept.1 ∙ ap (λ bytes. bytes ++ rest) (sym kept.0.bytes_are))
