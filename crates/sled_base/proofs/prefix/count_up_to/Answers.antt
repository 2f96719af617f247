use Rattle.std.proofs.Common.{◌≡◌, ◌+◌, length, get_or, take, ◌-◌, ◌<◌, ◌/◌, sym, ap, ◌∙◌, arith}
use Rattle.std.proofs.lemmas.List.{length-take-le}
use Rattle.std.proofs.lemmas.Option.{get_or_from_slice_get}
use Rattle.std.specs.Ordering.{is_le}
use Rattle.sled_base.specs.Order.{Bytes}
use Rattle.sled_base.proofs.Searching.{front_at_most, back_above}
use Rattle.sled_base.proofs.StringEdits.{among_first}
use Rattle.sled_base.proofs.prefix.count_up_to.Goals.{After-is_le}
use Rattle.sled_base.proofs.prefix.count_up_to.Goals as goal

pub loop-low-init : goal.loop-low-init
loop-low-init c =
    let many = length-take-le c.args.count c.args.strings.now c.requires.within in
    (omega arith, omega arith, (λ k d from to. absurd (omega arith)), (λ k d from to. absurd (omega (arith, many))))

-- the string in the middle
looked : (c : After-is_le)
    → (let keys = take c.args.count c.args.strings.now in let middle = c.loop-low.low + (c.loop-low.high - c.loop-low.low) / 2 in (middle < length keys) × ((d : Bytes) → get_or keys middle d ≡ c.get.result.now))
looked c =
    let strings = c.args.strings.now in
    let middle = c.loop-low.low + (c.loop-low.high - c.loop-low.low) / 2 in
    let kept = c.loop-low.invariant in
    let below : middle < c.args.count = omega (arith, kept.1) in (
      omega (arith, below, length-take-le c.args.count strings c.requires.within),
      λ d. among_first strings c.args.count middle d below ∙ get_or_from_slice_get strings middle c.get.result.now d c.get.ensures,
    )

pub loop-low-preserved-then-is_le : goal.loop-low-preserved-then-is_le
loop-low-preserved-then-is_le c =
    let kept = c.loop-low.invariant in
    let there = looked (goal.at.loop-low-preserved-then-is_le c).After-is_le in
    let pass = sym (ap is_le c.fastcmp.ensures) ∙ sym c.is_le.ensures ∙ c.if-is_le.true in
    (omega arith, kept.1, front_at_most c.args.key.now (take c.args.count c.args.strings.now) _ c.get.result.now c.requires.sorted there.0 there.1 pass, kept.3)

pub loop-low-preserved : goal.loop-low-preserved
loop-low-preserved c =
    let kept = c.loop-low.invariant in
    let there = looked (goal.at.loop-low-preserved c).After-is_le in
    let fail = sym (ap is_le c.fastcmp.ensures) ∙ sym c.is_le.ensures ∙ c.if-is_le.false in
    (omega arith, omega (arith, kept.1), kept.2, back_above c.args.key.now (take c.args.count c.args.strings.now) _ c.get.result.now c.requires.sorted there.0 there.1 fail)
