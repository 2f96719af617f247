use Rattle.std.proofs.Common.{◌≡◌, ◌+◌, ◌-◌, ◌/◌, ◌<◌, length, get_or, sym, subst, ◌∙◌, arith}
use Rattle.sled_base.specs.Order.{Bytes, IsBelow}
use Rattle.sled_base.specs.OrderLaws.{equal_is_same, above_is_below}
use Rattle.sled_node.proofs.LeafStrings.{leaf_strings, leaf_stored, key_found}
use Rattle.sled_node.proofs.Places.{stands, front_below, back_above, parted}
use Rattle.sled_node.proofs.node.leaf.Leaf.place_of_key.Goals as goal

pub loop-low-init : goal.loop-low-init
loop-low-init c = record { order = omega arith; within = omega (arith, c.len-high.ensures); below = λ k d from to. absurd (omega arith); above = λ k d from to. absurd (omega (arith, c.len-high.ensures)) }

pub loop-low-preserved-in-Less : goal.loop-low-preserved-in-Less
loop-low-preserved-in-Less c =
    let strings = c.self.inside.strings in
    let pairs = c.args.self.now in
    let key = c.args.key.now in
    let middle = c.loop-low.low + (c.loop-low.high - c.loop-low.low) / 2 in
    let kept = c.loop-low.invariant in
    let lt : middle < length pairs = omega (arith, kept.within) in
    let is = key_found pairs strings (leaf_strings strings pairs c.self.invariant c.self.view_is) middle c.get.result.now lt c.get.ensures in
    let here : (d : Bytes × Bytes) → IsBelow (get_or pairs middle d).0 key = λ d. subst (λ k. IsBelow k key) (sym (is d)) (sym c.fastcmp.ensures ∙ c.in-Less.is) in
    record {
      order = omega arith;
      within = kept.within;
      below = front_below key pairs (leaf_stored strings pairs c.self.invariant c.self.view_is).ascending middle lt here;
      above = kept.above;
    }

pub loop-low-preserved : goal.loop-low-preserved
loop-low-preserved c =
    let strings = c.self.inside.strings in
    let pairs = c.args.self.now in
    let key = c.args.key.now in
    let middle = c.loop-low.low + (c.loop-low.high - c.loop-low.low) / 2 in
    let kept = c.loop-low.invariant in
    let lt : middle < length pairs = omega (arith, kept.within) in
    let is = key_found pairs strings (leaf_strings strings pairs c.self.invariant c.self.view_is) middle c.get.result.now lt c.get.ensures in
    let here : (d : Bytes × Bytes) → IsBelow key (get_or pairs middle d).0 = λ d. subst (IsBelow key) (sym (is d)) (above_is_below c.get.result.now key (sym c.fastcmp.ensures ∙ c.in-Greater.is)) in
    record {
      order = omega arith;
      within = omega (arith, kept.within);
      below = kept.below;
      above = back_above key pairs (leaf_stored strings pairs c.self.invariant c.self.view_is).ascending middle lt here;
    }

-- the pair in the middle has the key
here_is : (c : goal.In-Equal) → (c.loop-low.low + (c.loop-low.high - c.loop-low.low) / 2 < length c.args.self.now) × ((d : Bytes × Bytes) → (get_or c.args.self.now (c.loop-low.low + (c.loop-low.high - c.loop-low.low) / 2) d).0 ≡ c.args.key.now)
here_is c =
    let strings = c.self.inside.strings in
    let pairs = c.args.self.now in
    let middle = c.loop-low.low + (c.loop-low.high - c.loop-low.low) / 2 in
    let lt : middle < length pairs = omega (arith, c.loop-low.invariant.within) in
    let is = key_found pairs strings (leaf_strings strings pairs c.self.invariant c.self.view_is) middle c.get.result.now lt c.get.ensures in
    (lt, λ d. is d ∙ equal_is_same c.get.result.now c.args.key.now (sym c.fastcmp.ensures ∙ c.in-Equal.is))

pub returns-in-Equal-clause-found : goal.returns-in-Equal-clause-found
returns-in-Equal-clause-found c =
    let is = here_is c in
    stands c.args.key.now c.args.self.now (c.loop-low.low + (c.loop-low.high - c.loop-low.low) / 2) (leaf_stored c.self.inside.strings c.args.self.now c.self.invariant c.self.view_is).ascending is.0 is.1

pub returns-in-Equal-clause-same : goal.returns-in-Equal-clause-same
returns-in-Equal-clause-same c = (here_is c).1

pub returns-clause-missing : goal.returns-clause-missing
returns-clause-missing c =
    let kept = c.loop-low.invariant in
    let pairs = c.args.self.now in
    let same : c.loop-low.high ≡ c.loop-low.low = omega (arith, kept.order, c.loop-low-test.false) in
    parted c.args.key.now pairs c.loop-low.low (leaf_stored c.self.inside.strings pairs c.self.invariant c.self.view_is).ascending (omega (arith, kept.within, same)) kept.below (λ k d from to. kept.above k d (omega (arith, from, same)) to)
