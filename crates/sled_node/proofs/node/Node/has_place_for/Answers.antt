use Rattle.std.proofs.Common.{ap, arith, sym, ◌∙◌}
use Rattle.std.proofs.lemmas.Bool.{leb-true}
use Rattle.std.specs.Option.{option_map}
use Rattle.std.specs.Int.NonZero.{non_zero_u64_get}
use Rattle.sled_node.specs.Pairs.{IsWithinLimit}
use Rattle.sled_node.specs.Node.{whole, IsInRange}
use Rattle.sled_node.specs.Parts.{node_of}
use Rattle.sled_node.proofs.NodeEdits.{accepts_with_room}
use Rattle.sled_node.proofs.node.Node.has_place_for.Goals as goal
use Rattle.sled_node.proofs.node.Node.has_place_for.Goals.{then-spans, else-spans, then-is_short, else-is_short}

pub returns-then-value-le-MAX_BYTES : goal.returns-then-value-le-MAX_BYTES
returns-then-value-le-MAX_BYTES c =
    let n = c.self.inside in
    let next = option_map non_zero_u64_get n.next in
    let child = option_map non_zero_u64_get n.merging_child in
    let m = c.args.self.now in
    let key = c.args.key.now in
    let fits : IsInRange m (whole m key) × IsWithinLimit (whole m key) × IsWithinLimit c.args.value.now = elim c.if-spans.branch [
      | then-spans v ↦ elim c.if-is_short.branch [
        | then-is_short w ↦
            (c.spans.ensures.0 v.if-spans.true, v.is_short.ensures.0 (sym v.value-is ∙ w.if-is_short.true), (let le = leb-true _ _ (sym w.value-is ∙ c.if-value-le-MAX_BYTES.true) in omega arith))
        | else-is_short w ↦ absurd (cc)
      ]
      | else-spans v ↦ absurd (cc)
    ] in
    let is = ap (λ parts. node_of n.prefix_len next child n.merging n.lo n.hi parts) (sym c.in-Leaf.is) ∙ c.self.view_is in
    accepts_with_room n.prefix_len next child n.merging n.lo n.hi c.in-Leaf.leaf m key c.args.value.now c.has_room.result is fits c.has_room.ensures
