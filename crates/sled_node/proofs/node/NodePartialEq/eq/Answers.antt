use Rattle.std.proofs.Common.{sym, ◌∙◌}
use Rattle.std.proofs.lemmas.Bool.{true≢false}
use Rattle.std.specs.Option.{option_map}
use Rattle.std.specs.Int.NonZero.{non_zero_u64_get}
use Rattle.sled_node.proofs.NodeEquality.{pages_alike, nodes_alike}
use Rattle.sled_node.proofs.node.NodePartialEq.eq.Goals as goal
use Rattle.sled_node.proofs.node.NodePartialEq.eq.Goals.{then-eq, else-eq, then-eq-2, else-eq-2, then-self-other, else-self-other, then-eq-3, else-eq-3, then-eq-4, else-eq-4}

-- all but the contents is the same
pub returns-then-self-other-2 : goal.returns-then-self-other-2
returns-then-self-other-2 c =
    let a = c.self.inside in
    let b = c.other.inside in
    elim c.if-eq-4.branch [
      | then-eq-4 w5 ↦ elim c.if-eq-3.branch [
        | then-eq-3 w4 ↦ elim c.if-self-other.branch [
          | then-self-other w3 ↦ elim c.if-eq-2.branch [
            | then-eq-2 w2 ↦ elim c.if-eq.branch [
              | then-eq w1 ↦
                  let los = sym c.eq.ensures ∙ w1.if-eq.true in
                  let his = sym w1.eq-then-eq.ensures ∙ sym w1.value-is ∙ w2.if-eq-2.true in
                  let skips = sym w2.value-is ∙ w3.if-self-other.true in
                  let nexts = sym (pages_alike a.next b.next) ∙ sym w3.eq-then-self-other.ensures ∙ sym w3.value-is ∙ w4.if-eq-3.true in
                  let children = sym (pages_alike a.merging_child b.merging_child) ∙ sym w4.eq-then-eq-3.ensures ∙ sym w4.value-is ∙ w5.if-eq-4.true in
                  let marks = sym w5.value-is ∙ c.if-self-other-2.true in
                  rw (← c.self.view_is, ← c.other.view_is) (c.eq-then-self-other-2.ensures ∙ nodes_alike a.prefix_len b.prefix_len (option_map non_zero_u64_get a.next) (option_map non_zero_u64_get a.merging_child) (option_map non_zero_u64_get b.next) (option_map non_zero_u64_get b.merging_child) a.merging b.merging a.lo a.hi b.lo b.hi a.contents b.contents los his skips nexts children marks)
              | else-eq w1 ↦ absurd (true≢false (sym w2.if-eq-2.true ∙ w1.value-is ∙ w1.if-eq.false))
            ]
            | else-eq-2 w2 ↦ absurd (true≢false (sym w3.if-self-other.true ∙ w2.value-is ∙ w2.if-eq-2.false))
          ]
          | else-self-other w3 ↦ absurd (true≢false (sym w4.if-eq-3.true ∙ w3.value-is ∙ w3.if-self-other.false))
        ]
        | else-eq-3 w4 ↦ absurd (true≢false (sym w5.if-eq-4.true ∙ w4.value-is ∙ w4.if-eq-3.false))
      ]
      | else-eq-4 w5 ↦ absurd (true≢false (sym c.if-self-other-2.true ∙ w5.value-is ∙ w5.if-eq-4.false))
    ]
