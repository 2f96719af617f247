use Rattle.std.proofs.Common.{◌≡◌, ◌+◌, ◌++◌, false, true, take, drop, sym, ap, subst, ◌∙◌, arith}
use Rattle.std.proofs.lemmas.List.{length-take-le}
use Rattle.std.proofs.lemmas.Result.{IfOk-weaker}
use Rattle.sled_node.specs.Node.{IsWellFormed}
use Rattle.sled_node.specs.Parts.{is_index}
use Rattle.sled_node.specs.Splitting.{least, greatest, SeparatesAt}
use Rattle.sled_node.proofs.SplitPairs.{cut_within, right_short, index_parts, leaf_parts}
use Rattle.sled_node.proofs.node.Node.separator.Goals as goal

pub overflow_add-len : goal.overflow_add-len
overflow_add-len c =
    let formed = subst IsWellFormed c.self.view_is c.self.invariant in
    let within = cut_within c.args.self.now formed c.args.count c.pair.result.0.now c.pair-2.result.0.now c.pair.ensures c.pair-2.ensures c.requires.some in
    let short = right_short c.args.self.now formed c.args.count c.pair.result.0.now c.pair-2.result.0.now c.pair.ensures c.pair-2.ensures c.requires.some in
    omega (arith, within, short, c.common_len-len.ensures)

pub slice_bounds-decode-end : goal.slice_bounds-decode-end
slice_bounds-decode-end c =
    let formed = subst IsWellFormed c.self.view_is c.self.invariant in
    let within = cut_within c.args.self.now formed c.args.count c.pair.result.0.now c.pair-2.result.0.now c.pair.ensures c.pair-2.ensures c.requires.some in
    sym (length-take-le (c.common_len-len.result + 1) c.pair-2.result.0.now (omega (arith, within, c.common_len-len.ensures)))

-- a leaf cuts the key
pub returns-in-Leaf : goal.returns-in-Leaf
returns-in-Leaf c =
    let n = c.args.self.now in
    let formed = subst IsWellFormed c.self.view_is c.self.invariant in
    let right = c.pair-2.result.0.now in
    let kind : n.is_index ≡ false = sym (ap (λ m. m.is_index) c.self.view_is) ∙ ap is_index c.in-Leaf.is in
    IfOk-weaker c.decode.result (λ s. s ≡ c.prefix-prefix.result.now ++ take (c.common_len-len.result + 1) right) (λ s. SeparatesAt n.is_index (greatest (take c.args.count n.pairs)) (least (drop c.args.count n.pairs)) s)
    (λ s is. leaf_parts n formed c.args.count c.pair.result.0.now c.pair-2.result.0.now c.pair.ensures c.pair-2.ensures c.requires.some kind s (is ∙ (λ i. c.prefix-prefix.ensures.value i ++ take (c.common_len-len.ensures i + 1) right)))
    c.decode.ensures.ok

-- an index keeps the whole key
pub returns-in-Index : goal.returns-in-Index
returns-in-Index c =
    let n = c.args.self.now in
    let formed = subst IsWellFormed c.self.view_is c.self.invariant in
    let right = c.pair-2.result.0.now in
    let kind : n.is_index ≡ true = sym (ap (λ m. m.is_index) c.self.view_is) ∙ ap is_index c.in-Index.is in
    IfOk-weaker c.decode-in-Index.result (λ s. s ≡ c.prefix-prefix.result.now ++ right) (λ s. SeparatesAt n.is_index (greatest (take c.args.count n.pairs)) (least (drop c.args.count n.pairs)) s)
    (λ s is. index_parts n formed c.args.count c.pair.result.0.now c.pair-2.result.0.now c.pair.ensures c.pair-2.ensures c.requires.some kind s (is ∙ ap (λ f. f ++ right) c.prefix-prefix.ensures.value))
    c.decode-in-Index.ensures.ok
