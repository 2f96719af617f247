use Rattle.std.proofs.Common.{sym, ◌∙◌, drop, arith, length-drop}
use Rattle.std.proofs.lemmas.Bool.{ne_eqb, eq-eqb}
use Rattle.std.specs.Prelude.{nat_eq}
use Rattle.std.proofs.lemmas.List.Sums.{common_prefix_len-le, common_prefix_len-drop_yes, common_prefix_len-drop_no}
use Rattle.sled_node.proofs.Prefixes.{common_is}
use Rattle.sled_node.proofs.node.stored.common_len.Goals as goal

pub returns : goal.returns
returns c =
    let left = c.args.left.now in
    let right = c.args.right.now in
    let le = common_prefix_len-le nat_eq (drop c.loop-i.i left) (drop c.loop-i.i right) in
    omega (arith, le, length-drop c.loop-i.i left, length-drop c.loop-i.i right, common_is left right, c.loop-i.invariant)

pub returns-then-left-i : goal.returns-then-left-i
returns-then-left-i c =
    let no = common_prefix_len-drop_no nat_eq c.args.left.now c.args.right.now c.loop-i.i 0 0 (omega arith) (omega arith) (ne_eqb _ _ c.if-left-i.true) in
    sym (sym (common_is c.args.left.now c.args.right.now) ∙ c.loop-i.invariant ∙ omega (arith, no))

pub loop-i-preserved : goal.loop-i-preserved
loop-i-preserved c =
    let yes = common_prefix_len-drop_yes nat_eq c.args.left.now c.args.right.now c.loop-i.i 0 0 (omega arith) (omega arith) (eq-eqb _ _ c.if-left-i.false) in
    omega (arith, yes, c.loop-i.invariant)
