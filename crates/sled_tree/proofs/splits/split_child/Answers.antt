use Rattle.std.proofs.Common.{◌≡◌, arith}
use Rattle.std.proofs.lemmas.Grind.{common_steps}
use Rattle.sled_tree.proofs.Performing.{allocated}
use Rattle.sled_tree.proofs.Splitting.{allot-failed, allot-then, lead-then, parts-kept, put-left-failed, put-left-then}
use Rattle.sled_tree.proofs.splits.split_child.Goals as goal

pub returns : goal.returns
returns g c =
    let said = c.in_ok-sibling.ensures in
    let parts = parts-kept g.L.Log c.args.above c.in_ok-token.ensures.parts in
    let right = allot-then g.L.Log parts (allocated g.L.Log c.in_ok-token.field-0.right said.step said.blame said.keeps) in
    let at_is : c.in_ok-at.at ≡ c.in_ok-token.field-0.right.lo = grind (arith, common_steps, c.in_ok-at.ensures.cases, c.lo.ensures) in
    lead-then g.L.Log (put-left-then g.L.Log right c.in_ok-put_left.ensures) at_is c.lead.ensures

pub returns-in_err-sibling : goal.returns-in_err-sibling
returns-in_err-sibling g c =
    let said = c.in_err-sibling.ensures in
    let parts = parts-kept g.L.Log c.args.above c.in_ok-token.ensures.parts in
    allot-failed g.L.Log parts (allocated g.L.Log c.in_ok-token.field-0.right said.step said.blame said.keeps)

pub returns-in_err-put_left : goal.returns-in_err-put_left
returns-in_err-put_left g c =
    let said = c.in_ok-sibling.ensures in
    let parts = parts-kept g.L.Log c.args.above c.in_ok-token.ensures.parts in
    let right = allot-then g.L.Log parts (allocated g.L.Log c.in_ok-token.field-0.right said.step said.blame said.keeps) in
    put-left-failed g.L.Log right c.put_left.ensures
