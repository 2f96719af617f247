use Rattle.std.proofs.Common.{◌≡◌, ℕ, List, ◌+◌, ◌≤◌, length, take, drop, ap, ◌∙◌, arith, ◌-◌, ◌++◌}
use Rattle.std.proofs.lemmas.List.{take_all, length-append, length-take-le, length-drop, length-replicate}
use Rattle.std.specs.Prelude.{replicate}
use Rattle.sled_base.proofs.StringEdits.{written_back, gap_back}
use Rattle.sled_base.proofs.strings.edits.open_gap.Goals as goal

pub returns-clause-back : goal.returns-clause-back
returns-clause-back c =
    let old = c.args.bytes.now.items in
    let items = c.resize.new.self.items in
    let moved = c.move_up.new.bytes in
    let zeros : List ℕ = replicate (c.len-len.result + c.args.more - c.args.bytes.now.len) 0 in
    let is : items ≡ old ++ zeros = c.in_ok-resize.ensures.items ∙ ap (λ front. front ++ zeros) (take_all (c.len-len.result + c.args.more) old (omega (arith, c.len-len.ensures, c.args.bytes.now.ok.0))) in
    let many : length zeros ≡ c.args.more = length-replicate (c.len-len.result + c.args.more - c.args.bytes.now.len) 0 ∙ omega (arith, c.len-len.ensures) in
    let within : c.args.at ≤ length items = omega (arith, ap length is, length-append old zeros, c.requires.within) in
    let now_is : c.slice_mut.result.now ≡ drop c.args.at items = c.slice_mut.ensures.value ∙ take_all _ (drop c.args.at items) (omega (arith, length-drop c.args.at items, c.resize.new.self.ok.0)) in
    let same : length moved ≡ length (drop c.args.at items) = c.move_up.ensures.many ∙ ap length now_is in
    let up : drop c.args.more moved ≡ take (length (drop c.args.at items) - c.args.more) (drop c.args.at items) = c.move_up.ensures.moved ∙ ap (λ xs. take (length xs - c.args.more) xs) now_is in
    let whole = ap (take c.resize.new.self.len) (written_back items moved c.args.at within same) ∙ take_all c.resize.new.self.len (take c.args.at items ++ moved) (omega (arith, c.resize.new.self.ok.0, same, length-append (take c.args.at items) moved, length-take-le c.args.at items within, length-drop c.args.at items)) in
    ap (drop (c.args.at + c.args.more)) whole ∙ gap_back old items moved zeros c.args.at c.args.more c.requires.within is many same up
