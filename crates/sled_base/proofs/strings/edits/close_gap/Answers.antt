use Rattle.std.proofs.Common.{◌≡◌, ◌-◌, ◌≤◌, ◌++◌, length, take, drop, ap, sym, ◌∙◌, arith}
use Rattle.std.proofs.lemmas.List.{take_all, length-append, length-take-le, length-drop}
use Rattle.sled_base.proofs.StringEdits.{written_back, gap_closed}
use Rattle.sled_base.proofs.strings.edits.close_gap.Goals as goal

pub returns : goal.returns
returns c =
    let items = c.args.bytes.now.items in
    let moved = c.move_down.new.bytes in
    let start = c.args.start in
    let less = c.args.end - c.args.start in
    let within : start ≤ length items = omega (arith, c.requires.order, c.requires.within) in
    let now_is : c.slice_mut.result.now ≡ drop start items = c.slice_mut.ensures.value ∙ take_all _ (drop start items) (omega (arith, length-drop start items, c.args.bytes.now.ok.0)) in
    let same : length moved ≡ length (drop start items) = c.move_down.ensures.many ∙ ap length now_is in
    let down : take (length (drop start items) - less) moved ≡ drop less (drop start items) = ap (λ xs. take (length xs - less) moved) (sym now_is) ∙ c.move_down.ensures.moved ∙ ap (drop less) now_is in
    let rest : c.len.result - less ≡ length items - less = omega (arith, c.len.ensures, c.args.bytes.now.ok.0) in
    let whole = ap (take c.args.bytes.now.len) (written_back items moved start within same) ∙ take_all c.args.bytes.now.len (take start items ++ moved) (omega (arith, c.args.bytes.now.ok.0, same, length-append (take start items) moved, length-take-le start items within, length-drop start items)) in
    c.truncate.ensures.items ∙ ap (take (c.len.result - less)) whole ∙ ap (λ n. take n (take start items ++ moved)) rest ∙ gap_closed items moved start c.args.end c.requires.order c.requires.within same down
