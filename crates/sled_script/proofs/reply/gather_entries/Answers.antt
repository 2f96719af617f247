-- One more entry is gathered at each turn.
use Rattle.std.proofs.Common.{◌≡◌, ◌++◌, Some, suc, take, drop, sym, ap, ◌∙◌, subst, refl}
use Rattle.std.specs.List.{flat_map, slice_get}
use Rattle.std.proofs.Math.Numerals.{add-one}
use Rattle.sled_base.specs.Order.{Bytes}
use Rattle.sled_node.specs.Node.{Item}
use Rattle.sled_node.specs.Parts.{item_of}
use Rattle.sled_lines.specs.Output.{Gathered}
use Rattle.sled_lines.proofs.Gathered.{gathered_none, gathered_more, gathers_more, gathers_stops}
use Rattle.sled_script.specs.Replies.{entry_text}
use Rattle.sled_script.proofs.Entries.{flat_next, flat_around}
use Rattle.sled_script.proofs.reply.gather_entries.Goals as goal

pub loop-i-init : goal.loop-i-init
loop-i-init g c = gathered_none (g.W.Write.contents c.args.writer.now) c.args.piece.now

pub loop-i-preserved : goal.loop-i-preserved
loop-i-preserved g c =
    let contents = g.W.Write.contents in
    let pairs = c.args.node.now.pairs in
    let i = c.loop-i.i in
    let x : Bytes × Item = (c.front_of-front.result.now ++ c.pair.result.0.now, item_of c.pair.result.1) in
    let at : slice_get pairs i ≡ Some x = c.pair.ensures ∙ ap (λ front. Some (front ++ c.pair.result.0.now, item_of c.pair.result.1)) (sym c.front_of-front.ensures) in
    let next = ap (λ n. flat_map entry_text (take n pairs)) (add-one i) ∙ flat_next entry_text pairs i x at in
    subst (Gathered (contents c.args.writer.now) (contents c.gather_entry.new.writer) c.args.piece.now c.gather_entry.new.piece) (sym next)
    (gathered_more (contents c.args.writer.now) (contents c.loop-i.writer) (contents c.gather_entry.new.writer) c.args.piece.now c.loop-i.piece c.gather_entry.new.piece (flat_map entry_text (take i pairs)) (entry_text x) c.loop-i.invariant c.in_ok-gather_entry.ensures)

-- an error at an entry
pub returns-in_err-gather_entry : goal.returns-in_err-gather_entry
returns-in_err-gather_entry g c =
    let contents = g.W.Write.contents in
    let pairs = c.args.node.now.pairs in
    let i = c.loop-i.i in
    let x : Bytes × Item = (c.front_of-front.result.now ++ c.pair.result.0.now, item_of c.pair.result.1) in
    let at : slice_get pairs i ≡ Some x = c.pair.ensures ∙ ap (λ front. Some (front ++ c.pair.result.0.now, item_of c.pair.result.1)) (sym c.front_of-front.ensures) in
    let others = flat_map entry_text (drop (suc i) pairs) in
    gathers_more (contents c.args.writer.now) (contents c.loop-i.writer) (contents c.gather_entry.new.writer) c.args.piece.now c.loop-i.piece c.gather_entry.new.piece c.from_residual.result (flat_map entry_text (take i pairs)) (entry_text x ++ others) (flat_map entry_text pairs) c.loop-i.invariant
    (gathers_stops (contents c.loop-i.writer) (contents c.gather_entry.new.writer) c.loop-i.piece c.gather_entry.new.piece c.from_residual.result (entry_text x) others (entry_text x ++ others) c.from_residual.ensures.0 c.in_err-gather_entry.ensures refl)
    (flat_around entry_text pairs i x at)
