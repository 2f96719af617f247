-- The parts of a key are gathered one behind the other.
use Rattle.std.proofs.Common.{rules}
use Rattle.sled_lines.specs.Words.{bytes_word}
use Rattle.sled_lines.proofs.Gathered.{gathers_more, gathers_stops}
use Rattle.sled_lines.proofs.Written.{word_of_both}
use Rattle.sled_script.proofs.reply.gather_key.Goals as goal

pub returns-in_err-gather_bytes_word : goal.returns-in_err-gather_bytes_word
returns-in_err-gather_bytes_word g c =
    let contents = g.W.Write.contents in
    gathers_stops (contents c.args.writer.now) (contents c.gather_bytes_word-2.new.writer) c.args.piece.now c.gather_bytes_word-2.new.piece c.from_residual.result (bytes_word c.args.front.now) (bytes_word c.args.rest.now) _ c.from_residual.ensures.0 c.in_err-gather_bytes_word.ensures (word_of_both c.args.front.now c.args.rest.now (λ none. let is = c.is_empty.ensures in let not = c.if-is_empty.false in search (rules, none)) (λ none. search (rules, none)))

pub returns : goal.returns
returns g c =
    let contents = g.W.Write.contents in
    gathers_more (contents c.args.writer.now) (contents c.gather_bytes_word-2.new.writer) (contents c.gather_bytes_word-3.new.writer) c.args.piece.now c.gather_bytes_word-2.new.piece c.gather_bytes_word-3.new.piece c.gather_bytes_word-3.result (bytes_word c.args.front.now) (bytes_word c.args.rest.now) _ c.in_ok-gather_bytes_word.ensures c.gather_bytes_word-3.ensures (word_of_both c.args.front.now c.args.rest.now (λ none. let is = c.is_empty.ensures in let not = c.if-is_empty.false in search (rules, none)) (λ none. search (rules, none)))
