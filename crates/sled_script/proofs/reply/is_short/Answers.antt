use Rattle.std.proofs.Common.{length, arith}
use Rattle.std.proofs.lemmas.Bool.Decides.{nat_tests}
use Rattle.sled_lines.specs.Words.{bytes_word}
use Rattle.sled_lines.proofs.Pieces.{length-word}
use Rattle.sled_script.proofs.Entries.{entry_fits}
use Rattle.sled_script.proofs.reply.is_short.Goals as goal

pub returns : goal.returns
returns c = λ short.
    let value = c.args.value.now in
    entry_fits c.args.front.now c.args.rest.now (bytes_word value) (length value) (length-word value) (grind (arith, nat_tests, short, c.saturating_add.ensures, c.saturating_add-2.ensures))
