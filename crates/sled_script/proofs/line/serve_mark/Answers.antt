-- A second batch is refused.
use Rattle.std.proofs.Common.{◌≡◌, ap, rules}
use Rattle.sled_script.specs.Commands.{mark_word}
use Rattle.sled_script.specs.declared.command.Mark.TheVariants as mark
use Rattle.sled_script.proofs.Batches.{opened_batch}
use Rattle.sled_script.proofs.Replied.{marked_line}
use Rattle.sled_pagecache.specs.Inside.MadeLaws.{pin-made}
use Rattle.sled_script.proofs.line.serve_mark.Goals as goal

pub returns-in-Pin-true-clause-replies : goal.returns-in-Pin-true-clause-replies
returns-in-Pin-true-clause-replies g c =
    let pin : c.args.mark ≡ mark.Pin = search rules in
    let opens = c.pin_again-refused.ensures.opens in
    let made = pin-made g.L.Log c.args.cache.now c.pin_again-refused.new.cache c.pin_again-refused.result opens in
    let batch = opened_batch g.L.Log c.args.cache.now c.pin_again-refused.new.cache c.pin_again-refused.result opens in
    rw c.answered.ensures (marked_line g.L.Log c.args.cache.now _ _ _ _ _ c.gather_mark.result _ mark.Pin c.pin_again-refused.result (ap mark_word pin) tt made batch c.gather_mark.ensures)
