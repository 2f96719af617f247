use Rattle.std.proofs.Common.{◌-◌, length, get_or, take, drop, arith}
use Rattle.std.proofs.lemmas.Slice.{first_rest}
use Rattle.sled_base.proofs.StringEdits.{plain_front}
use Rattle.sled_base.proofs.strings.behind_plain.Goals as goal

pub returns-in-0-to-240 : goal.returns-in-0-to-240
returns-in-0-to-240 c =
    let input = c.args.input.now in
    plain_front input (get_or input 0 0) (take (length input - 1) (drop 1 input)) (first_rest input 0 c.in-0-to-240.len_at_least) (omega arith) (omega arith)
