-- The first pair is read, and all others are above it.
use Rattle.sled_handle.proofs.PairBytes.{is_some, no_pairs, one_less_ascending}
use Rattle.sled_handle.proofs.pairs.read.ascend.Goals as goal

pub returns-in_default : goal.returns-in_default
returns-in_default c = λ is pairs encode ascending.
    no_pairs c.args.bytes.now (is_some _ _ c.is_empty.ensures c.if-is_empty.false) c.in_default.ensures.none pairs encode

pub returns : goal.returns
returns c = λ is pairs encode ascending.
    let one = one_less_ascending c.args.bytes.now c.in-Some.behind.now (c.in-Some.first.now, c.in-Some.field-0-1.now) pairs c.in-Some.ensures.some encode ascending in
    c.ascend_from.ensures is one.0 one.1 one.2
