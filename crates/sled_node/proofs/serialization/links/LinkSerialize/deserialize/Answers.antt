use Rattle.std.proofs.lemmas.Result.{err_from_is_err_and}
use Rattle.sled_base.specs.Payloads.Reading.{AsksNever, ReadsPair, AsksPair}
use Rattle.sled_base.specs.Payloads.Numbers.{ReadsU64}
use Rattle.sled_node.specs.Payloads.ShortStrings.{ReadsShort, AsksShort}
use Rattle.sled_node.specs.Payloads.Links.{ReadsLink, AsksLink}
use Rattle.sled_base.proofs.Payloads.Refusals.{refused_so, rest_of}
use Rattle.sled_node.proofs.Payloads.Links.{no_set, no_del, no_intention, asks_set, asks_del}
use Rattle.sled_node.proofs.serialization.links.LinkSerialize.deserialize.Goals as goal

pub returns-in_err-key-in-0-clause-refused : goal.returns-in_err-key-in-0-clause-refused
returns-in_err-key-in-0-clause-refused c =
    let p = err_from_is_err_and c.from_residual.result c.from_residual.ensures.1 in
    let input = c.args.input.now.now in
    rw (p.1, p.2) (refused_so (AsksPair AsksShort ReadsShort AsksShort) AsksLink (ReadsPair ReadsShort ReadsShort) ReadsLink (rest_of input) input c.in_err-key-in-0.field-0.0 (asks_set input c.in-len1-up.len_at_least c.in-0.is) (no_set input c.in-len1-up.len_at_least c.in-0.is) c.in_err-key-in-0.ensures.refused)

pub returns-in_err-read_short-in-1-clause-refused : goal.returns-in_err-read_short-in-1-clause-refused
returns-in_err-read_short-in-1-clause-refused c =
    let p = err_from_is_err_and c.from_residual-in_err-read_short-in-1.result c.from_residual-in_err-read_short-in-1.ensures.1 in
    let input = c.args.input.now.now in
    rw (p.1, p.2) (refused_so AsksShort AsksLink ReadsShort ReadsLink (rest_of input) input c.in_err-read_short-in-1.field-0.0 (asks_del input c.in-len1-up.len_at_least c.in-1.is) (no_del input c.in-len1-up.len_at_least c.in-1.is) c.in_err-read_short-in-1.ensures.refused)

pub returns-in_err-deserialize-in-2-clause-refused : goal.returns-in_err-deserialize-in-2-clause-refused
returns-in_err-deserialize-in-2-clause-refused c =
    let p = err_from_is_err_and c.from_residual-in_err-deserialize-in-2.result c.from_residual-in_err-deserialize-in-2.ensures.1 in
    let input = c.args.input.now.now in
    rw (p.1, p.2) (refused_so AsksNever AsksLink ReadsU64 ReadsLink (rest_of input) input c.in_err-deserialize-in-2.field-0.0 (λ never. absurd never) (no_intention input c.in-len1-up.len_at_least c.in-2.is) c.in_err-deserialize-in-2.ensures.refused)
