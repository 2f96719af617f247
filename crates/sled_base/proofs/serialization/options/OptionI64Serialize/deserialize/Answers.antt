use Rattle.std.proofs.lemmas.Result.{err_from_is_err_and}
use Rattle.sled_base.specs.Payloads.Reading.{AsksNever}
use Rattle.sled_base.specs.Payloads.Numbers.{ReadsI64}
use Rattle.sled_base.specs.Payloads.Options.{signed_of, ReadsSigned}
use Rattle.sled_base.proofs.Payloads.Refusals.{refused_so, by_number}
use Rattle.sled_base.proofs.serialization.options.OptionI64Serialize.deserialize.Goals as goal

-- where the number isn't read, nothing that is encoded as a number is
pub returns-in_err-deserialize-clause-refused : goal.returns-in_err-deserialize-clause-refused
returns-in_err-deserialize-clause-refused c =
    let p = err_from_is_err_and c.from_residual.result c.from_residual.ensures.1 in
    let input = c.args.input.now.now in
    rw (p.1, p.2) (refused_so AsksNever AsksNever ReadsI64 ReadsSigned input input c.in_err-deserialize.field-0.0 (λ never. never) (by_number ReadsI64 signed_of input) c.in_err-deserialize.ensures.refused)
