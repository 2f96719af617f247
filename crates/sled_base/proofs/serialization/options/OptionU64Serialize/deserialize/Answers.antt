use Rattle.std.proofs.lemmas.Result.{err_from_is_err_and}
use Rattle.sled_base.specs.Payloads.Reading.{AsksNever}
use Rattle.sled_base.specs.Payloads.Numbers.{ReadsU64}
use Rattle.sled_base.specs.Payloads.Options.{number_of, ReadsOption}
use Rattle.sled_base.proofs.Payloads.Refusals.{refused_so, by_number}
use Rattle.sled_base.proofs.serialization.options.OptionU64Serialize.deserialize.Goals as goal

-- where the number isn't read, nothing that is encoded as a number is
pub returns-in_err-number-clause-refused : goal.returns-in_err-number-clause-refused
returns-in_err-number-clause-refused c =
    let p = err_from_is_err_and c.from_residual.result c.from_residual.ensures.1 in
    let input = c.args.input.now.now in
    rw (p.1, p.2) (refused_so AsksNever AsksNever ReadsU64 ReadsOption input input c.in_err-number.field-0.0 (λ never. never) (by_number ReadsU64 number_of input) c.in_err-number.ensures.refused)
