use Rattle.std.proofs.Common.{sym, subst}
use Rattle.std.proofs.lemmas.Result.{err_from_is_err_and}
use Rattle.sled_base.specs.Payloads.Reading.{AsksNever}
use Rattle.sled_node.specs.Payloads.ShortStrings.{ReadsShort, AsksShort}
use Rattle.sled_node.specs.Payloads.ShortStringLaws.{Short-grammar}
use Rattle.sled_base.specs.Payloads.Numbers.{ReadsU64}
use Rattle.sled_node.specs.Payloads.Roots.{ReadsRoot}
use Rattle.sled_base.proofs.Payloads.Refusals.{refused_so}
use Rattle.sled_node.proofs.meta.payload.read_root.Goals as goal

-- without the name there is no pair
pub returns-in_err-name-clause-refused : goal.returns-in_err-name-clause-refused
returns-in_err-name-clause-refused c =
    let p = err_from_is_err_and c.from_residual.result c.from_residual.ensures.1 in
    let input = c.args.input.now.now in
    rw (p.1, p.2) (refused_so AsksShort AsksShort ReadsShort ReadsRoot input input c.in_err-name.field-0.0 (λ asks. asks) (λ nothing pair rest found. nothing pair.0 found.0 found.1) c.in_err-name.ensures.refused)

-- nor without the page
pub returns-in_err-root-clause-refused : goal.returns-in_err-root-clause-refused
returns-in_err-root-clause-refused c =
    let p = err_from_is_err_and c.from_residual-in_err-root.result c.from_residual-in_err-root.ensures.1 in
    let input = c.args.input.now.now in
    let middle = c.read_short.new.input.now in
    let read = c.in_ok-name.ensures.read in
    rw (p.1, p.2) (refused_so AsksNever AsksShort ReadsU64 ReadsRoot middle input c.in_err-root.field-0.0 (λ never. absurd never) (λ nothing pair rest found.
    let same = Short-grammar.one_reading input c.in_ok-name.name pair.0 middle found.0 read found.1 in
    nothing pair.1 rest (subst (λ k. ReadsU64 k pair.1 rest) (sym same.1) found.2)) c.in_err-root.ensures.refused)
