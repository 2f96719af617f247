use Rattle.std.proofs.Common.{inl, inr, sym, subst}
use Rattle.std.proofs.lemmas.Result.{err_from_is_err_and}
use Rattle.sled_base.specs.Payloads.Reading.{ReadsPair, AsksPair}
use Rattle.sled_node.specs.Payloads.ShortStrings.{ReadsShort, AsksShort}
use Rattle.sled_node.specs.Payloads.ShortStringLaws.{Short-grammar}
use Rattle.sled_base.proofs.Payloads.Refusals.{refused_so}
use Rattle.sled_node.proofs.serialization.links.read_two.Goals as goal

-- without the first there aren't two
pub returns-in_err-key-clause-refused : goal.returns-in_err-key-clause-refused
returns-in_err-key-clause-refused c =
    let p = err_from_is_err_and c.from_residual.result c.from_residual.ensures.1 in
    let input = c.args.input.now.now in
    rw (p.1, p.2) (refused_so AsksShort (AsksPair AsksShort ReadsShort AsksShort) ReadsShort (ReadsPair ReadsShort ReadsShort) input input c.in_err-key.field-0.0 (λ asks. inl asks) (λ nothing pair rest found. nothing pair.0 found.0 found.1) c.in_err-key.ensures.refused)

-- nor without the second
pub returns-in_err-value-clause-refused : goal.returns-in_err-value-clause-refused
returns-in_err-value-clause-refused c =
    let p = err_from_is_err_and c.from_residual-in_err-value.result c.from_residual-in_err-value.ensures.1 in
    let input = c.args.input.now.now in
    let middle = c.read_short.new.input.now in
    let read = c.in_ok-key.ensures.read in
    rw (p.1, p.2) (refused_so AsksShort (AsksPair AsksShort ReadsShort AsksShort) ReadsShort (ReadsPair ReadsShort ReadsShort) middle input c.in_err-value.field-0.0 (λ asks. inr (c.in_ok-key.key, middle, c.in_ok-key.ensures.read, asks)) (λ nothing pair rest found.
    let same = Short-grammar.one_reading input c.in_ok-key.key pair.0 middle found.0 read found.1 in
    nothing pair.1 rest (subst (λ k. ReadsShort k pair.1 rest) (sym same.1) found.2)) c.in_err-value.ensures.refused)
