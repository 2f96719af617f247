use Rattle.std.proofs.Common.{length, sym, ap, subst, arith}
use Rattle.std.proofs.lemmas.List.{length_push}
use Rattle.sled_node.specs.Payloads.Sequences.{ReadsAll}
use Rattle.sled_node.specs.Payloads.SequenceLaws.{ReadsAll-more, ReadsAll-stops}
use Rattle.sled_node.specs.Payloads.ShortStrings.{ReadsShort}
use Rattle.sled_node.specs.Payloads.ShortStringLaws.{Short-grammar}
use Rattle.sled_node.proofs.LeafPayloads.{any_length}
use Rattle.sled_node.proofs.serialization.strings.read_each.Goals as goal

-- where the next string isn't read, so many aren't
pub returns-in_default-clause-refused : goal.returns-in_default-clause-refused
returns-in_default-clause-refused c = λ values rest found.
    ReadsAll-stops Short-grammar c.args.input.now.now c.loop.strings c.loop.rest.now c.loop.invariant.1 c.in_default.ensures.nothing values rest (omega (arith, c.loop.invariant.0, found.0)) found.1

-- one string more
pub loop-preserved : goal.loop-preserved
loop-preserved c =
    let input = c.args.input.now.now in
    let string = c.in-Some.string.now in
    let behind = c.in-Some.behind.now in
    let is = c.in_ok-push.ensures.ok in
    (omega (arith, c.loop.invariant.0, ap length is, length_push c.loop.strings string), subst (λ strings. ReadsAll ReadsShort input strings behind) (sym is) (ReadsAll-more ReadsShort input c.loop.strings c.loop.rest.now string behind c.loop.invariant.1 c.in-Some.ensures.read))

pub returns-clause-read : goal.returns-clause-read
returns-clause-read c = rw c.build.ensures (omega (arith, c.loop.invariant.0), any_length c.args.input.now.now c.loop.strings c.loop.rest.now c.loop.invariant.1)
