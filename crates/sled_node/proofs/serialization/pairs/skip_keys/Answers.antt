use Rattle.std.proofs.Common.{[], ◌∷◌, ◌++◌, refl, arith}
use Rattle.std.proofs.lemmas.List.{length_push}
use Rattle.sled_base.specs.Payloads.ByteStrings.{ReadsBytes}
use Rattle.sled_node.specs.Payloads.SequenceLaws.{ReadsAll-more}
use Rattle.sled_node.proofs.Payloads.PairReads.{no_more_keys}
use Rattle.sled_node.proofs.serialization.pairs.skip_keys.Goals as goal

pub loop-init : goal.loop-init
loop-init c = ([], refl, refl)

pub loop-preserved : goal.loop-preserved
loop-preserved c =
    let so_far = c.loop.invariant in
    let key = c.in_ok-behind.field-0-0.now in
    (so_far.0 ++ key ∷ [], omega (arith, so_far.1, length_push so_far.0 key), ReadsAll-more ReadsBytes c.args.input.now so_far.0 c.loop.rest.now key c.in_ok-behind.behind.now so_far.2 c.in_ok-behind.ensures.read)

-- where the next key isn't read, so many aren't
pub returns-in_err-behind-clause-nothing : goal.returns-in_err-behind-clause-nothing
returns-in_err-behind-clause-nothing c =
    let so_far = c.loop.invariant in
    rw c.from_residual.ensures (no_more_keys c.args.count c.args.input.now so_far.0 c.loop.rest.now so_far.2 (omega (arith, so_far.1)) c.in_err-behind.ensures.nothing)

pub returns-clause-found : goal.returns-clause-found
returns-clause-found c = let so_far = c.loop.invariant in (so_far.0, (omega (arith, so_far.1), so_far.2))
