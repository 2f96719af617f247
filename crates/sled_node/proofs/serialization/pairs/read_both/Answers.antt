use Rattle.std.proofs.Common.{◌≤◌, sym, subst, arith}
use Rattle.std.proofs.lemmas.Result.{err_from_is_err_and}
use Rattle.sled_base.specs.Payloads.ByteStrings.{ReadsBytes, AsksBytes}
use Rattle.sled_node.specs.Payloads.Sequences.{ReadsAll}
use Rattle.sled_node.specs.Payloads.SequenceLaws.{ReadsAll-more}
use Rattle.sled_node.specs.Payloads.Pairs.{keys_of, items_of, ReadsBoth}
use Rattle.sled_base.proofs.Payloads.Refusals.{refused_so}
use Rattle.sled_node.proofs.Payloads.PairReads.{keys_more, items_more, length_more, no_key, no_item, both_read}
use Rattle.sled_node.proofs.serialization.pairs.read_both.Goals as goal

-- where the next key isn't read, so many pairs aren't
pub returns-in_err-key-clause-refused : goal.returns-in_err-key-clause-refused
returns-in_err-key-clause-refused g c =
    let p = err_from_is_err_and c.from_residual-in_err-key.result c.from_residual-in_err-key.ensures.1 in
    let reads = g.V.Serialize.reads in
    let keys = c.args.keys.now in
    let input = c.args.items.now.now in
    let rest = c.loop.key_rest.now in
    rw (p.1, p.2) (refused_so AsksBytes (λ _. 1 ≤ c.args.count) ReadsBytes (ReadsBoth reads c.args.count keys) rest input c.in_err-key.field-0.0 (λ _. omega (arith, c.loop.invariant.so_many)) (no_key reads g.met.V.Serialize.grammar c.args.count keys input c.loop.pairs.items (omega (arith, c.loop.invariant.so_many)) rest c.loop.invariant.keys) c.in_err-key.ensures.refused)

-- nor where the next item isn't
pub returns-in_err-item-clause-refused : goal.returns-in_err-item-clause-refused
returns-in_err-item-clause-refused g c =
    let p = err_from_is_err_and c.from_residual-in_err-item.result c.from_residual-in_err-item.ensures.1 in
    let reads = g.V.Serialize.reads in
    let keys = c.args.keys.now in
    let input = c.args.items.now.now in
    let rest = c.loop.item_rest.now in
    rw (p.1, p.2) (refused_so g.V.Serialize.asks (λ _. 1 ≤ c.args.count) reads (ReadsBoth reads c.args.count keys) rest input c.in_err-item.field-0.0 (λ _. omega (arith, c.loop.invariant.so_many)) (no_item reads g.met.V.Serialize.grammar c.args.count keys input c.loop.pairs.items (omega (arith, c.loop.invariant.so_many)) rest c.loop.invariant.items) c.in_err-item.ensures.refused)

pub loop-preserved : goal.loop-preserved
loop-preserved g c =
    let reads = g.V.Serialize.reads in
    let pairs = c.loop.pairs.items in
    let key = c.in_ok-key.key in
    let item = c.in_ok-item.item in
    let so_far = c.loop.invariant in
    record {
      so_many = rw c.in_ok-push.ensures.items (omega (arith, so_far.so_many, length_more pairs key item));
      keys = rw c.in_ok-push.ensures.items (subst (λ ks. ReadsAll ReadsBytes c.args.keys.now ks c.deserialize.new.input.now) (sym (keys_more pairs key item)) (ReadsAll-more ReadsBytes c.args.keys.now (keys_of pairs) c.loop.key_rest.now key c.deserialize.new.input.now so_far.keys c.in_ok-key.ensures.read));
      items = rw c.in_ok-push.ensures.items (subst (λ vs. ReadsAll reads c.args.items.now.now vs c.deserialize-in-loop.new.input.now) (sym (items_more pairs key item)) (ReadsAll-more reads c.args.items.now.now (items_of pairs) c.loop.item_rest.now item c.deserialize-in-loop.new.input.now so_far.items c.in_ok-item.ensures.read));
    }

pub returns-clause-read : goal.returns-clause-read
returns-clause-read g c =
    both_read g.V.Serialize.reads g.met.V.Serialize.grammar c.args.count c.args.keys.now c.args.items.now.now c.loop.pairs.items c.loop.key_rest.now c.loop.item_rest.now c.requires.behind (omega (arith, c.loop.invariant.so_many)) c.loop.invariant.keys c.loop.invariant.items
