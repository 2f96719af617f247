use Rattle.std.proofs.Common.{◌*◌, sym, subst, arith}
use Rattle.std.specs.Prelude.{⊤}
use Rattle.std.proofs.lemmas.Result.{err_from_is_err_and}
use Rattle.sled_base.specs.Payloads.ByteStrings.{ReadsBytes}
use Rattle.sled_base.specs.Payloads.ByteStringLaws.{Bytes-grammar}
use Rattle.sled_node.specs.LeafStrings.{paired}
use Rattle.sled_node.specs.Pairs.{IsWithinLimit, HasPairs}
use Rattle.sled_node.specs.Payloads.Sequences.{ReadsCount}
use Rattle.sled_node.specs.Payloads.ShortStrings.{ReadsShort}
use Rattle.sled_node.specs.Payloads.Pairs.{ReadsPairs, AsksPairs}
use Rattle.sled_node.specs.Payloads.PairLaws.{Pairs-grammar}
use Rattle.sled_node.specs.Payloads.Data.{ReadsLeaf}
use Rattle.sled_base.proofs.Payloads.Refusals.{refused_so}
use Rattle.sled_node.proofs.Payloads.PairReads.{only_others}
use Rattle.sled_node.proofs.LeafPayloads.{halves, leaf_read, no_leaf_strings}
use Rattle.sled_node.proofs.node.payload.read_leaf.Goals as goal

-- where there are no such pairs, there is no leaf
pub returns-in_default-split_pairs-clause-refused : goal.returns-in_default-split_pairs-clause-refused
returns-in_default-split_pairs-clause-refused c = λ pairs rest found. c.in_default-split_pairs.ensures.nothing pairs rest found.0

-- nor where there are not so many strings
pub returns-in_err-strings-clause-refused : goal.returns-in_err-strings-clause-refused
returns-in_err-strings-clause-refused c =
    let p = err_from_is_err_and c.from_residual.result c.from_residual.ensures.1 in
    let input = c.args.input.now.now in
    let count = c.in-Some-split_pairs.count in
    let keys = c.in-Some-split_pairs.keys.now in
    let split = c.in-Some-split_pairs.ensures.found in
    let asks : AsksPairs input = record { count = count; keys = keys; items = c.in-Some-split_pairs.field-0-2.now; split = split; some = omega arith } in
    rw (p.1, p.2) (refused_so (λ _. ⊤) AsksPairs (ReadsCount (2 * count) ReadsShort) ReadsLeaf keys input c.in_err-strings.field-0.0 (λ _. asks) (no_leaf_strings input count keys split.counted) c.in_err-strings.ensures.refused)

pub of_strings-requires : goal.of_strings-requires
of_strings-requires c = halves c.in_ok-strings.strings c.in-Some-split_pairs.count c.in_ok-strings.ensures.read.0

pub returns-in-Some-of_strings-clause-read : goal.returns-in-Some-of_strings-clause-read
returns-in-Some-of_strings-clause-read c =
    let input = c.args.input.now.now in
    let rest = c.read_each.new.input.now in
    let split = c.in-Some-split_pairs.ensures.found in
    let read = leaf_read input c.in-Some-split_pairs.count c.in-Some-split_pairs.keys.now split.counted split.few c.in_ok-strings.strings rest c.in_ok-strings.ensures.read in
    let leaf = c.in-Some-of_strings.ensures in
    subst (λ pairs. ReadsLeaf input pairs rest) (sym leaf.1) (read, leaf.0)

-- where the pairs that are read don't keep what they have to
pub returns-in-None-clause-refused : goal.returns-in-None-clause-refused
returns-in-None-clause-refused c =
    let input = c.args.input.now.now in
    let rest = c.read_each.new.input.now in
    let split = c.in-Some-split_pairs.ensures.found in
    let read = leaf_read input c.in-Some-split_pairs.count c.in-Some-split_pairs.keys.now split.counted split.few c.in_ok-strings.strings rest c.in_ok-strings.ensures.read in
    only_others (ReadsPairs ReadsBytes) (HasPairs IsWithinLimit) (Pairs-grammar Bytes-grammar) input (paired c.in_ok-strings.strings) rest read c.in-None.ensures
