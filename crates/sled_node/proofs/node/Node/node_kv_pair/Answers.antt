use Rattle.std.proofs.Common.{subst, sym, ap, ◌∙◌}
use Rattle.sled_node.specs.Node.{whole}
use Rattle.sled_node.specs.Lookups.{HasValue}
use Rattle.sled_node.proofs.StoredPairs.{found_pair, stored_is_rest}
use Rattle.sled_node.proofs.Nearest.{gap_lacks}
use Rattle.sled_node.proofs.node.Node.node_kv_pair.Goals as goal

pub returns-in_ok-from_slice-in-Ok-clause-stored : goal.returns-in_ok-from_slice-in-Ok-clause-stored
returns-in_ok-from_slice-in-Ok-clause-stored c =
    let n = c.args.self.now in
    let stored = c.leaf_pair.result.0.now in
    let found = found_pair n c.args.key.now c.in-Ok.at stored c.leaf_pair.result.1.now c.leaf_pair.ensures.there c.in-Ok.ensures.same in
    c.in_ok-stored-in-Ok.ensures.ok ∙ stored_is_rest n c.leaf_pair.ensures.well_formed c.args.key.now stored found.0

pub returns-in_ok-from_slice-in-Ok-clause-key : goal.returns-in_ok-from_slice-in-Ok-clause-key
returns-in_ok-from_slice-in-Ok-clause-key c =
    let n = c.args.self.now in
    let found = found_pair n c.args.key.now c.in-Ok.at c.leaf_pair.result.0.now c.leaf_pair.result.1.now c.leaf_pair.ensures.there c.in-Ok.ensures.same in
    ap (whole n) c.in_ok-stored-in-Ok.ensures.ok ∙ found.0

pub returns-in_ok-from_slice-in-Ok-clause-value : goal.returns-in_ok-from_slice-in-Ok-clause-value
returns-in_ok-from_slice-in-Ok-clause-value c =
    let n = c.args.self.now in
    let found = found_pair n c.args.key.now c.in-Ok.at c.leaf_pair.result.0.now c.leaf_pair.result.1.now c.leaf_pair.ensures.there c.in-Ok.ensures.same in
    subst (HasValue n c.args.key.now) (sym c.in_ok-from_slice-in-Ok.ensures.ok) found.1

pub returns-in_ok-from_slice-in-Err-clause-absent : goal.returns-in_ok-from_slice-in-Err-clause-absent
returns-in_ok-from_slice-in-Err-clause-absent c = gap_lacks c.args.key.now c.args.self.now.pairs c.in-Err.field-0 c.in-Err.ensures.missing
