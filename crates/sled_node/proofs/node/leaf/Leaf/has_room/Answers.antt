use Rattle.std.proofs.Common.{[], ◌∷◌, ◌^◌, arith, lt-ltb}
use Rattle.std.proofs.lemmas.List.{length-append}
use Rattle.sled_node.specs.Pairs.{pairs_below, pairs_above}
use Rattle.sled_node.proofs.Edits.{few_del}
use Rattle.sled_node.proofs.LeafStrings.{room_so}
use Rattle.sled_node.proofs.node.leaf.Leaf.has_room.Goals as goal

-- one pair more at most
pub returns-then-len-lt-MAX_PAIRS : goal.returns-then-len-lt-MAX_PAIRS
returns-then-len-lt-MAX_PAIRS c =
    let key = c.args.key.now in
    let pairs = c.args.self.now in
    let few = few_del key pairs in
    (λ h. omega (arith, c.len.ensures, length-append (pairs_below key pairs) ((key, []) ∷ pairs_above key pairs), few), λ h. lt-ltb c.len.result (2 ^ 24) c.if-len-lt-MAX_PAIRS.true)

-- a full leaf
pub returns-else-len-lt-MAX_PAIRS : goal.returns-else-len-lt-MAX_PAIRS
returns-else-len-lt-MAX_PAIRS c =
    rw (c.is_ok.ensures.value) (room_so c.args.key.now [] c.args.self.now (2 ^ 24) c.place_of_key.result (omega (arith, c.len.ensures, c.strings.ensures.stored.few, c.if-len-lt-MAX_PAIRS.false)) c.place_of_key.ensures.found c.place_of_key.ensures.missing)
