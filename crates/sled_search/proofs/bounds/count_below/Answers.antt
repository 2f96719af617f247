use Rattle.std.proofs.Common.{◌≡◌, ◌<◌, ◌-◌, suc, length, arith, subst}
use Rattle.sled_base.specs.Order.{IsBelow, IsAtMost}
use Rattle.sled_node.specs.Neighbours.{IsCount}
use Rattle.sled_search.proofs.Counts.{all-below-end, item-at, less-one, less-other, less-none}
use Rattle.sled_search.proofs.bounds.count_below.Goals as goal

pub returns-then-not-contains_key : goal.returns-then-not-contains_key
returns-then-not-contains_key c = rw c.len.ensures (all-below-end c.args.node.now c.args.key.now c.data.ensures.well_formed c.requires.low (λ in'. grind (arith, c.contains_key.ensures.1 in', c.if-not-contains_key.true)))

pub returns-then-count-eq0 : goal.returns-then-count-eq0
returns-then-count-eq0 c =
    let key = c.args.key.now in
    let pairs = c.args.node.now.pairs in
    less-none key pairs 0 (omega arith) (subst (λ n. IsCount (λ other. IsAtMost other key) (λ other. IsBelow key other) pairs n) c.if-count-eq0.true c.count_up_to-count.ensures)

pub returns-then-is_key_at : goal.returns-then-is_key_at
returns-then-is_key_at c =
    let pairs = c.args.node.now.pairs in
    let count = c.count_up_to-count.result in
    let next : count ≡ suc (count - 1) = omega (arith, c.if-count-eq0.false) in
    let within : count - 1 < length pairs = omega (arith, c.count_up_to-count.ensures.within, c.if-count-eq0.false) in
    let (found, item, there) = item-at pairs (count - 1) within in
    less-one c.args.key.now pairs count (count - 1) found item next c.data.ensures.well_formed.ascending there ((c.is_key_at.ensures found item there).0 c.if-is_key_at.true) c.count_up_to-count.ensures

pub returns : goal.returns
returns c =
    let pairs = c.args.node.now.pairs in
    let count = c.count_up_to-count.result in
    let next : count ≡ suc (count - 1) = omega (arith, c.if-count-eq0.false) in
    let within : count - 1 < length pairs = omega (arith, c.count_up_to-count.ensures.within, c.if-count-eq0.false) in
    let (found, item, there) = item-at pairs (count - 1) within in
    less-other c.args.key.now pairs count (count - 1) found item next c.data.ensures.well_formed.ascending there (λ e. let yes = (c.is_key_at.ensures found item there).1 e in let no = c.if-is_key_at.false in absurd cc) c.count_up_to-count.ensures
