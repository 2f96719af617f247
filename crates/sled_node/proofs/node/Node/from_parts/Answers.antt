use Rattle.std.proofs.Common.{refl, arith}
use Rattle.std.specs.Option.{option_map}
use Rattle.std.specs.Int.NonZero.{non_zero_u64_get}
use Rattle.sled_node.proofs.WholeKeys.{bounds_within}
use Rattle.sled_node.proofs.FromParts.{parts_formed, parts_within}
use Rattle.sled_node.proofs.node.Node.from_parts.Goals as goal

pub rest_of-low-requires : goal.rest_of-low-requires
rest_of-low-requires c =
    (bounds_within c.args.prefix_len c.args.lo c.args.hi (c.are_bounds.ensures.0 c.if-not-are_bounds.false)).0

pub rest_of-high-requires : goal.rest_of-high-requires
rest_of-high-requires c =
    (bounds_within c.args.prefix_len c.args.lo c.args.hi (c.are_bounds.ensures.0 c.if-not-are_bounds.false)).1

pub returns-then-not-are_stored_within : goal.returns-then-not-are_stored_within
returns-then-not-are_stored_within c =
    let bounds = c.are_bounds.ensures.0 c.if-not-are_bounds.false in
    let stored = rw (c.rest_of-low.ensures, c.rest_of-high.ensures) at c.are_stored_within.ensures.within.1 in
    λ formed. let yes = stored (parts_within c.args.prefix_len (option_map non_zero_u64_get c.args.next) (option_map non_zero_u64_get c.args.merging_child) c.args.merging c.args.lo c.args.hi (omega arith) bounds c.args.contents formed) in absurd cc

pub invariant_of-result : goal.invariant_of-result
invariant_of-result c =
    let bounds = c.are_bounds.ensures.0 c.if-not-are_bounds.false in
    let within = rw (c.rest_of-low.ensures, c.rest_of-high.ensures) at c.are_stored_within.ensures.within.0 c.if-not-are_stored_within.false in
    parts_formed c.args.prefix_len (option_map non_zero_u64_get c.args.next) (option_map non_zero_u64_get c.args.merging_child) c.args.merging c.args.lo c.args.hi (omega arith) bounds (c.know_page.ensures, c.know_page-2.ensures) c.args.contents c.are_stored_within.ensures.stored within

pub returns : goal.returns
returns c = (invariant_of-result c, refl)
