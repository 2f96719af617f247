use Rattle.std.proofs.Common.{subst, sym}
use Rattle.std.specs.Option.{option_map}
use Rattle.std.specs.Int.NonZero.{non_zero_u64_get}
use Rattle.sled_node.specs.Node.{IsWellFormed}
use Rattle.sled_node.proofs.Children.{holds_index, has_key_stored, room_stored, missing_alike, well_formed_inserted, inserted_kept}
use Rattle.sled_node.proofs.node.Node.parent_split.Goals as goal

pub insert-requires-clause-room : goal.insert-requires-clause-room
insert-requires-clause-room c =
    let n = c.self.inside in
    let holds = holds_index n.prefix_len (option_map non_zero_u64_get n.next) (option_map non_zero_u64_get n.merging_child) n.merging n.lo n.hi n.contents c.in-Index.index c.args.self.now c.in-Index.is c.self.view_is in
    room_stored c.args.self.now c.in-Index.index holds c.without_prefix-stored.result.now c.args.at.now c.without_prefix-stored.ensures.key c.requires.room

pub invariant_of-self-2 : goal.invariant_of-self-2
invariant_of-self-2 c =
    let n = c.self.inside in
    let holds = holds_index n.prefix_len (option_map non_zero_u64_get n.next) (option_map non_zero_u64_get n.merging_child) n.merging n.lo n.hi n.contents c.in-Index.index c.args.self.now c.in-Index.is c.self.view_is in
    let done = inserted_kept n.prefix_len (option_map non_zero_u64_get n.next) (option_map non_zero_u64_get n.merging_child) n.merging n.lo n.hi n.contents c.in-Index.index c.args.self.now c.in_ok-is_new.is_new c.without_prefix-stored.result.now c.args.at.now c.args.to c.in-Index.is c.self.view_is c.without_prefix-stored.ensures.key in
    let new = missing_alike c.args.self.now c.in-Index.index holds c.without_prefix-stored.result.now c.args.at.now c.without_prefix-stored.ensures.key c.in_ok-is_new.is_new c.in_ok-is_new.ensures.new in
    let formed = subst IsWellFormed c.self.view_is c.self.invariant in
    rw c.in_ok-is_new.ensures.value (subst IsWellFormed (sym done) (well_formed_inserted c.in_ok-is_new.is_new c.args.self.now c.args.at.now c.args.to formed c.requires.index c.requires.range c.requires.limit c.ranges.to.fits c.requires.room new))

pub returns-clause-new : goal.returns-clause-new
returns-clause-new c =
    let n = c.self.inside in
    let holds = holds_index n.prefix_len (option_map non_zero_u64_get n.next) (option_map non_zero_u64_get n.merging_child) n.merging n.lo n.hi n.contents c.in-Index.index c.args.self.now c.in-Index.is c.self.view_is in
    missing_alike c.args.self.now c.in-Index.index holds c.without_prefix-stored.result.now c.args.at.now c.without_prefix-stored.ensures.key c.in_ok-is_new.is_new c.in_ok-is_new.ensures.new

pub returns-clause-value : goal.returns-clause-value
returns-clause-value c =
    let n = c.self.inside in
    let done = inserted_kept n.prefix_len (option_map non_zero_u64_get n.next) (option_map non_zero_u64_get n.merging_child) n.merging n.lo n.hi n.contents c.in-Index.index c.args.self.now c.in_ok-is_new.is_new c.without_prefix-stored.result.now c.args.at.now c.args.to c.in-Index.is c.self.view_is c.without_prefix-stored.ensures.key in
    rw c.in_ok-is_new.ensures.value done

-- a key that is there takes no memory
pub returns-in_err-is_new-clause-there : goal.returns-in_err-is_new-clause-there
returns-in_err-is_new-clause-there c =
    let n = c.self.inside in
    let holds = holds_index n.prefix_len (option_map non_zero_u64_get n.next) (option_map non_zero_u64_get n.merging_child) n.merging n.lo n.hi n.contents c.in-Index.index c.args.self.now c.in-Index.is c.self.view_is in
    λ there. let taken = c.in_err-is_new.ensures.there (has_key_stored c.args.self.now c.in-Index.index holds c.without_prefix-stored.result.now c.args.at.now c.without_prefix-stored.ensures.key there) in absurd cc
