use Rattle.std.proofs.Common.{ap, subst, sym, ◌∙◌}
use Rattle.std.specs.Option.{option_map}
use Rattle.std.specs.Int.NonZero.{non_zero_u64_get}
use Rattle.sled_node.specs.declared.node.link.Link.TheVariants.{Set}
use Rattle.sled_node.specs.Node.{IsWellFormed}
use Rattle.sled_node.specs.Links.{AcceptsHere, applied}
use Rattle.sled_node.proofs.NodeEdits.{can_set_kept, set_kept, well_formed_set}
use Rattle.sled_node.proofs.node.Node.put.Goals as goal

pub set-requires : goal.set-requires
set-requires c =
    let n = c.self.inside in
    let accepts = subst (λ node. AcceptsHere node (Set c.args.key.now c.args.value.now)) (sym c.self.view_is) c.requires in
    can_set_kept n.prefix_len (option_map non_zero_u64_get n.next) (option_map non_zero_u64_get n.merging_child) n.merging n.lo n.hi n.contents c.args.key.now c.args.value.now accepts

pub invariant_of-self-2 : goal.invariant_of-self-2
invariant_of-self-2 c =
    let n = c.self.inside in
    let accepts = subst (λ node. AcceptsHere node (Set c.args.key.now c.args.value.now)) (sym c.self.view_is) c.requires in
    let done = set_kept n.prefix_len (option_map non_zero_u64_get n.next) (option_map non_zero_u64_get n.merging_child) n.merging n.lo n.hi n.contents c.args.key.now c.args.value.now accepts.0 in
    rw c.in_ok-set.ensures.ok (subst IsWellFormed (sym done) (well_formed_set _ c.args.key.now c.args.value.now c.self.invariant accepts))

pub returns-clause-ok : goal.returns-clause-ok
returns-clause-ok c =
    let n = c.self.inside in
    let leaf = ap (λ node. node.is_index) c.self.view_is ∙ c.requires.0 in
    let done = set_kept n.prefix_len (option_map non_zero_u64_get n.next) (option_map non_zero_u64_get n.merging_child) n.merging n.lo n.hi n.contents c.args.key.now c.args.value.now leaf in
    rw c.in_ok-set.ensures.ok (done ∙ ap (applied (Set c.args.key.now c.args.value.now)) c.self.view_is)
