use Rattle.std.proofs.Common.{ap, subst, sym, ◌∙◌}
use Rattle.std.specs.Option.{option_map}
use Rattle.std.specs.Int.NonZero.{non_zero_u64_get}
use Rattle.sled_node.specs.declared.node.link.Link.TheVariants.{Del}
use Rattle.sled_node.specs.Node.{IsWellFormed}
use Rattle.sled_node.specs.Links.{applied}
use Rattle.sled_node.proofs.NodeEdits.{del_kept, well_formed_del}
use Rattle.sled_node.proofs.node.Node.del_leaf.Goals as goal

pub invariant_of-self : goal.invariant_of-self
invariant_of-self c =
    let n = c.self.inside in
    let leaf = ap (λ node. node.is_index) c.self.view_is ∙ c.requires.0 in
    let done = del_kept n.prefix_len (option_map non_zero_u64_get n.next) (option_map non_zero_u64_get n.merging_child) n.merging n.lo n.hi n.contents c.args.key.now leaf in
    rw (c.del.ensures, c.as_slice.ensures) (subst IsWellFormed (sym done) (well_formed_del _ c.args.key.now c.self.invariant))

pub returns : goal.returns
returns c =
    let n = c.self.inside in
    let leaf = ap (λ node. node.is_index) c.self.view_is ∙ c.requires.0 in
    let done = del_kept n.prefix_len (option_map non_zero_u64_get n.next) (option_map non_zero_u64_get n.merging_child) n.merging n.lo n.hi n.contents c.args.key.now leaf in
    rw (c.del.ensures, c.as_slice.ensures) (done ∙ ap (applied (Del c.args.key.now)) c.self.view_is)
