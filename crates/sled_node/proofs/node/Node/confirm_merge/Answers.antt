use Rattle.std.proofs.Common.{Some, ap, sym, subst, ◌∙◌}
use Rattle.std.specs.Option.{option_map}
use Rattle.std.specs.Int.NonZero.{non_zero_u64_get}
use Rattle.sled_node.specs.declared.node.link.Link.TheVariants.{ParentMergeConfirm}
use Rattle.sled_node.specs.Node.{IsWellFormed}
use Rattle.sled_node.specs.Links.{applied}
use Rattle.sled_node.proofs.Merging.{well_formed_confirm, confirm_kept}
use Rattle.sled_node.proofs.node.Node.confirm_merge.Goals as goal

pub invariant_of-self : goal.invariant_of-self
invariant_of-self c =
    let n = c.self.inside in
    let next = option_map non_zero_u64_get n.next in
    let child = option_map non_zero_u64_get n.merging_child in
    let marked = ap (option_map non_zero_u64_get) c.in-Some.is ∙ ap (λ page. Some page) (sym c.get.ensures.value) in
    let done = confirm_kept n.prefix_len next child n.merging n.lo n.hi c.get.result marked n.contents (ap (λ m. m.is_index) c.self.view_is ∙ c.requires.0) in
    rw c.remove_page.ensures (subst IsWellFormed (sym done) (well_formed_confirm _ c.self.invariant))

pub returns-in-Some : goal.returns-in-Some
returns-in-Some c =
    let n = c.self.inside in
    let next = option_map non_zero_u64_get n.next in
    let child = option_map non_zero_u64_get n.merging_child in
    let marked = ap (option_map non_zero_u64_get) c.in-Some.is ∙ ap (λ page. Some page) (sym c.get.ensures.value) in
    let done = confirm_kept n.prefix_len next child n.merging n.lo n.hi c.get.result marked n.contents (ap (λ m. m.is_index) c.self.view_is ∙ c.requires.0) in
    rw c.remove_page.ensures (done ∙ ap (applied ParentMergeConfirm) c.self.view_is)
