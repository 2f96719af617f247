use Rattle.std.proofs.Common.{◌↔◌, IsTrue, Some, ap, sym, subst, ◌∙◌}
use Rattle.std.specs.Option.{option_map}
use Rattle.std.specs.Int.NonZero.{non_zero_u64_get}
use Rattle.sled_node.specs.declared.node.link.Link.TheVariants.{ParentMergeConfirm}
use Rattle.sled_node.specs.Links.{AcceptsHere}
use Rattle.sled_node.proofs.Merging.{leads_alike}
use Rattle.sled_node.proofs.node.Node.leads_to_merging_child.Goals as goal

pub returns-in-Some : goal.returns-in-Some
returns-in-Some c =
    let n = c.self.inside in
    let next = option_map non_zero_u64_get n.next in
    let child = option_map non_zero_u64_get n.merging_child in
    let marked = ap (option_map non_zero_u64_get) c.in-Some.is ∙ ap (λ page. Some page) (sym c.get.ensures.value) in
    let alike = leads_alike n.prefix_len next child n.merging n.lo n.hi c.get.result marked n.contents in
    subst (λ m. IsTrue c.leads_to.result ↔ AcceptsHere m ParentMergeConfirm) c.self.view_is (λ yes. alike.0 (c.leads_to.ensures.0 yes), λ accepts. c.leads_to.ensures.1 (alike.1 accepts))
