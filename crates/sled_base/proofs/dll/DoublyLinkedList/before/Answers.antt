use Rattle.std.proofs.Common.{[], ◌∙◌, ap, subst}
use Rattle.sled_base.specs.Dll.{listed}
use Rattle.sled_base.specs.Links.{IsLinkedListOf}
use Rattle.sled_base.specs.declared.dll.cell.Link.{Link}
use Rattle.sled_base.proofs.LinkedLists.Keeping.{link_is}
use Rattle.sled_base.proofs.dll.DoublyLinkedList.before.Goals as goal

pub returns : goal.returns
returns c front back item is =
    let links = c.self.inside.links in
    let kept = subst (λ list. IsLinkedListOf [] links list c.self.invariant.0) (c.self.view_is ∙ is) c.self.invariant.1 in
    c.get.ensures ∙ ap (λ (l : Link). l.before) (link_is links front back (listed c.args.slot item) c.self.invariant.0 c.link.result kept c.link.ensures)
