use Rattle.std.proofs.Common.{◌≡◌, sym, subst, arith}
use Rattle.sled_node.specs.Meta.{named_pages, with_root, IsRootMap, HasRoom}
use Rattle.sled_node.proofs.Edits.{has_set}
use Rattle.sled_node.proofs.Roots.{fits_with}
use Rattle.sled_node.proofs.meta.Meta.put_root.Goals as goal

pub invariant_of-self-2 : goal.invariant_of-self-2
invariant_of-self-2 c =
    let name = c.args.name.items in
    let root = c.args.root in
    let roots = named_pages c.self.inside.roots in
    let put : named_pages c.put_page.new.pages ≡ with_root name root roots = c.in_ok-former.ensures.ok in
    let room = subst (HasRoom name) (sym c.self.view_is) c.requires.room in
    subst IsRootMap (sym put) (has_set name roots c.self.invariant root c.requires.name (omega (arith, c.ranges.root.fits)) (fits_with name root roots c.self.invariant.few room))
