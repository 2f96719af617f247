use Rattle.std.proofs.Common.{None, [], ◌∷◌, ◌++◌, ap, ◌∙◌, refl, arith}
use Rattle.sled_base.specs.Links.{listed_in}
use Rattle.sled_base.specs.declared.dll.links.Links.{Links}
use Rattle.sled_base.specs.declared.dll.cell.Cell.TheVariants.{Free}
use Rattle.sled_base.proofs.LinkedLists.Keeping.{Lists}
use Rattle.sled_base.proofs.LinkedLists.Adding.{added}
use Rattle.sled_base.proofs.dll.links.Links.add.Goals as goal
use Rattle.sled_base.proofs.dll.links.Links.add.Goals.{After-push_reserved}

-- the cells after it
lists_as_before : (c : After-push_reserved) → Lists (record { 0 = c.len-2.result } ∷ []) (record { cells = c.push_reserved.new.self; head = c.args.self.now.head; tail = c.args.self.now.tail; free = c.args.self.now.free; len = c.args.self.now.len }) (listed_in c.args.self.now)
lists_as_before c =
    let old = c.args.self.now in
    let new : Links = record { cells = c.push_reserved.new.self; head = old.head; tail = old.tail; free = old.free; len = old.len } in
    let cells = c.push_reserved.ensures.items ∙ ap (λ cell. c.reserve.new.items.items ++ cell ∷ []) (c.free.ensures ∙ ap Free c.none.ensures) ∙ ap (λ cells. cells ++ Free None ∷ []) c.reserve.ensures.items in
    added old new (record { 0 = c.len-2.result }) (Free None) c.requires (omega (arith, c.if-len.false, c.len.ensures, old.cells.ok.0)) (c.len-2.ensures ∙ c.reserve.ensures.len ∙ old.cells.ok.0) cells refl refl refl refl

pub returns-clause-ok : goal.returns-clause-ok
returns-clause-ok c = (lists_as_before (goal.at.returns-clause-ok c).After-push_reserved).kept

pub returns-clause-list : goal.returns-clause-list
returns-clause-list c = (lists_as_before (goal.at.returns-clause-list c).After-push_reserved).is
