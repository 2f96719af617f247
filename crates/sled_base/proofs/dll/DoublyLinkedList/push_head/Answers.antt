use Rattle.std.proofs.Common.{rules, sym, ◌∙◌, subst}
use Rattle.std.specs.Prelude.{Contains}
use Rattle.sled_base.specs.Dll.{slots}
use Rattle.sled_base.proofs.LinkedLists.Keeping.{out_is_fresh}
use Rattle.sled_base.proofs.dll.DoublyLinkedList.push_head.Goals as goal

pub returns-clause-fresh : goal.returns-clause-fresh
returns-clause-fresh c live =
    out_is_fresh c.take.new.self c.in_ok-free.free c.in_ok-free.ensures.ok (subst (λ list. Contains (slots list) c.in_ok-free.free) (sym (c.in_ok-free.ensures.list ∙ c.self.view_is)) live)

-- A wrong body is refused at this answer, so that no offers are printed.
pub returns-clause-ok : goal.returns-clause-ok
returns-clause-ok c = search rules
