use Rattle.sled_pagecache.proofs.Names.{◌∙◌, sym, ap, subst, Some, ◌≡◌, root_of, with_root, without_root}
use Rattle.std.specs.Prelude.{IfSome}
use Rattle.sled_node.specs.MetaLaws.{taken_back, given_back, reads_back}
use Rattle.sled_pagecache.proofs.Roots.RootWrites.{on-err}
use Rattle.sled_pagecache.proofs.pagecache.write.root_page.put_with.Goals as goal

-- a name that was there is given its former root where the map was not written
pub returns-then-is_err-clause-left : goal.returns-then-is_err-clause-left
returns-then-is_err-clause-left g c =
    let name = c.args.name.now in
    let root = c.args.root in
    let roots = c.args.roots.now in
    let former = c.in-Some.former in
    let set : c.replace_root.new.self ≡ with_root name root roots = c.in-Some.ensures.there in
    let again = c.replace_root-then-is_err.ensures in
    let found : c.replace_root-then-is_err.result ≡ Some root = again.former ∙ ap (root_of name) set ∙ reads_back name root roots in
    let given = subst (λ k. IfSome k (λ _. c.replace_root-then-is_err.new.self ≡ with_root name former c.replace_root.new.self)) found again.there in
    on-err _ c.put_map-written.result (given ∙ ap (with_root name former) set ∙ given_back name root former roots c.len.ensures.map.ascending (sym c.in-Some.ensures.former))

-- one that was put in is taken out
pub returns-then-is_err-2-clause-left : goal.returns-then-is_err-2-clause-left
returns-then-is_err-2-clause-left g c =
    let name = c.args.name.now in
    let root = c.args.root in
    let roots = c.args.roots.now in
    let same : c.replace_root.new.self ≡ roots = c.in_default.ensures.missing in
    let put = c.in-Ok-put_root.ensures.ok ∙ ap (λ k. with_root k root c.replace_root.new.self) c.in-Ok.ensures.items ∙ ap (with_root name root) same in
    on-err _ c.put_map-written-2.result (c.del_root.ensures.value ∙ ap (without_root name) put ∙ taken_back name root roots c.len.ensures.map.ascending (sym c.in_default.ensures.former))
