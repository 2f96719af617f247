use Rattle.std.proofs.Common.{◌≡◌, Bool, true, Ok, subst}
use Rattle.sled_base.specs.Order.{Bytes}
use Rattle.sled_base.specs.declared.types.Error.{Error}
use Rattle.sled_tree.specs.Changed.{Reads}
use Rattle.sled_tree.specs.Performs.{Performs}
use Rattle.sled_tree.specs.Walks.{Leads}
use Rattle.sled_tree.proofs.OrderedReads.{read-first, read-then}
use Rattle.sled_tree.proofs.merging.plan.are_on_way.Goals as goal

pub returns : goal.returns
returns g c =
    let root = c.args.root in
    let page = c.args.page in
    let mid = c.is_on_way.new.cache in
    let one = subst (λ (key : Bytes). Performs g.L.Log (Reads {E = Error} (Ok c.in_ok-is_on_way.field-0) (λ pages (is : Bool). is ≡ true → Leads pages key root page)) c.args.cache.now mid) c.as_slice.ensures c.in_ok-is_on_way.ensures in
    let two = subst (λ (key : Bytes). Performs g.L.Log (Reads c.is_on_way-2.result (λ pages (is : Bool). is ≡ true → Leads pages key root page)) mid c.is_on_way-2.new.cache) c.as_slice-2.ensures c.is_on_way-2.ensures in
    read-then g.L.Log (read-first g.L.Log one) (λ pages one are two said. (one c.if-not-branch.false, two said)) two
