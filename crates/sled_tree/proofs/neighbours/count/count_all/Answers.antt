use Rattle.std.proofs.Common.{◌≡◌, ◌≢◌, ◌+◌, [], subst}
use Rattle.sled_base.specs.Order.{Bytes}
use Rattle.sled_tree.specs.OrderedLeaves.{HasPart, IsCounted}
use Rattle.sled_tree.proofs.OrderedCounts.{counted-first, counted-next, counted-all}
use Rattle.sled_tree.proofs.OrderedReads.{first-fails, read-ends, read-fails, read-first, read-lost, read-on}
use Rattle.sled_tree.proofs.Performing.{on-weaker}
use Rattle.sled_tree.proofs.neighbours.count.count_all.Goals as goal

pub leaves-init : goal.leaves-init
leaves-init g c =
    let root = c.args.root in
    let part = c.in_ok-part.part in
    on-weaker g.L.Log (λ pages. HasPart pages root [] part) (λ pages. IsCounted pages root 0 part) c.args.cache.now c.part_of.new.cache (λ pages. counted-first pages root part)
    (read-first g.L.Log c.in_ok-part.ensures)

pub leaves-preserved : goal.leaves-preserved
leaves-preserved g c =
    let root = c.args.root in
    let part = c.leaves.part in
    let next = c.in_ok-part-2.part in
    let sum : c.in-Some.sum ≡ c.leaves.count + part.pairs = c.in-Some.ensures.1 in
    let end : c.as_slice.result.now ≡ part.end = c.as_slice.ensures in
    let more : part.end ≢ [] = λ e. absurd (let h = c.is_empty.ensures.1 e in let f = c.if-is_empty.false in cc) in
    read-on g.L.Log c.leaves.invariant
    (λ pages so_far then. rw sum (counted-next pages root c.leaves.count part next so_far more (subst (λ (k : Bytes). HasPart pages root k next) end then)))
    c.in_ok-part-2.ensures

pub returns-then-is_empty : goal.returns-then-is_empty
returns-then-is_empty g c =
    let part = c.leaves.part in
    let sum : c.in-Some.sum ≡ c.leaves.count + part.pairs = c.in-Some.ensures.1 in
    read-ends g.L.Log c.leaves.invariant
    (λ pages so_far m tree. rw sum (counted-all pages c.args.root c.leaves.count part so_far (c.is_empty.ensures.0 c.if-is_empty.true) m tree))

pub returns-in_err-part : goal.returns-in_err-part
returns-in_err-part g c = first-fails g.L.Log c.from_residual.ensures.0 c.part_of.ensures

pub returns-in_err-part-2 : goal.returns-in_err-part-2
returns-in_err-part-2 g c = read-fails g.L.Log c.leaves.invariant c.from_residual-in_err-part-2.ensures.0 c.part_of-in-leaves.ensures

pub returns : goal.returns
returns g c = read-lost g.L.Log c.leaves.invariant
