use Rattle.std.proofs.Common.{◌≡◌, ◌≢◌, ◌==◌, ◌∙◌, [], true, false, length, inl, arith, ap, sym}
use Rattle.std.proofs.lemmas.Bool.{eqb-true, eq-eqb}
use Rattle.std.proofs.lemmas.List.{nil_from_length}
use Rattle.std.specs.Global.{Vec}
use Rattle.std.specs.Vec.{vec_len}
use Rattle.sled_base.specs.Order.{Bytes}
use Rattle.sled_tree.proofs.OrderedReads.{first-fails, read-ends, read-fails, read-first, read-lost, read-on}
use Rattle.sled_tree.proofs.OrderedSeen.{last-piece, some-piece, part-further}
use Rattle.sled_tree.proofs.neighbours.pieces.pairs_within.Goals as goal

empty-is : (pairs : Vec (Bytes × Bytes)) → (vec_len pairs == 0) ≡ true → pairs.items ≡ []
empty-is pairs none = let e = eqb-true (vec_len pairs) 0 none in nil_from_length pairs.items (omega (arith, e, pairs.ok.0))

some-is : (pairs : Vec (Bytes × Bytes)) → (vec_len pairs == 0) ≡ false → pairs.items ≢ []
some-is pairs some none =
    let e : length pairs.items ≡ 0 = ap length none in
    absurd (let h = eq-eqb (vec_len pairs) 0 (omega (arith, e, pairs.ok.0)) in cc)

pub leaves-init : goal.leaves-init
leaves-init g c = read-first g.L.Log c.in_ok-part.ensures

pub leaves-preserved : goal.leaves-preserved
leaves-preserved g c =
    let part = c.leaves.part in
    let none : part.pairs.items ≡ [] = empty-is part.pairs (sym c.is_empty.ensures ∙ c.if-not-is_empty.false) in
    let more : part.end ≢ [] = λ e. absurd (let h = c.is_past.ensures.1 (inl e) in let f = c.if-is_past.false in cc) in
    read-on g.L.Log c.leaves.invariant
    (λ pages so_far then m tree. part-further c.args.from.now c.args.to.now m part (so_far m tree) none more c.in_ok-part-2.part (then m tree)) c.in_ok-part-2.ensures

pub returns-then-is_past : goal.returns-then-is_past
returns-then-is_past g c =
    read-ends g.L.Log c.leaves.invariant (λ pages seen m tree. last-piece c.args.from.now c.args.to.now m c.leaves.part (seen m tree) (c.is_past.ensures.0 c.if-is_past.true))

pub returns-then-not-is_empty : goal.returns-then-not-is_empty
returns-then-not-is_empty g c =
    let part = c.leaves.part in
    let some = some-is part.pairs (sym c.is_empty.ensures ∙ c.if-not-is_empty.true) in
    let more : part.end ≢ [] = λ e. absurd (let h = c.is_past.ensures.1 (inl e) in let f = c.if-is_past.false in cc) in
    read-ends g.L.Log c.leaves.invariant (λ pages seen m tree. some-piece c.args.from.now c.args.to.now m part (seen m tree) some more)

pub returns-in_err-part : goal.returns-in_err-part
returns-in_err-part g c = first-fails g.L.Log c.from_residual.ensures.0 c.part_of.ensures

pub returns-in_err-part-2 : goal.returns-in_err-part-2
returns-in_err-part-2 g c = read-fails g.L.Log c.leaves.invariant c.from_residual-in_err-part-2.ensures.0 c.part_of-in-leaves.ensures

pub returns : goal.returns
returns g c = read-lost g.L.Log c.leaves.invariant
