use Rattle.std.proofs.Common.{rules, ◌≡◌, ◌+◌, ◌∙◌, ◌++◌, ◌∷◌, [], sum_by, All, ap, sym, subst, arith}
use Rattle.std.proofs.lemmas.List.Elements.{All-push}
use Rattle.std.proofs.lemmas.List.Sums.{sum_by_push}
use Rattle.sled_shared.specs.Held.{Share, count_of}
use Rattle.sled_shared.specs.History.{HasAll}
use Rattle.sled_shared.proofs.held.count_up.Goals as goal

pub loop-share-preserved : goal.loop-share-preserved
loop-share-preserved g c =
    let P : Share → Type 0 = λ s. HasAll s.number s.seen c.args.history.log in
    let left = c.pop.new.self.items in
    let one : Share = c.in-Some.share in
    let pen = c.share.inside.pen in
    let is : c.loop-share.left.items ≡ left ++ one ∷ [] = c.in-Some.ensures.items in
    let has : P one = subst P c.share.view_is (subst (λ h. HasAll pen.number pen.seen h.log) c.loop-share.invariant.history c.audit.ensures.2) in
    let counts : c.share.inside.mark.amount ≡ count_of one = c.share.invariant.1 ∙ (c.share.invariant.2 ∙ ap count_of c.share.view_is) in
    let sums : sum_by count_of c.loop-share.left.items ≡ sum_by count_of left + count_of one = ap (sum_by count_of) is ∙ sum_by_push count_of left one in
    record {
      parts = search rules;
      amount = omega (arith, sums, counts, c.merge.ensures.amount, c.loop-share.invariant.amount);
      history = c.audit.ensures.0 ∙ c.loop-share.invariant.history;
      seen = λ all. c.loop-share.invariant.seen (subst (All P) (sym is) (All-push P left one all has));
    }
