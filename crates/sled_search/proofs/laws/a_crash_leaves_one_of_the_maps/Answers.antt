use Rattle.std.proofs.Common.{◌≡◌, ◌≤◌, List, ◌++◌, length, take, append_assoc, sym, ◌∙◌, ap, subst, arith}
use Rattle.sled_log.specs.Contents.{Content, Update, contents_after}
use Rattle.sled_log.specs.Events.{Event}
use Rattle.sled_search.specs.Search.{IsTreeOf}
use Rattle.sled_search.proofs.Changes.{passed, take-front, length-front}
use Rattle.sled_search.proofs.laws.a_crash_leaves_one_of_the_maps.Goals as goal

pub returns-clause-prefix : goal.returns-clause-prefix
returns-clause-prefix c pages root m events maps passes n within =
    let one = passed pages root m events maps passes n within in
    (one.then, one.at, one.tree)

pub returns-clause-crash : goal.returns-clause-crash
returns-clause-crash c pages root m made begun maps passes left crash =
    let rest = crash.beginning.0 in
    let all : (made ++ crash.came) ++ rest ≡ made ++ begun = append_assoc made crash.came rest ∙ ap (λ (es : List (Event Update)). made ++ es) crash.beginning.1 in
    let within : crash.cut ≤ length (made ++ crash.came) = crash.fair.within in
    let one = passed pages root m (made ++ begun) maps passes crash.cut (subst (λ (es : List (Event Update)). crash.cut ≤ length es) all (omega (arith, within, length-front (made ++ crash.came) rest))) in
    let same : take crash.cut (made ++ begun) ≡ take crash.cut (made ++ crash.came) = ap (λ (es : List (Event Update)). take crash.cut es) (sym all) ∙ take-front crash.cut (made ++ crash.came) rest within in
    (one.then, one.at, subst (λ (ps : List Content). IsTreeOf ps root one.then) (ap (λ (es : List (Event Update)). contents_after pages es) same ∙ sym crash.is) one.tree)
