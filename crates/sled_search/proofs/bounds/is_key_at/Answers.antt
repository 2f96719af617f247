use Rattle.std.proofs.Common.{◌≡◌, ◌≢◌, ◌++◌, List, ℕ, Bor, Option, subst, sym, ◌∙◌}
use Rattle.std.specs.Option.{MatchOption}
use Rattle.std.proofs.lemmas.Bool.Decides.{Decides-eqb}
use Rattle.std.proofs.lemmas.Slice.Eq.{bytes_eq-Decides, strip_prefix_is}
use Rattle.sled_node.specs.Parts.{item_of}
use Rattle.sled_search.proofs.Counts.{found-is, found-other}
use Rattle.sled_search.proofs.bounds.is_key_at.Goals as goal

-- what the answer of `strip_prefix` says
abbrev Cut : List ℕ → List ℕ → Option (Bor (List ℕ)) → Type 0
Cut key prefix cut = MatchOption cut ((rest : List ℕ) → key ≢ prefix ++ rest) (λ rest. key ≡ prefix ++ rest.now)

pub returns-in-Some : goal.returns-in-Some
returns-in-Some c found item there =
    let key = c.args.key.now in
    let front = c.prefix.result.now in
    let cut : Cut key front c.strip_prefix.result = strip_prefix_is Decides-eqb key front c.strip_prefix.result c.strip_prefix.ensures.cases in
    let is = subst (Cut key front) c.in-Some.is cut in
    let both = found-is c.args.node.now.pairs c.args.at front c.pair.result.0.now c.in-Some.rest.now key found (item_of c.pair.result.1) item (rw (c.prefix.ensures) c.pair.ensures) is there in
    let same = bytes_eq-Decides c.in-Some.rest.now c.pair.result.0.now in
    ((λ yes. both.0 (same.0 (sym c.eq.ensures ∙ yes))), (λ e. c.eq.ensures ∙ same.1 (both.1 e)))

pub returns-in-None : goal.returns-in-None
returns-in-None c found item there =
    let key = c.args.key.now in
    let front = c.prefix.result.now in
    let cut : Cut key front c.strip_prefix.result = strip_prefix_is Decides-eqb key front c.strip_prefix.result c.strip_prefix.ensures.cases in
    let none = subst (Cut key front) c.in-None.is cut in
    ((λ yes. absurd (let e = yes in cc)), (λ e. absurd (found-other c.args.node.now.pairs c.args.at front c.pair.result.0.now key found (item_of c.pair.result.1) item (rw (c.prefix.ensures) c.pair.ensures) none there e)))
