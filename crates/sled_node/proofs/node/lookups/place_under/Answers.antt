use Rattle.std.proofs.Common.{◌≡◌, ◌≢◌, ◌++◌, List, ℕ, Bor, Option, subst}
use Rattle.std.specs.Option.{MatchOption}
use Rattle.std.proofs.lemmas.Bool.Decides.{Decides-eqb}
use Rattle.std.proofs.lemmas.Slice.Eq.{strip_prefix_is}
use Rattle.sled_node.specs.Node.{Value}
use Rattle.sled_node.proofs.WholePlaces.{found_under, same_under, missing_under, gap_first, gap_last}
use Rattle.sled_node.proofs.node.lookups.place_under.Goals as goal

-- what the answer of `strip_prefix` says
abbrev Cut : List ℕ → List ℕ → Option (Bor (List ℕ)) → Type 0
Cut key prefix cut = MatchOption cut ((rest : List ℕ) → key ≢ prefix ++ rest) (λ rest. key ≡ prefix ++ rest.now)

pub returns-in-Some-clause-found : goal.returns-in-Some-clause-found
returns-in-Some-clause-found c =
    let cut : Cut c.args.key.now c.args.prefix.now c.strip_prefix.result = strip_prefix_is Decides-eqb c.args.key.now c.args.prefix.now c.strip_prefix.result c.strip_prefix.ensures.cases in
    let is = subst (Cut c.args.key.now c.args.prefix.now) c.in-Some.is cut in
    found_under c.args.prefix.now (λ v. Value v) c.args.leaf.now c.args.key.now c.in-Some.stored.now c.place_of_key.result is c.place_of_key.ensures.found

pub returns-in-Some-clause-same : goal.returns-in-Some-clause-same
returns-in-Some-clause-same c =
    let cut : Cut c.args.key.now c.args.prefix.now c.strip_prefix.result = strip_prefix_is Decides-eqb c.args.key.now c.args.prefix.now c.strip_prefix.result c.strip_prefix.ensures.cases in
    let is = subst (Cut c.args.key.now c.args.prefix.now) c.in-Some.is cut in
    same_under c.args.prefix.now (λ v. Value v) c.args.leaf.now c.args.key.now c.in-Some.stored.now c.place_of_key.result is c.place_of_key.ensures.found c.place_of_key.ensures.same

pub returns-in-Some-clause-missing : goal.returns-in-Some-clause-missing
returns-in-Some-clause-missing c =
    let cut : Cut c.args.key.now c.args.prefix.now c.strip_prefix.result = strip_prefix_is Decides-eqb c.args.key.now c.args.prefix.now c.strip_prefix.result c.strip_prefix.ensures.cases in
    let is = subst (Cut c.args.key.now c.args.prefix.now) c.in-Some.is cut in
    missing_under c.args.prefix.now (λ v. Value v) c.args.leaf.now c.args.key.now c.in-Some.stored.now c.place_of_key.result is c.place_of_key.ensures.missing

pub returns-in-None-clause-missing : goal.returns-in-None-clause-missing
returns-in-None-clause-missing c = gap_first c.args.prefix.now (λ v. Value v) c.args.leaf.now c.args.key.now (c.is_below.ensures.0 c.if-is_below.true)

pub returns-in-None-2-clause-missing : goal.returns-in-None-2-clause-missing
returns-in-None-2-clause-missing c =
    let cut : Cut c.args.key.now c.args.prefix.now c.strip_prefix.result = strip_prefix_is Decides-eqb c.args.key.now c.args.prefix.now c.strip_prefix.result c.strip_prefix.ensures.cases in
    let other = subst (Cut c.args.key.now c.args.prefix.now) c.in-None.is cut in
    rw (c.len.ensures) (gap_last c.args.prefix.now (λ v. Value v) c.args.leaf.now c.args.key.now other (λ lt. let yes = c.is_below.ensures.1 lt in absurd cc))
