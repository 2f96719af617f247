-- The last string that isn't above the key is the only one to look at.
use Rattle.std.proofs.Common.{◌≡◌, ◌+◌, ◌-◌, ◌<◌, get_or, take, ap, sym, subst, ◌∙◌, arith}
use Rattle.std.proofs.lemmas.List.{length-take-le}
use Rattle.std.proofs.lemmas.Option.{get_or_from_slice_get}
use Rattle.std.specs.Cmp.Lexicographic.{same_text}
use Rattle.sled_base.specs.Searches.{IsCountAtMost}
use Rattle.sled_base.proofs.Searching.{HasNoKey, last_is_key, no_key, differ}
use Rattle.sled_base.proofs.StringEdits.{among_first}
use Rattle.sled_base.proofs.prefix.search_spans.Goals as goal

pub returns-in-Some-clause-found : goal.returns-in-Some-clause-found
returns-in-Some-clause-found c =
    let strings = c.args.strings.now in
    let keys = take c.args.count strings in
    let facts = c.count_up_to-most.ensures in
    let many = length-take-le c.args.count strings c.requires.within in
    let last = c.in-Some.last in
    let next : last + 1 ≡ c.count_up_to-most.result = omega arith in
    last_is_key c.args.key.now keys last (omega (arith, many, facts.bound, next)) (subst (IsCountAtMost c.args.key.now keys) (sym next) facts.parted)
    (λ d. among_first strings c.args.count last d (omega (arith, facts.bound, next)) ∙ get_or_from_slice_get strings last c.get.result.now d c.get.ensures ∙ same_text _ _ c.if-eq.ensures)

-- there is another string
other_string : (c : goal.Else-eq) → HasNoKey c.args.key.now (take c.args.count c.args.strings.now) c.count_up_to-most.result
other_string c =
    let strings = c.args.strings.now in
    let keys = take c.args.count strings in
    let facts = c.count_up_to-most.ensures in
    let many = length-take-le c.args.count strings c.requires.within in
    let last = c.in-Some.last in
    let next : last ≡ c.count_up_to-most.result - 1 = omega arith in
    let below : last < c.args.count = omega (arith, facts.bound) in
    no_key c.args.key.now keys c.count_up_to-most.result c.requires.sorted (omega (arith, many, facts.bound)) facts.parted
    (λ some d same. differ _ _ (sym c.if-eq.ensures) (sym (among_first strings c.args.count last d below ∙ get_or_from_slice_get strings last c.get.result.now d c.get.ensures) ∙ ap (λ k. get_or keys k d) next ∙ same))

-- there is none that isn't above
no_string : (c : goal.In_default) → HasNoKey c.args.key.now (take c.args.count c.args.strings.now) c.count_up_to-most.result
no_string c =
    let facts = c.count_up_to-most.ensures in
    let many = length-take-le c.args.count c.args.strings.now c.requires.within in
    let none : c.count_up_to-most.result < 1 = omega arith in
    no_key _ _ _ c.requires.sorted (omega (arith, many, facts.bound)) facts.parted (λ some. absurd (omega arith))

pub returns-in_default-clause-missing : goal.returns-in_default-clause-missing
returns-in_default-clause-missing c = (other_string c).missing

pub returns-in_default-clause-below : goal.returns-in_default-clause-below
returns-in_default-clause-below c = (other_string c).below

pub returns-in_default-2-clause-missing : goal.returns-in_default-2-clause-missing
returns-in_default-2-clause-missing c = (no_string c).missing

pub returns-in_default-2-clause-below : goal.returns-in_default-2-clause-below
returns-in_default-2-clause-below c = (no_string c).below
