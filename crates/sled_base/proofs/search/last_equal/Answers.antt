-- The last item that isn't above the key is the only one to look at.
use Rattle.std.proofs.Common.{◌<◌, map, sym, ◌∙◌, arith}
use Rattle.std.proofs.lemmas.List.{length-map}
use Rattle.std.specs.Cmp.Lexicographic.{same_text}
use Rattle.sled_base.proofs.search.last_equal.Goals as goal
use Rattle.sled_base.proofs.Searching.{HasNoKey, found_there, no_key, missing_there, differ}

pub returns-in-Some-clause-found : goal.returns-in-Some-clause-found
returns-in-Some-clause-found g c =
    let facts = c.count_at_most-count.ensures in
    found_there _ _ _ _ _ _ facts.bound facts.parted (omega arith) c.index-items-last.is (sym c.key.ensures ∙ same_text _ _ c.if-eq.ensures)

-- there is another key
other_key : (g : _) (c : goal.Else-eq g) → HasNoKey c.args.key.now (map g.T.Keyed.key_of c.args.items.now) c.count_at_most-count.result
other_key g c =
    let facts = c.count_at_most-count.ensures in
    missing_there _ _ _ _ _ _ c.requires facts.bound facts.parted (omega arith) c.index-items-last.is (λ same. differ _ _ (sym c.if-eq.ensures) (c.key.ensures ∙ same))

-- there is no such item
no_item : (g : _) (c : goal.In_default g) → HasNoKey c.args.key.now (map g.T.Keyed.key_of c.args.items.now) c.count_at_most-count.result
no_item g c =
    let facts = c.count_at_most-count.ensures in
    let none : c.count_at_most-count.result < 1 = omega arith in
    no_key _ _ _ c.requires (rw length-map facts.bound) facts.parted (λ some. absurd (omega arith))

pub returns-in_default-clause-missing : goal.returns-in_default-clause-missing
returns-in_default-clause-missing g c = (other_key g c).missing

pub returns-in_default-clause-below : goal.returns-in_default-clause-below
returns-in_default-clause-below g c = (other_key g c).below

pub returns-in_default-2-clause-missing : goal.returns-in_default-2-clause-missing
returns-in_default-2-clause-missing g c = (no_item g c).missing

pub returns-in_default-2-clause-below : goal.returns-in_default-2-clause-below
returns-in_default-2-clause-below g c = (no_item g c).below
