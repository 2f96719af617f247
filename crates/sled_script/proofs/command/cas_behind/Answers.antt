-- The name's word stands in front of two root pages, and a text has one of each.
use Rattle.std.proofs.Common.{[], ◌∷◌, Some, ap, sym, subst, ◌∙◌, refl}
use Rattle.std.specs.List.{join_with_byte}
use Rattle.sled_lines.specs.Words.{bytes_word}
use Rattle.sled_lines.proofs.Joined.{two_once}
use Rattle.sled_script.specs.Asked.{EncodeRoots}
use Rattle.sled_script.specs.Commands.{root_word}
use Rattle.sled_script.proofs.Commands.{cas_asked}
use Rattle.sled_script.proofs.command.cas_behind.Goals as goal

pub returns-in_default-clause-none : goal.returns-in_default-clause-none
returns-in_default-clause-none c = λ call asked.
    let cas = cas_asked _ call asked in
    c.in_default.ensures.none (bytes_word cas.name) cas.rest cas.words

pub returns-in_default-two_roots-clause-none : goal.returns-in_default-two_roots-clause-none
returns-in_default-two_roots-clause-none c = λ call asked.
    let cas = cas_asked _ call asked in
    let same = two_once _ _ _ _ _ c.in-Some.ensures.some cas.words in
    c.in_default-two_roots.ensures.none cas.old cas.new (subst (λ text. EncodeRoots text cas.old cas.new) (sym same.1) cas.roots)

pub returns-in_default-2-clause-none : goal.returns-in_default-2-clause-none
returns-in_default-2-clause-none c = λ call asked.
    let cas = cas_asked _ call asked in
    let same = two_once _ _ _ _ _ c.in-Some.ensures.some cas.words in
    (rw c.in_default-2.is at c.in_ok-name.ensures.none) cas.name cas.bytes same.0

pub returns-clause-some : goal.returns-clause-some
returns-clause-some c =
    let name = rw c.in-Some-2.is at c.in_ok-name.ensures in
    let two = c.in-Some.ensures.some in
    let roots = c.in-Some-two_roots.ensures.some in
    let old = root_word c.in-Some-two_roots.old in
    let new = root_word c.in-Some-two_roots.new in (
      bytes_word c.in-Some-2.name ∷ old ∷ new ∷ [],
      (name.bytes, roots.numbers.0, roots.numbers.1, refl),
      two.joined ∙ ap (λ word. Some (join_with_byte 32 (word ∷ c.in-Some.roots.now ∷ []))) name.some ∙ ap (λ rest. Some (join_with_byte 32 (bytes_word c.in-Some-2.name ∷ rest ∷ []))) roots.joined,
    )
