-- The key's word stands behind the token, and a text has one of each.
use Rattle.std.proofs.Common.{◌≡◌, [], ◌∷◌, Some, ap, ◌∙◌, refl}
use Rattle.std.specs.Fmt.{decimal}
use Rattle.std.specs.Option.{option_map}
use Rattle.sled_pagecache.specs.State.{pid_of, stamp_of}
use Rattle.sled_lines.specs.Words.{bytes_word}
use Rattle.sled_script.proofs.Commands.{del_asked, token_rest, token_joined}
use Rattle.sled_script.proofs.command.del_behind.Goals as goal

pub returns-in_default-clause-none : goal.returns-in_default-clause-none
returns-in_default-clause-none c = λ call asked.
    let del = del_asked _ call asked in
    c.in_default.ensures.none del.old (Some (bytes_word del.key)) del.token

pub returns-in_default-rest-clause-none : goal.returns-in_default-rest-clause-none
returns-in_default-rest-clause-none c = λ call asked.
    let del = del_asked _ call asked in
    let rest = token_rest _ _ _ _ _ c.in-Some.ensures.some del.token in
    let none = ap (option_map (λ rest. rest.now)) c.in_default-rest.is in
    absurd (cc (none, rest))

pub returns-in_default-2-clause-none : goal.returns-in_default-2-clause-none
returns-in_default-2-clause-none c = λ call asked.
    let del = del_asked _ call asked in
    let rest = token_rest _ _ _ _ _ c.in-Some.ensures.some del.token in
    let some = ap (option_map (λ rest. rest.now)) c.in-Some-rest.is in
    let same : c.in-Some-rest.word.now ≡ bytes_word del.key = cc (rest, some) in
    (rw c.in_default-2.is at c.in_ok-key.ensures.none) del.key del.bytes same

pub returns-clause-some : goal.returns-clause-some
returns-clause-some c =
    let key = rw c.in-Some-2.is at c.in_ok-key.ensures in
    let old = c.in-Some.old in
    let rest = ap (option_map (λ rest. rest.now)) c.in-Some-rest.is ∙ ap Some key.some in
    let token = c.in-Some.ensures.some in
    (decimal (pid_of old) ∷ decimal (stamp_of old) ∷ bytes_word c.in-Some-2.key ∷ [], (token.token, key.bytes, refl), token_joined _ _ _ (bytes_word c.in-Some-2.key ∷ []) token rest)
