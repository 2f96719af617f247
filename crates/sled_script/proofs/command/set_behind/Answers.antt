-- The words of the key and of the value stand behind the token, and a text has one first of each.
use Rattle.std.proofs.Common.{[], ◌∷◌, refl, subst, sym}
use Rattle.std.specs.Fmt.{decimal}
use Rattle.sled_pagecache.specs.State.{pid_of, stamp_of}
use Rattle.sled_lines.specs.Words.{AreTwo, bytes_word}
use Rattle.sled_lines.proofs.Joined.{two_once, are_words}
use Rattle.sled_script.proofs.Commands.{set_asked, token_rest, token_joined}
use Rattle.sled_script.proofs.command.set_behind.Goals as goal

pub returns-in_default-clause-none : goal.returns-in_default-clause-none
returns-in_default-clause-none c = λ call asked.
    let set = set_asked _ call asked in
    c.in_default.ensures.none set.old set.rest set.token

pub returns-in_default-two_words-clause-none : goal.returns-in_default-two_words-clause-none
returns-in_default-two_words-clause-none c = λ call asked.
    let set = set_asked _ call asked in
    let rest = token_rest _ _ _ _ _ c.in-Some.ensures.some set.token in
    c.in_default-two_words.ensures.none _ _ (subst (λ text. AreTwo text (bytes_word set.key) (bytes_word set.value)) (sym rest) set.words)

pub returns-in_default-2-clause-none : goal.returns-in_default-2-clause-none
returns-in_default-2-clause-none c = λ call asked.
    let set = set_asked _ call asked in
    let rest = token_rest _ _ _ _ _ c.in-Some.ensures.some set.token in
    let once = two_once _ _ _ _ _ c.in-Some-two_words.ensures.some (subst (λ text. AreTwo text (bytes_word set.key) (bytes_word set.value)) (sym rest) set.words) in
    (rw c.in_default-2.is at c.in_ok-key.ensures.none) set.key set.bytes.0 once.0

pub returns-in_default-3-clause-none : goal.returns-in_default-3-clause-none
returns-in_default-3-clause-none c = λ call asked.
    let set = set_asked _ call asked in
    let rest = token_rest _ _ _ _ _ c.in-Some.ensures.some set.token in
    let once = two_once _ _ _ _ _ c.in-Some-two_words.ensures.some (subst (λ text. AreTwo text (bytes_word set.key) (bytes_word set.value)) (sym rest) set.words) in
    (rw c.in_default-3.is at c.in_ok-value.ensures.none) set.value set.bytes.1 once.1

pub returns-clause-some : goal.returns-clause-some
returns-clause-some c =
    let key = rw c.in-Some-2.is at c.in_ok-key.ensures in
    let value = rw c.in-Some-3.is at c.in_ok-value.ensures in
    let old = c.in-Some.old in
    let token = c.in-Some.ensures.some in
    let words = bytes_word c.in-Some-2.key ∷ bytes_word c.in-Some-3.value ∷ [] in
    let rest = are_words _ _ _ _ _ c.in-Some-two_words.ensures.some key.some value.some in
    (decimal (pid_of old) ∷ decimal (stamp_of old) ∷ words, (token.token, key.bytes, value.bytes, refl), token_joined _ _ _ words token rest)
