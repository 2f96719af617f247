-- The leaf's words stand behind the token, and a text has one of each.
use Rattle.std.proofs.Common.{◌∷◌, map, subst, sym, refl}
use Rattle.std.specs.Fmt.{decimal}
use Rattle.sled_pagecache.specs.State.{pid_of, stamp_of}
use Rattle.sled_script.specs.Asked.{EncodeLeaf}
use Rattle.sled_script.specs.Pairs.{pair_word}
use Rattle.sled_script.proofs.Commands.{replace_asked, token_rest, token_joined}
use Rattle.sled_script.proofs.command.replace_behind.Goals as goal

pub returns-in_default-clause-none : goal.returns-in_default-clause-none
returns-in_default-clause-none c = λ call asked.
    let other = replace_asked _ call asked in
    c.in_default.ensures.none other.old other.rest other.token

pub returns-in_default-2-clause-none : goal.returns-in_default-2-clause-none
returns-in_default-2-clause-none c = λ call asked.
    let other = replace_asked _ call asked in
    let rest = token_rest _ _ _ _ _ c.in-Some.ensures.some other.token in
    (rw c.in_default-2.is at c.in_ok-node.ensures.none) other.node (subst (λ text. EncodeLeaf text other.node) (sym rest) other.leaf)

pub returns-clause-some : goal.returns-clause-some
returns-clause-some c =
    let leaf = rw c.in-Some-2.is at c.in_ok-node.ensures.some in
    let old = c.in-Some.old in
    let token = c.in-Some.ensures.some in
    let words = map pair_word leaf.0 in
    (decimal (pid_of old) ∷ decimal (stamp_of old) ∷ words, (token.token, leaf.0, leaf.1, refl), token_joined _ _ _ words token leaf.2)
