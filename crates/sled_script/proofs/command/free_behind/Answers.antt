-- No text stands behind the token, and a text has one token in front.
use Rattle.std.proofs.Common.{[], ◌∷◌, None, ap, refl}
use Rattle.std.specs.Fmt.{decimal}
use Rattle.std.specs.Option.{option_map}
use Rattle.sled_pagecache.specs.State.{pid_of, stamp_of}
use Rattle.sled_script.proofs.Commands.{free_asked, token_rest, token_joined}
use Rattle.sled_script.proofs.command.free_behind.Goals as goal

pub returns-in_err-old-clause-none : goal.returns-in_err-old-clause-none
returns-in_err-old-clause-none c = rw c.from_residual.ensures (λ call asked. let free = free_asked _ call asked in c.in_err-old.ensures.none free.old None free.token)

pub returns-in-None-clause-some : goal.returns-in-None-clause-some
returns-in-None-clause-some c =
    let old = c.in_ok-old.old in
    let token = c.in_ok-old.ensures.some in
    (decimal (pid_of old) ∷ decimal (stamp_of old) ∷ [], (token.token, refl), token_joined _ _ _ [] token (ap (option_map (λ rest. rest.now)) c.in-None.is))

pub returns-in-Some-clause-none : goal.returns-in-Some-clause-none
returns-in-Some-clause-none c = λ call asked.
    let free = free_asked _ call asked in
    let rest = token_rest _ _ _ _ _ c.in_ok-old.ensures.some free.token in
    let some = ap (option_map (λ rest. rest.now)) c.in-Some.is in
    absurd (cc (some, rest))
