-- The two words in front are those of a token.
use Rattle.std.proofs.Common.{ap, refl}
use Rattle.std.specs.Option.{option_map}
use Rattle.sled_pagecache.specs.State.{pid_of, stamp_of}
use Rattle.sled_script.proofs.Commands.{one_page_word, token_words}
use Rattle.sled_script.proofs.command.arguments.token_of.Goals as goal

pub returns-in_err-rest-clause-none : goal.returns-in_err-rest-clause-none
returns-in_err-rest-clause-none c = rw c.from_residual.ensures (λ old last token.
    let page = one_page_word _ _ _ _ last old refl c.first_word.ensures token in
    page.1 (ap (option_map (λ rest. rest.now)) c.in_err-rest.was))

pub returns-in_err-number_of-clause-none : goal.returns-in_err-number_of-clause-none
returns-in_err-number_of-clause-none c = rw c.from_residual-in_err-number_of.ensures (λ old last token.
    let page = one_page_word _ _ _ _ last old refl c.first_word.ensures token in
    c.in_err-number_of.ensures.none (pid_of old) token.token.0 page.0)

pub returns-in_err-number_of-2-clause-none : goal.returns-in_err-number_of-2-clause-none
returns-in_err-number_of-2-clause-none c = rw c.from_residual-in_err-number_of-2.ensures (λ old last token.
    let words = token_words _ _ _ _ _ _ _ last old refl c.first_word.ensures (ap (option_map (λ rest. rest.now)) c.in_ok-rest.was) c.first_word-2.ensures token in
    c.in_err-number_of-2.ensures.none (stamp_of old) token.token.1 words.1)
